use Rattle.std.proofs.Common.{◌≡◌, ◌++◌, drop, map}
use Rattle.std.specs.Fmt.{decimal}
use Rattle.text_streams.specs.Spelling.{all_spaced}
use Rattle.text_streams.proofs.printing.put_keys.Given as goal

-- what was put, and what is left, are all of them
abbrev pub invariant-loop-key : goal.invariant-loop-key
invariant-loop-key l =
    l.text.items ++ all_spaced (map decimal (drop l.key-index l.keys)) ≡ l.initial.text.items
    ++ all_spaced (map decimal l.keys)
