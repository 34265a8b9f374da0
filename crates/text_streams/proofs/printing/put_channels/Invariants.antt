use Rattle.std.proofs.Common.{◌≡◌, ◌++◌, drop, map}
use Rattle.std.specs.Fmt.{decimal}
use Rattle.text_streams.specs.Spelling.{all_spaced}
use Rattle.text_streams.proofs.printing.put_channels.Given as goal

-- what was put, and what is left, are all of them
abbrev pub invariant-loop-channel : goal.invariant-loop-channel
invariant-loop-channel l =
    l.text.items ++ all_spaced (map decimal (drop l.channel-index l.channels))
    ≡ l.initial.text.items ++ all_spaced (map decimal l.channels)
