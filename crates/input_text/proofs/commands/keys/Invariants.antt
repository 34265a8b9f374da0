use Rattle.std.proofs.Common.{◌-◌, ◌≤◌, length, IsTrue}
use Rattle.ep_codec.specs.Field.{is_key}
use Rattle.input_text.proofs.NumberLists.{Taken}
use Rattle.input_text.proofs.commands.keys.Given as goal

abbrev pub invariant-words : goal.invariant-words
invariant-words l = Taken (λ key. IsTrue (is_key key)) l.fn.fields l.fields l.keys.items × (1 ≤ length l.keys.items)
    × (length l.keys.items ≤ 8)

abbrev pub decreases-words : goal.decreases-words
decreases-words l = 8 - length l.keys.items
