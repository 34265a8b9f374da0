use Rattle.std.proofs.Common.{◌-◌, ◌≤◌, length}
use Rattle.input_text.proofs.NumberLists.{Taken}
use Rattle.input_text.proofs.commands.channel_numbers.Given as goal

abbrev pub invariant-words : goal.invariant-words
invariant-words l = Taken (λ channel. channel ≤ 63) l.fn.fields l.fields l.numbers.items × (1 ≤ length l.numbers.items)
    × (length l.numbers.items ≤ 8)

abbrev pub decreases-words : goal.decreases-words
decreases-words l = 8 - length l.numbers.items
