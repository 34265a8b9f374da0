use Rattle.std.proofs.Common.{◌≡◌, drop}
use Rattle.unit_plan.specs.Channels.{are_known}
use Rattle.unit_plan.proofs.plan.Channels.are_known.Given as goal

abbrev pub invariant-loop-number : goal.invariant-loop-number
invariant-loop-number l = are_known l.self l.numbers ≡ are_known l.self (drop l.number-index l.numbers)
