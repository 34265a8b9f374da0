use Rattle.std.proofs.Common.{◌≡◌, ℕ, ◌*◌, ◌<◌, get_or}
use Rattle.disk_journal.specs.declared.layout.TheConstants.{SLOT_LENGTH}
use Rattle.disk_journal.proofs.header.first_other_of.Given as goal

abbrev pub invariant-loop-index : goal.invariant-loop-index
invariant-loop-index l = (k : ℕ) → k < l.index → get_or l.slots (SLOT_LENGTH * k) 0 ≡ l.gate
