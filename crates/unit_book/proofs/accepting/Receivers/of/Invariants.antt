use Rattle.std.proofs.Common.{◌≡◌, ℕ, false, take, All}
use Rattle.sa_book.specs.SaRefusal.{receives_with}
use Rattle.unit_book.specs.Receivers.{is_noted}
use Rattle.unit_book.proofs.accepting.Receivers.of.Given as goal

abbrev pub invariant-loop-row : goal.invariant-loop-row
invariant-loop-row l = (key : ℕ) → is_noted key l.receivers.places ≡ false
    → All (λ row. receives_with key row ≡ false) (take l.row-index l.associations)
