-- The body of an answer to a frame that is to be protected (profile).
use Rattle.std.specs.Prelude.{ℕ, ◌≤◌, ⊤}
use Rattle.shared_unit.specs.declared.permit.Protected.{Protected}
use Rattle.shared_unit.specs.declared.permit.Protected.TheVariants as answers

-- the frame, if one was protected, is no longer than its room, nor than its answer's body may be
abbrev pub FitsIn : Protected → ℕ → ℕ → Type 0
FitsIn (answers.Done done) room most = (done.length ≤ room) × (done.length ≤ most)
FitsIn answers.Clear room most = ⊤
FitsIn (answers.Refused fault epoch) room most = ⊤
FitsIn (answers.Exhausted key number epoch) room most = ⊤
FitsIn (answers.Fault fault position) room most = ⊤
