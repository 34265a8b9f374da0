use Rattle.std.proofs.Common.{◌≡◌, length}
use Rattle.input_text.specs.Plain.{is_skipped}
use Rattle.input_text.proofs.line.is_skipped.Given as goal

-- what was passed so far were spaces
abbrev pub invariant-loop-rest : goal.invariant-loop-rest
invariant-loop-rest l = is_skipped l.rest ≡ is_skipped l.text

abbrev pub decreases-loop-rest : goal.decreases-loop-rest
decreases-loop-rest l = length l.rest
