use Rattle.std.proofs.Common.{◌≡◌, ℕ, ◌<◌, get_or}
use Rattle.unit_drill.specs.Frames.{field_octet}
use Rattle.unit_drill.proofs.records.data_field.Given as goal

abbrev pub invariant-loop-place : goal.invariant-loop-place
invariant-loop-place l = (k : ℕ) → k < l.place → get_or l.octet-items k 0 ≡ field_octet l.number k
