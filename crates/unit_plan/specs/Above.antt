-- Profile: a text read on behind lines at fault.
use Rattle.std.specs.Prelude.{ℕ, nat_lt, Option, Some, None, if◌then◌else◌}
use Rattle.unit_plan.specs.declared.above.Spot.{Spot}
use Rattle.unit_plan.specs.declared.above.Expected.TheVariants as expected

-- what is missing if a text ends with so many of its first five lines: the next of them
abbrev pub missing_head : ℕ → Option Spot
missing_head heads = if nat_lt heads 5 then Some (record { word = 1; expected = expected.Head heads }) else None
