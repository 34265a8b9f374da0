-- How much of an input the words may take.
use Rattle.std.specs.Prelude.{ℕ, ◌+◌, List}
use Rattle.sdls_outside.specs.Intake.{TakesAtMost}
use Rattle.unit_plan.specs.declared.TheConstants.{MOST_OCTETS}
use Rattle.cli_check.specs.declared.check.TheConstants.{GREATEST_LENGTH}

-- `check`: one octet more than a frame may have
abbrev pub TakesFrame : List ℕ → List ℕ → Type 0
TakesFrame before after = TakesAtMost (GREATEST_LENGTH + 1) before after

-- `init`: one octet more than a plan may have
abbrev pub TakesPlan : List ℕ → List ℕ → Type 0
TakesPlan before after = TakesAtMost (MOST_OCTETS + 1) before after
