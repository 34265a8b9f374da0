-- Key octets, device field and number, over the lives of two units (profile).
use Rattle.std.specs.Prelude.{◌≡◌, ℕ, List, Ok}
use Rattle.std.specs.List.{All}
use Rattle.unit_image.specs.Image.{held}
use Rattle.unit_plan.specs.Plan.{plan_of}
use Rattle.unit_plan.specs.PlanLines.{PlanLines}
use Rattle.run_promise.specs.Life.{Given, LifeRun, UsesOctets}

-- the answer uses the number under a key that had these octets, in a unit with this device field
pub record UsesTriple (given : Given) (octets device : List ℕ) (number : ℕ) : Type 0 where
  pub key : ℕ
  pub uses : UsesOctets given key octets number
  pub device_is : given.course.begin.plan.device ≡ device

-- no triple is used by both answers
abbrev pub AreTriplesApart : Given → Given → Type 0
AreTriplesApart one other = (octets device : List ℕ) (number : ℕ) → UsesTriple one octets device number
    → ¬ UsesTriple other octets device number

-- Premise: the plan in the image has this device field
abbrev pub SaysDevice : List ℕ → List ℕ → Type 0
SaysDevice image device = (plan : PlanLines) × (plan_of (held image).plan ≡ Ok plan) × (plan.device ≡ device)

-- each run of the life has this device field
abbrev pub HaveDevice : List ℕ → List LifeRun → Type 0
HaveDevice device runs = All (λ run. run.course.begin.plan.device ≡ device) runs
