-- The image that a unit begins with (profile): the plan's text without its keys and associations, and the content of
-- the state that the plan's lines make.
use Rattle.std.specs.Prelude.{◌≡◌, ℕ, List, [], Ok}
use Rattle.sdls_base.specs.declared.version.Version.TheVariants.{Two}
use Rattle.unit_plan.specs.PlanLines.{PlanLines}
use Rattle.unit_plan.specs.Plan.{plan_of}
use Rattle.unit_plan.specs.Bare.{bare_of}
use Rattle.unit_state.specs.declared.state.State.{State}
use Rattle.unit_state.specs.Initial.{initial}
use Rattle.unit_image.specs.Content.{content_of}
use Rattle.disk_journal.specs.declared.layout.HeaderForm.TheVariants.{New}
use Rattle.disk_journal.specs.Image.{Held}
use Rattle.disk_journal.specs.Initial.{created_image}

-- the text says this plan, and the plan's lines make this state
pub record SaysPlan (text : List ℕ) (plan : PlanLines) (first : State) : Type 0 where
  pub read : plan_of text ≡ Ok plan
  pub made : initial plan ≡ Ok first

-- the image of a plan's text and of a state, of version 2: the bare plan, and the content of the state with no records
abbrev pub image_of_plan : List ℕ → PlanLines → State → List ℕ
image_of_plan text plan first = created_image New (bare_of text) plan.slots (content_of Two first)

-- what this image holds: the bare plan, the slots of the plan, version 2, the content, and no records
abbrev pub held_of_plan : List ℕ → PlanLines → State → Held
held_of_plan text plan first = record {
  plan = bare_of text;
  slots = plan.slots;
  version = Two;
  content = content_of Two first;
  records = [];
}
