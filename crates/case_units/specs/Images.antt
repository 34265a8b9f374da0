-- The image of each version that a unit begins with (profile).
use Rattle.std.specs.Prelude.{ℕ, List}
use Rattle.sdls_base.specs.declared.version.Version.{Version}
use Rattle.sdls_base.specs.declared.version.Version.TheVariants.{One, Two}
use Rattle.unit_plan.specs.PlanLines.{PlanLines}
use Rattle.unit_plan.specs.Bare.{bare_of}
use Rattle.unit_state.specs.declared.state.State.{State}
use Rattle.unit_image.specs.Content.{content_of}
use Rattle.unit_image.specs.Beginning.{image_of_plan}
use Rattle.disk_journal.specs.declared.layout.HeaderForm.TheVariants.{Old}
use Rattle.disk_journal.specs.Initial.{created_image}

-- the image of a plan's text and of a state: as earlier programs made it, and as it is made now
abbrev pub first_image : Version → List ℕ → PlanLines → State → List ℕ
first_image One text plan first = created_image Old (bare_of text) plan.slots (content_of One first)
first_image Two text plan first = image_of_plan text plan first
