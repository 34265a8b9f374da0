-- What an opening that a crash cuts off leaves of what an image holds (profile).
use Rattle.std.specs.Prelude.{◌≡◌, ◌⊎◌, ℕ, List, None}
use Rattle.unit_state.specs.declared.state.State.{State}
use Rattle.disk_journal.specs.Image.{held, IsOpenedForm}
use Rattle.disk_journal.specs.Fault.{image_fault}
use Rattle.disk_journal.specs.Forms.{Holds, HasOneClosed}
use Rattle.unit_image.specs.OpeningImage.{IsHeldNext}
use Rattle.unit_image.specs.Shows.{Shows}

-- Left holds what the image holds, and so does each opened form of left.
pub record HoldsSame (image left : List ℕ) : Type 0 where
  pub holds : Holds left (held image)
  pub forms : (form : List ℕ) → IsOpenedForm left form → Holds form (held image)
  pub settled : HasOneClosed left

-- left opens, and holds what the image holds, or its migration
pub record HoldsNext (image left : List ℕ) : Type 0 where
  pub opens : image_fault left ≡ None
  pub next : IsHeldNext image (held left)

-- Left holds what the image holds, or its migration, or is one of its opened forms; and so for each opened form of
-- left.
pub record KeepsForms (image left : List ℕ) : Type 0 where
  pub holds : HoldsNext image left ⊎ IsOpenedForm image left
  pub forms : (form : List ℕ) → IsOpenedForm left form → HoldsNext image form ⊎ IsOpenedForm image form
  pub settled : HasOneClosed left

-- the image shows the state, and so does each of its opened forms
pub record ShowsThroughout (image : List ℕ) (state : State) : Type 0 where
  pub shows : Shows image state
  pub forms : (form : List ℕ) → IsOpenedForm image form → Shows form state

-- the image shows the state, or one of its opened forms does
abbrev pub IsShown : List ℕ → State → Type 0
IsShown image state = Shows image state ⊎ ((form : List ℕ) × IsOpenedForm image form × Shows form state)
