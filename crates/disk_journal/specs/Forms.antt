-- What an image holds, and what its opened forms hold (profile).
use Rattle.std.specs.Prelude.{◌≡◌, ◌⊎◌, ℕ, List, length, None, slice_index}
use Rattle.disk_journal.specs.declared.layout.TheConstants.{OPEN}
use Rattle.disk_journal.specs.Image.{Held, held, IsClosedGate, IsOpenedForm}
use Rattle.disk_journal.specs.Fault.{image_fault}

-- the image opens, and holds this
pub record Holds (image : List ℕ) (what : Held) : Type 0 where
  pub opens : image_fault image ≡ None
  pub is : held image ≡ what

-- At most one closed gate is other than 0, and an opened form has none, or one that is 1.
pub record HasOneClosed (image : List ℕ) : Type 0 where
  pub one : (at beside : ℕ) → IsClosedGate image at → IsClosedGate image beside → at ≡ beside
  pub opened : (form : List ℕ) (at : ℕ) → IsOpenedForm image form → IsClosedGate form at → slice_index form at ≡ OPEN

-- The image holds the old or the new, and each of its opened forms holds the new.
pub record Becomes (old new : Held) (image : List ℕ) : Type 0 where
  pub holds : Holds image old ⊎ Holds image new
  pub forms : (form : List ℕ) → IsOpenedForm image form → Holds form new
  pub settled : HasOneClosed image

-- new is old, but for what stands at the closed gates of old that are not 0
pub record Regates (old new : List ℕ) : Type 0 where
  pub same_length : length new ≡ length old
  pub others : (i : ℕ) → (IsClosedGate old i → ⊥) → slice_index new i ≡ slice_index old i

-- While an image is brought to rest: it is the old one but for its closed gates, or it holds what the old one holds, as
-- its opened forms do.
abbrev pub Settles : List ℕ → List ℕ → Type 0
Settles old new = Regates old new ⊎ Becomes (held old) (held old) new

-- Left holds what the image holds, or is one of its opened forms; an opened form of left is the image, or one of its
-- opened forms.
pub record StaysWithin (image left : List ℕ) : Type 0 where
  pub holds : Holds left (held image) ⊎ IsOpenedForm image left
  pub forms : (form : List ℕ) → IsOpenedForm left form → (form ≡ image) ⊎ IsOpenedForm image form
  pub settled : HasOneClosed left
