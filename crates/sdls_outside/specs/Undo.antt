-- What a site in memory keeps of a write, so that a crash can undo it (profile).
use Rattle.std.specs.Prelude.{ℕ, ◌+◌, ◌<◌, ◌≤◌, ⊤, List, [], ◌∷◌, ◌++◌, length, take, drop}
use Rattle.std.specs.Coded.{×_prop, Unit-prop, le_prop}
use mathlib.Core.HLevel.{Π_prop}
use Rattle.sdls_outside.specs.declared.history.Undo.{Undo}

-- the range that was written: its first octet, and how many
abbrev pub range_of : Undo → ℕ × ℕ
range_of undo = (undo.at, undo.count)

-- the image before the write, from the one after it
abbrev pub undone : Undo → List ℕ → List ℕ
undone undo image = take undo.at image ++ undo.before.items ++ drop (undo.at + undo.count) image

-- the image before all these writes, the newest first
abbrev pub played_back : List Undo → List ℕ → List ℕ
played_back [] image = image
played_back (undo ∷ earlier) image = played_back earlier (undone undo image)

-- the octets from before lie in the image; they are fewer than were written only if these reach the image's end
pub record CanUndo (undo : Undo) (image : List ℕ) : Type 0 where
  pub within : undo.at + length undo.before.items ≤ length image
  pub no_more : length undo.before.items ≤ undo.count
  pub to_the_end : length undo.before.items < undo.count → length image ≤ undo.at + undo.count

-- each of these writes can be undone, the newest first
abbrev pub CanPlayBack : List Undo → List ℕ → Type 0
CanPlayBack [] image = ⊤
CanPlayBack (undo ∷ earlier) image = CanUndo undo image × CanPlayBack earlier (undone undo image)

-- both are facts with at most one proof, as the ghost field of a struct has to be
pub CanUndo-prop : (undo : Undo) (image : List ℕ) → IsProp (CanUndo undo image)
CanUndo-prop undo image one other = λ i. record {
  within = le_prop one.within other.within i;
  no_more = le_prop one.no_more other.no_more i;
  to_the_end = Π_prop (λ _. le_prop) one.to_the_end other.to_the_end i;
}

pub CanPlayBack-prop : (undos : List Undo) (image : List ℕ) → IsProp (CanPlayBack undos image)
CanPlayBack-prop [] image = Unit-prop
CanPlayBack-prop (undo ∷ earlier) image =
    ×_prop (CanUndo-prop undo image) (CanPlayBack-prop earlier (undone undo image))
