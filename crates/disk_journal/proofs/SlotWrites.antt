-- The moments of the writes to a slot.
use Rattle.std.proofs.Common.{◌≡◌, ℕ, ◌+◌, ◌⊎◌, List, length, subst, inl, inr}
use Rattle.sdls_outside.specs.Moments.{Trace}
use Rattle.sdls_outside.specs.Site.{overwritten}
use Rattle.sdls_base.specs.declared.TheConstants.{BODY_LENGTH}
use Rattle.disk_journal.specs.Moments.{AllBut, EachImage}
use Rattle.disk_journal.proofs.Moments.{image_then, image_weaker}

-- a record's body, and then its gate
abbrev pub Storing : ℕ → List ℕ → List ℕ → List ℕ → Type 0
Storing at body old image = AllBut (at + 1) BODY_LENGTH old image ⊎ AllBut at 1 (overwritten old (at + 1) body) image

pub body_first : (at : ℕ) (body : List ℕ) (old new : Trace) → length body ≡ BODY_LENGTH
    → EachImage old new (AllBut (at + 1) (length body) old.now.image) → EachImage old new
    (Storing at body old.now.image)
body_first at body old new sized each =
    image_weaker old new (AllBut (at + 1) (length body) old.now.image) (Storing at body old.now.image)
    (λ image change. inl (subst (λ (n : ℕ). AllBut (at + 1) n old.now.image image) sized change)) each

pub gate_second : (at : ℕ) (body : List ℕ) (old mid new : Trace) → length body ≡ BODY_LENGTH
    → EachImage old mid (AllBut (at + 1) (length body) old.now.image) → mid.now.image ≡ overwritten old.now.image
    (at + 1) body
    → EachImage mid new (AllBut at 1 mid.now.image) → EachImage old new (Storing at body old.now.image)
gate_second at body old mid new sized first written second =
    image_then old mid new (Storing at body old.now.image) (body_first at body old mid sized first)
    (image_weaker mid new (AllBut at 1 mid.now.image) (Storing at body old.now.image)
    (λ image change. inr (subst (λ (octets : List ℕ). AllBut at 1 octets image) written change)) second)
