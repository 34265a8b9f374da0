-- The digests of keys, computed once.
use Rattle.std.proofs.Common.{◌≡◌, ℕ, ◌+◌, ◌<◌, List, length, get_or, take, set, sym, ap, ◌∙◌, subst, ⊎_elim, arith}
use Rattle.std.proofs.lemmas.Bool.{cases_eq}
use Rattle.std.proofs.lemmas.List.{length-take, get_or-take, get_or-set_same, get_or-set_other}
use Rattle.sha2.specs.Sha256.{sha256}
use Rattle.sdls_base.specs.declared.key_id.KeyItem.{KeyItem}
use Rattle.key_book.specs.Digests.{Knows}

-- they are those of the first keys too
pub knows-take : (digests : List (List ℕ)) (items : List KeyItem) (n : ℕ) → Knows digests items
    → Knows digests (take n items)
knows-take digests items n known k d item low within =
    let less : k < n = omega (arith, length-take n items) in
    let there : k < length items = omega (arith, length-take n items) in
    known k d item low there ∙ ap (λ (x : KeyItem). sha256 x.bytes) (sym (get_or-take n items k item less))

-- one more is written
pub known-more : (digests : List (List ℕ)) (items : List KeyItem) (i : ℕ) (digest : List ℕ) → i < length digests
    → ((item : KeyItem) → digest ≡ sha256 (get_or items i item).bytes)
    → ((k : ℕ) (d : List ℕ) (item : KeyItem) → k < i → get_or digests k d ≡ sha256 (get_or items k item).bytes)
    → (k : ℕ) (d : List ℕ) (item : KeyItem) → k < i + 1 → get_or (set digests i digest) k d
    ≡ sha256 (get_or items k item).bytes
known-more digests items i digest within is before k d item low =
    ⊎_elim
    (λ (here : k ≡ i). subst (λ n. get_or (set digests i digest) n d ≡ sha256 (get_or items n item).bytes) (sym here)
    (get_or-set_same digests i digest d within ∙ is item))
    (λ (elsewhere : k ≡ i → ⊥). get_or-set_other digests i k digest d elsewhere ∙ before k d item (omega arith))
    (cases_eq k i)
