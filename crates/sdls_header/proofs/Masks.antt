-- A prefix under a mask, place by place.
use Rattle.std.proofs.Common.{◌≡◌, ℕ, suc, ◌<◌, List, [], ◌∷◌, length, get_or, refl, ◌∙◌, arith}
use Rattle.std.specs.Prelude.{bit_and}
use lib.Bits.{and_zero_r}
use Rattle.sdls_header.specs.Authenticated.{masked_octets}

same_cells : {a b : ℕ} {xs ys : List ℕ} → a ≡ b → xs ≡ ys → (a ∷ xs) ≡ (b ∷ ys)
same_cells p q = cc

-- octets that are those under the mask at each place are the masked octets
pub masked_from_places : (prefix mask out : List ℕ) → length out ≡ length prefix
    → ((k : ℕ) → k < length prefix → get_or out k 0 ≡ bit_and (get_or prefix k 0) (get_or mask k 0))
    → out ≡ masked_octets prefix mask
masked_from_places [] mask [] n places = refl
masked_from_places [] mask (o ∷ out) n places = absurd (omega arith)
masked_from_places (x ∷ prefix) mask [] n places = absurd (omega arith)
masked_from_places (x ∷ prefix) [] (o ∷ out) n places =
    same_cells (places 0 (omega arith) ∙ and_zero_r x)
    (masked_from_places prefix [] out (omega arith) (λ k h. places (suc k) (omega arith)))
masked_from_places (x ∷ prefix) (m ∷ mask) (o ∷ out) n places =
    same_cells (places 0 (omega arith))
    (masked_from_places prefix mask out (omega arith) (λ k h. places (suc k) (omega arith)))
