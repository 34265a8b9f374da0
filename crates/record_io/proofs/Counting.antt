-- Octets that still count, where so many count in all.
use Rattle.std.proofs.Common.{◌≡◌, ℕ, ◌+◌, ◌-◌, ◌≤◌, ◌⊎◌, List, [], ◌++◌, length, take, ◌∙◌, ap, inl, inr, arith}
use Rattle.std.proofs.Math.Seq.{take-append-add}
use Rattle.std.proofs.lemmas.Grind.{common_steps}

-- octets in front that all count
pub counts_more : (m taken : ℕ) (part left : List ℕ) → taken + length part ≤ m
    → take (m - taken) (part ++ left) ≡ part ++ take (m - (taken + length part)) left
counts_more m taken part left fits =
    let split : m - taken ≡ length part + (m - (taken + length part)) = omega arith in
    ap (λ n. take n (part ++ left)) split ∙ take-append-add part left (m - (taken + length part))

-- nothing counts where nothing is left, or all was counted
pub counts_none : (m taken : ℕ) (left : List ℕ) → (left ≡ []) ⊎ (taken ≡ m) → take (m - taken) left ≡ []
counts_none m taken left (inl e) = ap (λ l. take (m - taken) l) e ∙ grind (arith, common_steps)
counts_none m taken left (inr e) =
    let none : m - taken ≡ 0 = omega (arith, e) in
    ap (λ n. take n left) none
