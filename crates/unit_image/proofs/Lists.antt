-- What the loops over rows and channels know at their ends.
use Rattle.std.proofs.Common.{◌≡◌, ℕ, ◌+◌, ◌<◌, ◌≤◌, List, length, take, get_or, subst, All, take_all}
use Rattle.std.proofs.lemmas.List.Elements.{All-more}

-- one element more, as the loop reads it
pub all_more : {X : Type 0} (P : X → Type 0) (xs : List X) (i : ℕ) (x : X) → x ≡ get_or xs i x → i < length xs
    → All P (take i xs) → P x → All P (take (i + 1) xs)
all_more P xs i x is inside front here = All-more P xs i x inside front (subst P is here)

-- after the last
pub all_done : {X : Type 0} (P : X → Type 0) (xs : List X) (i : ℕ) → length xs ≤ i → All P (take i xs) → All P xs
all_done P xs i past front = subst (All P) (take_all i xs past) front
