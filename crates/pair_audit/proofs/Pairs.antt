-- Lists of which each two stand in a relation.
use Rattle.std.proofs.Common.{suc, List, [], ◌∷◌, ◌++◌, arith}
use Rattle.std.specs.List.{All, AllPairs, slice_index_or}
use Rattle.std.proofs.lemmas.List.Elements.{All-append, All-cons, All-nil, All-tail}
use Rattle.std.proofs.lemmas.List.Kept.{AllPairs-cons}

pub pairs_head : {X : Type 0} (R : X → X → Type 0) (x : X) (xs : List X) → AllPairs R (x ∷ xs) → All (R x) xs
pairs_head R x xs h k d low = h 0 (suc k) d (omega arith) (omega arith)

pub pairs_tail : {X : Type 0} (R : X → X → Type 0) (x : X) (xs : List X) → AllPairs R (x ∷ xs) → AllPairs R xs
pairs_tail R x xs h i j d lt low = h (suc i) (suc j) d (omega arith) (omega arith)

pub pairs_none : {X : Type 0} (R : X → X → Type 0) → AllPairs R []
pairs_none R i j d lt low = absurd (omega arith)

pub pairs_append : {X : Type 0} (R : X → X → Type 0) (xs ys : List X) → AllPairs R xs → AllPairs R ys
    → All (λ (x : X). All (R x) ys) xs → AllPairs R (xs ++ ys)
pairs_append {X} R [] ys first second cross = second
pairs_append {X} R (x ∷ xs) ys first second cross =
    AllPairs-cons R x (xs ++ ys) (All-append (R x) xs ys (pairs_head R x xs first) (cross 0 x (omega arith)))
    (pairs_append R xs ys (pairs_tail R x xs first) second (All-tail (λ (x : X). All (R x) ys) x xs cross))

pub all_left : {X : Type 0} (P : X → Type 0) (xs ys : List X) → All P (xs ++ ys) → All P xs
all_left P [] ys h = All-nil P
all_left P (x ∷ xs) ys h = All-cons P x xs (h 0 x (omega arith)) (all_left P xs ys (All-tail P x (xs ++ ys) h))

pub all_right : {X : Type 0} (P : X → Type 0) (xs ys : List X) → All P (xs ++ ys) → All P ys
all_right P [] ys h = h
all_right P (x ∷ xs) ys h = all_right P xs ys (All-tail P x (xs ++ ys) h)

pub pairs_left : {X : Type 0} (R : X → X → Type 0) (xs ys : List X) → AllPairs R (xs ++ ys) → AllPairs R xs
pairs_left R [] ys h = pairs_none R
pairs_left R (x ∷ xs) ys h =
    AllPairs-cons R x xs (all_left (R x) xs ys (pairs_head R x (xs ++ ys) h))
    (pairs_left R xs ys (pairs_tail R x (xs ++ ys) h))

pub pairs_right : {X : Type 0} (R : X → X → Type 0) (xs ys : List X) → AllPairs R (xs ++ ys) → AllPairs R ys
pairs_right R [] ys h = h
pairs_right R (x ∷ xs) ys h = pairs_right R xs ys (pairs_tail R x (xs ++ ys) h)

pub pairs_cross : {X : Type 0} (R : X → X → Type 0) (xs ys : List X) → AllPairs R (xs ++ ys)
    → All (λ (x : X). All (R x) ys) xs
pairs_cross {X} R [] ys h = All-nil (λ (x : X). All (R x) ys)
pairs_cross {X} R (x ∷ xs) ys h =
    All-cons (λ (x : X). All (R x) ys) x xs (all_right (R x) xs ys (pairs_head R x (xs ++ ys) h))
    (pairs_cross R xs ys (pairs_tail R x (xs ++ ys) h))

pub pairs_push : {X : Type 0} (R : X → X → Type 0) (xs : List X) (y : X) → AllPairs R xs → All (λ (x : X). R x y) xs
    → AllPairs R (xs ++ y ∷ [])
pairs_push {X} R xs y pairs last =
    pairs_append R xs (y ∷ []) pairs (AllPairs-cons R y [] (All-nil (R y)) (pairs_none R))
    (λ k d low. All-cons (R (slice_index_or xs k d)) y [] (last k d low) (All-nil (R (slice_index_or xs k d))))
