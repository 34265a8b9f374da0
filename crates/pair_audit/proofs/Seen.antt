-- Elements at the front of a longer list, for what an audit knows.
use Rattle.std.proofs.Common.{◌≡◌, ℕ, zero, suc, ◌<◌, List, [], ◌∷◌, ◌++◌, length, take, Option, Some, None, Result, Ok}
use Rattle.std.proofs.Common.{Err, refl, sym, ap, ◌∙◌, arith, length-append}
use Rattle.std.specs.Prelude.{slice_get, MatchOption, IfOk, OnErr}
use Rattle.std.specs.BTreeMap.{BTreeMap, is_at}
use Rattle.std.specs.Map.{lookup}
use Rattle.std.specs.Ordering.{nat_cmp, ordering_then}
use Rattle.pair_audit.specs.Places.{place_in}
use Rattle.std.proofs.Math.Seq.{get_or-append_seam}
use Rattle.std.proofs.lemmas.List.{take-append-le, take_all}
use Rattle.std.proofs.lemmas.Option.{slice_get_read}

pub get_left : {X : Type 0} (xs ys : List X) (i : ℕ) → i < length xs → slice_get (xs ++ ys) i ≡ slice_get xs i
get_left {X} [] ys i low = absurd (omega arith)
get_left {X} (x ∷ xs) ys zero low = refl
get_left {X} (x ∷ xs) ys (suc i) low = get_left xs ys i (omega arith)

pub get_seam : {X : Type 0} (xs : List X) (y : X) (ys : List X) → slice_get (xs ++ y ∷ ys) (length xs) ≡ Some y
get_seam {X} xs y ys =
    let size = length-append xs (y ∷ ys) in
    slice_get_read (xs ++ y ∷ ys) (length (xs ++ y ∷ ys)) (length xs) y refl (omega arith)
    (sym (get_or-append_seam xs y ys y))

pub take_seam : {X : Type 0} (xs ys : List X) → take (length xs) (xs ++ ys) ≡ xs
take_seam {X} xs ys = take-append-le (length xs) xs ys (omega arith) ∙ take_all (length xs) xs (omega arith)

pub match_more : {X : Type 0} (o : Option X) {A B : Type 0} {P Q : X → Type 0} → (A → B) → ((x : X) → P x → Q x)
    → MatchOption o A P → MatchOption o B Q
match_more {X} None none some is = none is
match_more {X} (Some x) none some is = some x is

pub on_err : {X E : Type 0} (r : Result X E) (P : Type 0) → P → OnErr r P
on_err {X} {E} (Ok x) P is = tt
on_err {X} {E} (Err e) P is = is

pub ok_more : {X E : Type 0} (r : Result X E) (P Q : X → Type 0) → ((x : X) → P x → Q x) → IfOk r P → IfOk r Q
ok_more {X} {E} (Ok x) P Q more is = more x is
ok_more {X} {E} (Err e) P Q more is = tt

-- maps with the same entries have the same places
pub place_at : ℕ → ℕ → List ((ℕ × ℕ) × ℕ) → Option ℕ
place_at key number entries = lookup (is_at (λ (q : ℕ × ℕ). ordering_then (nat_cmp key q.0) (nat_cmp number q.1)))
    entries

pub place_same : (m n : BTreeMap (ℕ × ℕ) ℕ) → n.entries ≡ m.entries → (key number : ℕ)
    → place_in n key number ≡ place_in m key number
unfolding place_at
place_same m n e key number = ap (place_at key number) e

pub place_none : (m : BTreeMap (ℕ × ℕ) ℕ) → m.entries ≡ [] → (key number : ℕ) → place_in m key number ≡ None
unfolding place_at
place_none m e key number = ap (place_at key number) e
