-- Rows among which a key or a digest is not, and what each row may follow: for `making`.
use Rattle.std.proofs.Common.{◌≡◌, ◌≢◌, ℕ, ◌<◌, Bool, true, false, not, is_some, IsTrue, cond, nat_eq, List, [], ◌∷◌}
use Rattle.std.proofs.Common.{◌++◌, length, length-append, get_or, take, All, Option, Some, None, sym, refl, ap, ◌∙◌}
use Rattle.std.proofs.Common.{subst, arith}
use Rattle.std.specs.List.{find}
use Rattle.std.proofs.Math.Seq.{take-append_seam, get_or-append_seam}
use Rattle.std.specs.Option.{option_map}
use Rattle.std.specs.Str.{bytes_eq}
use Rattle.std.proofs.lemmas.Bool.{false≢true}
use Rattle.std.proofs.lemmas.Bool.Decides.{nat_tests}
use Rattle.std.proofs.lemmas.List.Elements.{All-head, All-tail}
use Rattle.std.proofs.lemmas.Slice.Eq.{bytes_eq-Decides}
use Rattle.sdls_base.proofs.Searches.{find_none}
use Rattle.key_book.specs.declared.key_row.KeyRow.{KeyRow}
use Rattle.key_book.specs.KeyBook.{row_of}
use Rattle.key_book.specs.KeyRefusal.{row_with}

-- a search that none passes
find-nothing : {X : Type 0} (p : X → Bool) (xs : List X) → All (λ x. p x ≡ false) xs → find p xs ≡ None
find-nothing p [] none = refl
find-nothing p (x ∷ xs) none =
    ap (λ b. cond b (Some x) (find p xs)) (All-head (λ y. p y ≡ false) x xs none)
    ∙ find-nothing p xs (All-tail (λ y. p y ≡ false) x xs none)

pub no_key : (rows : List KeyRow) (id : ℕ) → row_of rows id ≡ None → All (λ (other : KeyRow). other.id ≢ id) rows
no_key rows id nowhere k d low same =
    let other = find_none (λ (row : KeyRow). nat_eq row.id id) rows nowhere k d low in
    grind (arith, nat_tests, other, same)

pub key_nowhere : (rows : List KeyRow) (id : ℕ) → All (λ (other : KeyRow). other.id ≢ id) rows → row_of rows id ≡ None
key_nowhere rows id none =
    find-nothing (λ (row : KeyRow). nat_eq row.id id) rows (λ k d low. let other = none k d low in
    grind (arith, nat_tests, other))

pub no_digest : (rows : List KeyRow) (digest : List ℕ) → row_with rows digest ≡ None
    → All (λ (other : KeyRow). other.digest ≢ digest) rows
no_digest rows digest nowhere k d low same =
    false≢true (sym (find_none (λ (row : KeyRow). bytes_eq row.digest digest) rows nowhere k d low)
    ∙ (bytes_eq-Decides _ digest).1 same)

differs : (a b : List ℕ) → a ≢ b → bytes_eq a b ≡ false
differs a b other = by (bytes_eq a b) refl
  where
    by : (t : Bool) → bytes_eq a b ≡ t → bytes_eq a b ≡ false
    by false e = e
    by true e = elim (other ((bytes_eq-Decides a b).0 e)) [ ]

pub digest_nowhere : (rows : List KeyRow) (digest : List ℕ) → All (λ (other : KeyRow). other.digest ≢ digest) rows
    → row_with rows digest ≡ None
digest_nowhere rows digest none =
    find-nothing (λ (row : KeyRow). bytes_eq row.digest digest) rows (λ k d low. differs _ digest (none k d low))

-- what `is_none` says of what was found

pub none_if : {X Y : Type 0} (f : X → Y) (found : Option X) (row : Option Y) (none : Bool) → option_map f found ≡ row
    → is_some found ≡ not none → IsTrue none → row ≡ None
none_if f None row none same says t = sym same
none_if f (Some x) row true same says t = absurd (cc)
none_if f (Some x) row false same says t = absurd (cc)

pub true_if : {X Y : Type 0} (f : X → Y) (found : Option X) (row : Option Y) (none : Bool) → option_map f found ≡ row
    → is_some found ≡ not none → row ≡ None → IsTrue none
true_if f None row true same says nothing = refl
true_if f None row false same says nothing = absurd (cc)
true_if f (Some x) row none same says nothing = absurd (cc)

pub none_if_mapped : {X Y : Type 0} (f : X → Y) (found : Option X) (mapped : Option Y) (none : Bool)
    → mapped ≡ option_map f found → is_some mapped ≡ not none → IsTrue none → found ≡ None
none_if_mapped f None mapped none same says t = refl
none_if_mapped f (Some x) mapped true same says t = absurd (false≢true (sym says ∙ ap is_some same))
none_if_mapped f (Some x) mapped false same says t = absurd (cc)

pub true_if_mapped : {X Y : Type 0} (f : X → Y) (found : Option X) (mapped : Option Y) (none : Bool)
    → mapped ≡ option_map f found → is_some mapped ≡ not none → found ≡ None → IsTrue none
true_if_mapped f None mapped true same says nothing = refl
true_if_mapped f None mapped false same says nothing = absurd (false≢true (sym (ap is_some same) ∙ says))
true_if_mapped f (Some x) mapped none same says nothing = absurd (cc)

-- what each element may follow, the one behind a front may
pub next_follows : {X : Type 0} (MayFollow : List X → X → Type 0) (front rest all : List X) (x : X)
    → front ++ x ∷ rest ≡ all
    → ((i : ℕ) (d : X) → i < length all → MayFollow (take i all) (get_or all i d)) → MayFollow front x
next_follows MayFollow front rest all x split each =
    let inside : length front < length all = omega (arith, ap length split, length-append front (x ∷ rest)) in
    let there = subst (λ ys. MayFollow (take (length front) ys) (get_or ys (length front) x)) (sym split)
    (each (length front) x inside) in
    rw (take-append_seam front (x ∷ rest), get_or-append_seam front x rest x) at there
