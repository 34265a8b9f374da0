-- Where the first element that passes a test stands.
use Rattle.std.proofs.Common.{◌≡◌, ℕ, ◌+◌, ◌<◌, ◌≤◌, Bool, true, false, cond, not, nat_eq, nat_lt, List, [], ◌∷◌, ◌++◌}
use Rattle.std.proofs.Common.{length, get_or, set, map, Some, None, refl, ap, ⊎_elim, arith}
use Rattle.std.specs.List.{position, position_or_len}
use Rattle.std.specs.Option.{option_or}
use Rattle.std.proofs.lemmas.Bool.{cases_lt}
use Rattle.std.proofs.lemmas.Bool.Decides.{nat_tests}
use Rattle.std.proofs.lemmas.List.{length-map, length-set, length_push}
use Rattle.std.proofs.lemmas.List.Folds.{position_or_len-set, position_or_len_push}
use Rattle.std.proofs.lemmas.List.Sums.{position_or_len_is, prefix_len-le-length}
use Rattle.std.proofs.lemmas.List.Quantifiers.{position-Some}
use Rattle.sdls_base.proofs.Searches.{find_none, find_nowhere}

first_push : (n length : ℕ) (b : Bool) → n ≤ length
    → cond (nat_lt (cond (nat_eq n length) (length + cond b 0 1) n) (length + 1))
    (Some (cond (nat_eq n length) (length + cond b 0 1) n)) None
    ≡ option_or (cond (nat_lt n length) (Some n) None) (cond b (Some length) None)
first_push n length b low = ⊎_elim (λ (less : n < length). below b less) (λ (end : length ≤ n). at_end b (omega arith))
    (cases_lt n length)
  where
    below : (b : Bool) → n < length → cond (nat_lt (cond (nat_eq n length) (length + cond b 0 1) n) (length + 1))
        (Some (cond (nat_eq n length) (length + cond b 0 1) n)) None
        ≡ option_or (cond (nat_lt n length) (Some n) None) (cond b (Some length) None)
    below b less =
        let other : nat_eq n length ≡ false = grind (arith, nat_tests) in
        let low : nat_lt n length ≡ true = grind (arith, nat_tests) in
        let low_more : nat_lt n (length + 1) ≡ true = grind (arith, nat_tests) in
        rw (other, low, low_more) refl

    at_end : (b : Bool) → n ≡ length → cond (nat_lt (cond (nat_eq n length) (length + cond b 0 1) n) (length + 1))
        (Some (cond (nat_eq n length) (length + cond b 0 1) n)) None
        ≡ option_or (cond (nat_lt n length) (Some n) None) (cond b (Some length) None)
    at_end true same =
        let here : nat_eq n length ≡ true = grind (arith, nat_tests) in
        let past : nat_lt n length ≡ false = grind (arith, nat_tests) in
        let low : nat_lt (length + 0) (length + 1) ≡ true = grind (arith, nat_tests) in
        rw (here, past, low) (ap (λ (k : ℕ). Some k) (omega arith))
    at_end false same =
        let here : nat_eq n length ≡ true = grind (arith, nat_tests) in
        let past : nat_lt n length ≡ false = grind (arith, nat_tests) in
        let low : nat_lt (length + 1) (length + 1) ≡ false = grind (arith, nat_tests) in
        rw (here, past, low) refl

pub position-push : {X : Type 0} (p : X → Bool) (xs : List X) (y : X)
    → position p (xs ++ y ∷ []) ≡ option_or (position p xs) (cond (p y) (Some (length xs)) None)
position-push p xs y =
    rw (position_or_len_push p xs y, length_push xs y)
    (first_push (position_or_len p xs) (length xs) (p y) (omega (arith, prefix_len-le-length (λ x. not (p x)) xs)))

pub position-set : {X : Type 0} (p : X → Bool) (xs : List X) (i : ℕ) (y d : X) → p y ≡ p (get_or xs i d)
    → position p (set xs i y) ≡ position p xs
position-set p xs i y d same = rw (position_or_len-set p xs i y d same, length-set xs i y) refl

position_or_len-map : {X : Type 0} (p : X → Bool) (g : X → X) → ((x : X) → p (g x) ≡ p x) → (xs : List X)
    → position_or_len p (map g xs) ≡ position_or_len p xs
position_or_len-map p g keeps [] = refl
position_or_len-map p g keeps (x ∷ xs) = grind (arith, nat_tests, keeps x, position_or_len-map p g keeps xs)

pub position-map : {X : Type 0} (p : X → Bool) (g : X → X) → ((x : X) → p (g x) ≡ p x) → (xs : List X)
    → position p (map g xs) ≡ position p xs
position-map p g keeps xs = rw (position_or_len-map p g keeps xs, length-map xs g) refl

pub position-absent : {X : Type 0} (q : X → Bool) (xs : List X)
    → ((k : ℕ) (d : X) → k < length xs → q (get_or xs k d) ≡ false) → position q xs ≡ None
position-absent q [] absent = refl
position-absent q (x ∷ xs) absent =
    let past = position_or_len_is q (x ∷ xs) (length (x ∷ xs)) x (omega arith) (λ k low. absent k x low)
    (λ low. absurd (omega arith)) in
    grind (arith, nat_tests, past)

-- a test that only those pass that pass another
pub position-none : {X : Type 0} (p q : X → Bool) (xs : List X) → ((x : X) → p x ≡ false → q x ≡ false)
    → position p xs ≡ None → position q xs ≡ None
position-none p q xs narrower nowhere =
    position-absent q xs (λ k d low. narrower (get_or xs k d) (find_none p xs (find_nowhere p xs nowhere) k d low))

pub position-at : {X : Type 0} (q : X → Bool) (xs : List X) (i : ℕ) (d : X) → i < length xs
    → ((k : ℕ) → k < i → q (get_or xs k d) ≡ false) → q (get_or xs i d) ≡ true → position q xs ≡ Some i
position-at q xs i d within before passes =
    let here = position_or_len_is q xs i d (omega arith) before (λ low. passes) in
    grind (arith, nat_tests, here, within)

pub position-same : {X : Type 0} (p q : X → Bool) (xs : List X) (i : ℕ) (d : X) → ((x : X) → p x ≡ false → q x ≡ false)
    → position p xs ≡ Some i → q (get_or xs i d) ≡ true → position q xs ≡ Some i
position-same p q xs i d narrower placed passes =
    let found = position-Some p xs i d placed in
    position-at q xs i d found.0 (λ k low. narrower (get_or xs k d) (found.2 k low)) passes
