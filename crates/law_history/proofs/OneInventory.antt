-- The inventory of a state's keys is one.
use Rattle.std.proofs.Common.{◌≡◌, ℕ, zero, suc, ◌+◌, ◌<◌, ◌≤◌, Bool, true, false, nat_eq, List, [], ◌∷◌, length}
use Rattle.std.proofs.Common.{get_or, map, take, Option, refl, sym, ap, ◌∙◌, subst, ⊎_elim, arith}
use Rattle.std.specs.Prelude.{nat_le, ◌&&◌}
use Rattle.std.specs.List.{All, filter, sum_by}
use Rattle.std.specs.List.Sorted.{IsPermutation, IsNonDecreasingBy}
use Rattle.std.specs.Option.{option_map_or}
use Rattle.std.proofs.lemmas.Bool.{cases_lt}
use Rattle.std.proofs.lemmas.Bool.Decides.{nat_tests}
use Rattle.std.proofs.lemmas.List.Elements.{All-map, All-filter}
use Rattle.std.proofs.lemmas.List.Sums.{sum_by-cons}
use Rattle.std.proofs.lemmas.List.Sorted.{All-permutation, IsPermutation-map, sum_by-IsPermutation}
use Rattle.std.proofs.lemmas.Option.{slice_get-get_or}
use Rattle.sdls_base.specs.declared.states.KeyState.{KeyState}
use Rattle.sdls_base.specs.declared.states.KeyState.TheVariants.{Active}
use Rattle.key_book.specs.declared.key_book.Inventory.{Inventory}
use Rattle.key_book.specs.declared.key_book.TheConstants.{MOST_LISTED}
use Rattle.key_book.specs.declared.key_row.KeyRow.{KeyRow}
use Rattle.key_book.specs.KeyBook.{AreKeyRows, row_of}
use Rattle.key_book.specs.Inventory.{listed, IsInventory}
use Rattle.unit_state.proofs.KeyRules.{number_test}
use Rattle.law_history.proofs.Releasing.{row_at}

-- ---- numbers that do not fall

-- each is at least the one before it, and the first at least this
abbrev Climbs : ℕ → List ℕ → Type 0
Climbs low [] = Unit {0}
Climbs low (n ∷ ns) = (low ≤ n) × Climbs n ns

abbrev one_if : Bool → ℕ
one_if true = 1
one_if false = 0

abbrev times : ℕ → List ℕ → ℕ
times a ns = sum_by (λ (n : ℕ). one_if (nat_eq n a)) ns

times_more : (a n : ℕ) (ns : List ℕ) → times a (n ∷ ns) ≡ one_if (nat_eq n a) + times a ns
times_more a n ns = sum_by-cons (λ (n : ℕ). one_if (nat_eq n a)) n ns

other_number : (a n : ℕ) → a < n → nat_eq n a ≡ false
other_number a n less = grind (arith, nat_tests)

-- a number below all stands nowhere
none_below : (a low : ℕ) (ns : List ℕ) → a < low → Climbs low ns → times a ns ≡ 0
none_below a low [] less climbs = refl
none_below a low (n ∷ ns) less (least, rest) =
    let above : a < n = omega arith in
    let here : one_if (nat_eq n a) ≡ 0 = ap one_if (other_number a n above) in
    let later : times a ns ≡ 0 = none_below a n ns above rest in
    let all : times a (n ∷ ns) ≡ one_if (nat_eq n a) + times a ns = times_more a n ns in
    omega (arith, here, later, all)

-- the first is the least, so that no list with the same numbers begins with a greater one
not_less : (a b : ℕ) (xs ys : List ℕ) → a < b → Climbs b ys → times a (a ∷ xs) ≡ times a (b ∷ ys) → ⊥
not_less a b xs ys less climbs same =
    let here : one_if (nat_eq a a) ≡ 1 = ap one_if (number_test a a refl) in
    let there : one_if (nat_eq b a) ≡ 0 = ap one_if (other_number a b less) in
    let later : times a ys ≡ 0 = none_below a b ys less climbs in
    let one : times a (a ∷ xs) ≡ one_if (nat_eq a a) + times a xs = times_more a a xs in
    let other : times a (b ∷ ys) ≡ one_if (nat_eq b a) + times a ys = times_more a b ys in
    omega (arith, here, there, later, one, other, same)

same_numbers : (low : ℕ) (xs ys : List ℕ) → Climbs low xs → Climbs low ys → ((f : ℕ → ℕ) → sum_by f xs ≡ sum_by f ys)
    → xs ≡ ys
same_numbers low [] [] one other sums = refl
same_numbers low [] (y ∷ ys) one other sums =
    absurd (let same : 0 ≡ 1 + sum_by (λ (n : ℕ). 1) ys =
    sums (λ (n : ℕ). 1) ∙ sum_by-cons (λ (n : ℕ). 1) y ys in omega arith)
same_numbers low (x ∷ xs) [] one other sums =
    absurd (let same : 1 + sum_by (λ (n : ℕ). 1) xs ≡ 0 =
    sym (sum_by-cons (λ (n : ℕ). 1) x xs) ∙ sums (λ (n : ℕ). 1) in omega arith)
same_numbers low (x ∷ xs) (y ∷ ys) (least, rest) (also, more) sums =
    ⊎_elim
    (λ (less : x < y). absurd (not_less x y xs ys less more (sums (λ (n : ℕ). one_if (nat_eq n x)))))
    (λ (not_below : y ≤ x). ⊎_elim
    (λ (less : y < x). absurd (not_less y x ys xs less rest (sym (sums (λ (n : ℕ). one_if (nat_eq n y))))))
    (λ (not_above : x ≤ y).
    let same : x ≡ y = omega arith in
    ap (λ (n : ℕ). n ∷ xs) same
    ∙ ap (λ (ns : List ℕ). y ∷ ns)
    (same_numbers y xs ys (subst (λ (n : ℕ). Climbs n xs) same rest) more
    (λ f.
    let all : f x + sum_by f xs ≡ f y + sum_by f ys = sym (sum_by-cons f x xs) ∙ sums f ∙ sum_by-cons f y ys in
    let first : f x ≡ f y = ap f same in
    omega arith)))
    (cases_lt y x))
    (cases_lt x y)

climbs : {X : Type 0} (g : X → ℕ) (xs : List X) (low : ℕ) → IsNonDecreasingBy g xs
    → ((k : ℕ) (d : X) → k < length xs → low ≤ g (get_or xs k d)) → Climbs low (map g xs)
climbs {X} g [] low order least = tt
climbs {X} g (x ∷ xs) low order least = (
  least zero x (omega arith),
  climbs g xs (g x) (λ i j d low high. order (suc i) (suc j) d (omega arith) (omega arith))
      (λ k d within. order zero (suc k) d (omega arith) (omega arith)),
)

-- ---- pairs of a key and its state

abbrev key_at : ℕ × KeyState → ℕ
key_at pair = pair.0

abbrev pair_of : KeyRow → ℕ × KeyState
pair_of row = (row.id, row.state)

abbrev pair_at : List KeyRow → ℕ → ℕ × KeyState
pair_at rows key = option_map_or pair_of (row_of rows key) (0, Active)

pairs_listed : (rows : List KeyRow) (first last : ℕ) → AreKeyRows rows
    → All (λ pair. pair ≡ pair_at rows (key_at pair)) (listed rows first last)
pairs_listed rows first last ok =
    All-map (λ (pair : ℕ × KeyState). pair ≡ pair_at rows (key_at pair)) pair_of
    (filter (λ (row : KeyRow). nat_le first row.id && nat_le row.id last) rows)
    (All-filter (λ (row : KeyRow). nat_le first row.id && nat_le row.id last)
    (λ (row : KeyRow). pair_of row ≡ pair_at rows row.id) rows
    (λ k d low.
    let row : KeyRow = get_or rows k d in
    sym (ap (λ (o : Option KeyRow). option_map_or pair_of o (0, Active))
    (row_at rows k row ok (slice_get-get_or rows k d low)))))

rebuilt : {X : Type 0} (g : X → ℕ) (h : ℕ → X) (xs : List X) → All (λ x. x ≡ h (g x)) xs → xs ≡ map h (map g xs)
rebuilt {X} g h [] all = refl
rebuilt {X} g h (x ∷ xs) all =
    ap (λ (y : X). y ∷ xs) (all zero x (omega arith))
    ∙ ap (λ (ys : List X). h (g x) ∷ ys) (rebuilt g h xs (λ k d low. all (suc k) d (omega arith)))

sorted_one : (rows : List KeyRow) (first last : ℕ) (one other : List (ℕ × KeyState)) → AreKeyRows rows
    → IsPermutation (listed rows first last) one → IsPermutation (listed rows first last) other
    → IsNonDecreasingBy key_at one → IsNonDecreasingBy key_at other → one ≡ other
sorted_one rows first last one other ok is also order again =
    let all : List (ℕ × KeyState) = listed rows first last in
    let own : All (λ pair. pair ≡ pair_at rows (key_at pair)) all = pairs_listed rows first last ok in
    let keys : map key_at one ≡ map key_at other =
    same_numbers 0 (map key_at one) (map key_at other) (climbs key_at one 0 order (λ k d low. omega arith))
    (climbs key_at other 0 again (λ k d low. omega arith))
    (λ f. sum_by-IsPermutation f (map key_at all) (map key_at one) (IsPermutation-map key_at all one is)
    ∙ sym (sum_by-IsPermutation f (map key_at all) (map key_at other) (IsPermutation-map key_at all other also))) in
    rebuilt key_at (pair_at rows) one
    (All-permutation (λ (pair : ℕ × KeyState). pair ≡ pair_at rows (key_at pair)) all one is own)
    ∙ ap (map (pair_at rows)) keys
    ∙ sym (rebuilt key_at (pair_at rows) other
    (All-permutation (λ (pair : ℕ × KeyState). pair ≡ pair_at rows (key_at pair)) all other also own))

-- what two inventories tell
pub record TellOne (one other : Inventory) : Type 0 where
  pub total : one.total ≡ other.total
  pub rows : one.rows ≡ other.rows

pub inventory_one : (rows : List KeyRow) (first last : ℕ) (one other : Inventory) → AreKeyRows rows
    → IsInventory rows first last one
    → IsInventory rows first last other → TellOne one other
inventory_one rows first last one other ok is also = record {
  total = is.total ∙ sym also.total;
  rows = is.front ∙ ap (take MOST_LISTED)
      (sorted_one rows first last is.sorted also.sorted ok is.permutation also.permutation is.ascending also.ascending)
      ∙ sym also.front;
}
