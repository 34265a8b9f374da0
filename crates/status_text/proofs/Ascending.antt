-- The lines of keys that ascend by identifier are those of all identifiers, for `put_keys`.
use Rattle.std.proofs.Common.{◌≡◌, ◌≢◌, ◌++◌, ℕ, ◌+◌, ◌<◌, ◌≤◌, Bool, false, cond, List, [], ◌∷◌, length, get_or, map}
use Rattle.std.proofs.Common.{Option, Some, None, refl, sym, ap, ◌∙◌, arith, suc, zero, eqb, ⊎_elim, subst}
use Rattle.std.proofs.Common.{IsPermutation}
use Rattle.std.specs.List.{All, AllPairs, AllByRecursion, IsDistinct}
use Rattle.std.specs.List.Sorted.{IsNonDecreasingBy}
use Rattle.std.specs.Option.{option_map_or}
use Rattle.std.proofs.lemmas.Bool.{cases_eq, eq-eqb, ne_eqb, false≢true}
use Rattle.std.proofs.lemmas.List.{length-map, get_or-map}
use Rattle.std.proofs.lemmas.List.Elements.{All-cons, All-tail, All-nil}
use Rattle.std.proofs.lemmas.List.Sorted.{IsPermutation-map, IsPermutation-sym, All-permutation}
use Rattle.std.proofs.lemmas.Map.Keys.{IsDistinct-IsPermutation, IsDistinct-head, IsDistinct-tail}
use denote.Ref.{Bor}
use Rattle.std.specs.Result.{OnOk}
use Rattle.std.specs.Prelude.{Result, Ok, Err}
use Rattle.sdls_base.specs.declared.no_memory.NoMemory.{NoMemory}
use Rattle.key_book.specs.declared.key_row.KeyRow.{KeyRow}
use Rattle.key_book.specs.KeyBook.{row_of, IsKeyBook}
use Rattle.status_text.specs.Text.{highest_identifier, key_line, key_lines, keys_text}

abbrev pub identifier : KeyRow → ℕ
identifier row = row.id

-- the identifiers rise, from `least` on
abbrev Rise : ℕ → List KeyRow → Type 0
Rise least [] = Unit {0}
Rise least (row ∷ rows) = (least ≤ row.id) × Rise (row.id + 1) rows

-- none of the rows has a lower identifier
rise_above : (least : ℕ) (rows : List KeyRow) → Rise least rows → All (λ row. least ≤ row.id) rows
rise_above least [] rise = All-nil (λ (row : KeyRow). least ≤ row.id)
rise_above least (row ∷ rows) rise =
    All-cons (λ (row : KeyRow). least ≤ row.id) row rows rise.0
    (λ k d low. let above = rise_above (row.id + 1) rows rise.1 k d low in omega (arith, rise.0, above))

-- the row of an identifier that no row has
not_there : (id : ℕ) (rows : List KeyRow) → All (λ row. row.id ≢ id) rows → row_of rows id ≡ None
not_there id [] none = refl
not_there id (row ∷ rows) none =
    ap (λ (b : Bool). cond b (Some row) (row_of rows id)) (ne_eqb row.id id (none 0 row (omega arith)))
    ∙ not_there id rows (All-tail (λ (row : KeyRow). row.id ≢ id) row rows none)

-- a row is that of its identifier, if no two have one
alone : (rows : List KeyRow) → AllPairs (λ a b. a.id ≢ b.id) rows → All (λ row. row_of rows row.id ≡ Some row) rows
alone [] apart = All-nil (λ (row : KeyRow). row_of [] row.id ≡ Some row)
alone (row ∷ rows) apart =
    All-cons (λ (other : KeyRow). row_of (row ∷ rows) other.id ≡ Some other) row rows
    (ap (λ (b : Bool). cond b (Some row) (row_of rows row.id)) (eq-eqb row.id row.id refl))
    (λ k d low.
    ap (λ (b : Bool). cond b (Some row) (row_of rows (get_or rows k d).id))
    (ne_eqb row.id (get_or rows k d).id (apart 0 (suc k) d (omega arith) (omega arith)))
    ∙ alone rows (λ i j e lt below. apart (suc i) (suc j) e (omega arith) (omega arith)) k d low)

-- the lines of an identifier, and those of the identifiers after it
keys_step : (rows : List KeyRow) (first count : ℕ)
    → keys_text rows first (suc count) ≡ option_map_or key_line (row_of rows first) [] ++ keys_text rows
    (first + 1) count
unfolding keys_text
keys_step rows first count = refl

keys_none : (rows : List KeyRow) (first : ℕ) → keys_text rows first 0 ≡ []
unfolding keys_text
keys_none rows first = refl

pub lines_step : (row : KeyRow) (rows : List KeyRow) → key_lines (row ∷ rows) ≡ key_line row ++ key_lines rows
unfolding key_lines
lines_step row rows = refl

lines_none : key_lines [] ≡ []
unfolding key_lines
lines_none = refl

-- Some rows are all those with one of so many identifiers from the first on, and ascend: their lines are those of these
-- identifiers.
record Covers (rows : List KeyRow) (first count : ℕ) (found : List KeyRow) : Type 0 where
  rise : Rise first found
  below : All (λ row. row.id < first + count) found
  named : All (λ row. row_of rows row.id ≡ Some row) found
  all : (id : ℕ) → first ≤ id → All (λ row. row.id ≢ id) found → row_of rows id ≡ None

-- none has the first identifier
covers_later : (rows : List KeyRow) (first count : ℕ) (found : List KeyRow) → Covers rows first (suc count) found
    → Rise (first + 1) found → Covers rows (first + 1) count found
covers_later rows first count found covers rise = record {
  rise = rise;
  below = λ k d low. let below = covers.below k d low in omega (arith, below);
  named = covers.named;
  all = λ id from none. covers.all id (omega (arith, from)) none;
}

-- the first has it
covers_behind : (rows : List KeyRow) (first count : ℕ) (row : KeyRow) (found : List KeyRow) → row.id ≡ first
    → Covers rows first (suc count) (row ∷ found) → Covers rows (first + 1) count found
covers_behind rows first count row found is covers = record {
  rise = subst (λ (n : ℕ). Rise (n + 1) found) is covers.rise.1;
  below = λ k d low. let below = covers.below (suc k) d (omega (arith, low)) in omega (arith, below);
  named = All-tail (λ (other : KeyRow). row_of rows other.id ≡ Some other) row found covers.named;
  all = λ id from none. covers.all id (omega (arith, from))
      (All-cons (λ (other : KeyRow). other.id ≢ id) row found (λ same. omega (arith, is, same, from)) none);
}

none_first : (rows : List KeyRow) (first count : ℕ) (found : List KeyRow) → Covers rows first count found
    → Rise (first + 1) found → row_of rows first ≡ None
none_first rows first count found covers rise =
    covers.all first (omega arith)
    (λ k d low same. let above = rise_above (first + 1) found rise k d low in omega (arith, above, same))

covered : (rows : List KeyRow) (first count : ℕ) (found : List KeyRow) → Covers rows first count found
    → keys_text rows first count ≡ key_lines found
covered rows first zero [] covers = keys_none rows first ∙ sym lines_none
covered rows first zero (row ∷ found) covers =
    let below = covers.below 0 row (omega arith) in
    absurd (omega (arith, below, covers.rise.0))
covered rows first (suc count) [] covers =
    keys_step rows first count
    ∙ (ap (λ (o : Option KeyRow). option_map_or key_line o [] ++ keys_text rows (first + 1) count)
    (none_first rows first (suc count) [] covers tt)
    ∙ covered rows (first + 1) count [] (covers_later rows first count [] covers tt))
covered rows first (suc count) (row ∷ found) covers =
    ⊎_elim
    (λ (is : row.id ≡ first).
    keys_step rows first count
    ∙ (ap (λ (o : Option KeyRow). option_map_or key_line o [] ++ keys_text rows (first + 1) count)
    (ap (row_of rows) (sym is) ∙ covers.named 0 row (omega arith))
    ∙ (ap (λ (text : List ℕ). key_line row ++ text)
    (covered rows (first + 1) count found (covers_behind rows first count row found is covers))
    ∙ sym (lines_step row found))))
    (λ (other : row.id ≢ first).
    let rise : Rise (first + 1) (row ∷ found) = (omega (arith, covers.rise.0, other), covers.rise.1) in
    keys_step rows first count
    ∙ (ap (λ (o : Option KeyRow). option_map_or key_line o [] ++ keys_text rows (first + 1) count)
    (none_first rows first (suc count) (row ∷ found) covers rise)
    ∙ covered rows (first + 1) count (row ∷ found) (covers_later rows first count (row ∷ found) covers rise)))
    (cases_eq row.id first)

flips : (x y : ℕ) → eqb x y ≡ eqb y x
flips x y =
    ⊎_elim (λ (same : x ≡ y). eq-eqb x y same ∙ sym (eq-eqb y x (sym same)))
    (λ (other : x ≢ y). ne_eqb x y other ∙ sym (ne_eqb y x (λ same. other (sym same))))
    (cases_eq x y)

none_equal : (id : ℕ) (rows : List KeyRow) → All (λ other. id ≢ other.id) rows
    → AllByRecursion (λ n. eqb id n ≡ false) (map identifier rows)
none_equal id [] none = tt
none_equal id (row ∷ rows) none = (
  ne_eqb id row.id (none 0 row (omega arith)),
  none_equal id rows
      (All-tail (λ (other : KeyRow). id ≢ other.id) row rows none),
)

-- no two identifiers are one
distinct : (rows : List KeyRow) → AllPairs (λ a b. a.id ≢ b.id) rows → IsDistinct eqb (map identifier rows)
unfolding IsDistinct
distinct [] apart = tt
distinct (row ∷ rows) apart = (
  none_equal row.id rows (λ k d low. apart 0 (suc k) d (omega arith) (omega arith)),
  distinct rows (λ i j d less low. apart (suc i) (suc j) d (omega arith) (omega arith)),
)

-- the first of the rows, if there is one, has no lower identifier
abbrev Start : ℕ → List KeyRow → Type 0
Start least [] = Unit {0}
Start least (row ∷ rows) = least ≤ row.id

rises : (least : ℕ) (rows : List KeyRow) → Start least rows → IsNonDecreasingBy identifier rows
    → IsDistinct eqb (map identifier rows) → Rise least rows
rises least [] start ascending apart = tt
rises least (row ∷ []) start ascending apart = (start, tt)
rises least (row ∷ next ∷ rows) start ascending apart =
    let low : row.id ≤ next.id = ascending 0 1 row (omega arith) (omega arith) in
    let other : eqb row.id next.id ≡ false = (IsDistinct-head eqb row.id (map identifier (next ∷ rows)) apart).0 in
    let unlike : row.id ≢ next.id = λ same. false≢true (sym other ∙ eq-eqb row.id next.id same) in
    let less : row.id + 1 ≤ next.id = omega (arith, low, unlike) in (
      start,
      rises (row.id + 1) (next ∷ rows) less (λ i j d le within. ascending (suc i) (suc j) d (omega arith) (omega arith))
          (IsDistinct-tail eqb row.id (map identifier (next ∷ rows)) apart),
    )

started : (rows : List KeyRow) → All (λ row. 0 < row.id) rows → Start 1 rows
started [] above = tt
started (row ∷ rows) above = above 0 row (omega arith)

-- what a map reads of elements does not fall if it does not fall along them
pub ascending_map : {A B : Type 0} (f : A → B) (n : B → ℕ) (xs : List A) → IsNonDecreasingBy (λ a. n (f a)) xs
    → IsNonDecreasingBy n (map f xs)
ascending_map f n [] ascending i j d le within = absurd (omega arith)
ascending_map f n (x ∷ xs) ascending i j d le within =
    let all = x ∷ xs in
    let low : j < length all = omega (arith, within, length-map all f) in
    let first : i < length all = omega (arith, le, low) in
    rw (get_or-map f all i x d first, get_or-map f all j x d low) (ascending i j x le low)

-- a row has the identifier of a key
abbrev pub IsNumbered : KeyRow → Type 0
IsNumbered row = (0 < row.id) × (row.id < 65536)

numbered_map : (found : List (Bor KeyRow)) → All (λ row. (0 < row.now.id) × (row.now.id < 65536)) found
    → All IsNumbered (map (λ row. row.now) found)
numbered_map [] all = All-nil IsNumbered
numbered_map (row ∷ found) all =
    All-cons IsNumbered row.now (map (λ row. row.now) found) (all 0 row (omega arith))
    (numbered_map found (All-tail (λ (row : Bor KeyRow). (0 < row.now.id) × (row.now.id < 65536)) row found all))

-- the rows of a book, ascending by identifier: their lines are those of all identifiers
pub keys_covered : (rows found : List KeyRow) → IsKeyBook rows → IsPermutation rows found
    → IsNonDecreasingBy identifier found → All IsNumbered found
    → keys_text rows 1 highest_identifier ≡ key_lines found
keys_covered rows found book same ascending numbered =
    let apart = book.rules.identifiers in
    covered rows 1 highest_identifier found (record {
      rise = rises 1 found (started found (λ k d low. (numbered k d low).0)) ascending
          (IsDistinct-IsPermutation eqb flips (map identifier rows) (map identifier found)
          (IsPermutation-map identifier rows found same) (distinct rows apart));
      below = λ k d low. let below = (numbered k d low).1 in omega (arith, below);
      named = All-permutation (λ row. row_of rows row.id ≡ Some row) rows found same (alone rows apart);
      all = λ id from none. not_there id rows (All-permutation (λ row. row.id ≢ id) found rows
          (IsPermutation-sym rows found same) none);
    })

-- with the lines of these rows put, those of all identifiers are
pub keys_of_found : (result : Result (Unit {0}) NoMemory) (old new : List ℕ) (rows : List KeyRow)
    (found slice : List (Bor KeyRow)) → IsKeyBook rows
    → IsPermutation rows (map (λ row. row.now) found) → IsNonDecreasingBy (λ row. row.now.id) found → slice ≡ found
    → OnOk result (new ≡ old ++ key_lines (map (λ row. row.now) slice))
    → OnOk result (All (λ row. (0 < row.now.id) × (row.now.id < 65536)) slice)
    → OnOk result (new ≡ old ++ keys_text rows 1 highest_identifier)
keys_of_found (Err e) old new rows found slice book same ascending is put numbered = put
keys_of_found (Ok u) old new rows found slice book same ascending is put numbered =
    let now : Bor KeyRow → KeyRow = λ row. row.now in
    let seen = map now found in
    let all : All (λ row. (0 < row.now.id) × (row.now.id < 65536)) found = subst
    (λ (rs : List (Bor KeyRow)). All (λ row. (0 < row.now.id) × (row.now.id < 65536)) rs) is numbered in
    put ∙ ap (λ (lines : List ℕ). old ++ lines)
    (ap (λ (rs : List (Bor KeyRow)). key_lines (map now rs)) is
    ∙ sym (keys_covered rows seen book same (ascending_map now identifier found ascending) (numbered_map found all)))
