-- Indexes that are sorted at once: for `is_ascending`, `index_by_id` and `index_by_front`.
use Rattle.std.proofs.Common.{◌≡◌, ◌≢◌, ℕ, ◌<◌, ◌≤◌, Bool, false, nat_eq, List, [], length, get_or, Option}
use Rattle.std.proofs.Common.{Some, None, IfSome, All, IsPermutation, sym, refl, ap, ◌∙◌, ⊎_elim, arith}
use Rattle.std.specs.List.{AllPairs, Contains, position}
use Rattle.std.proofs.lemmas.Bool.{cases_lt}
use Rattle.std.proofs.lemmas.Bool.Decides.{nat_tests}
use Rattle.std.proofs.lemmas.List.{get_or_default}
use Rattle.std.proofs.lemmas.List.Quantifiers.{position-Some}
use Rattle.std.proofs.lemmas.List.Sorted.{All-permutation, Contains-permutation}
use Rattle.sdls_base.specs.declared.states.KeyState.TheVariants.{PreActive}
use Rattle.sdls_base.proofs.Searches.{find_none, find_nowhere}
use Rattle.key_book.specs.declared.table.Entry.{Entry}
use Rattle.key_book.specs.declared.table.Index.{Index}
use Rattle.key_book.specs.declared.key_row.KeyRow.{KeyRow}
use Rattle.key_book.specs.Index.{place_in, number_at, IsAscending, IsAt}
use Rattle.key_book.specs.Table.{front, AreNumbersOf, IsIndex, IsIndexApart}
use Rattle.key_book.proofs.Indexed.{none_at, place_at, place_free}

-- the numbers before a place rise
abbrev pub IsRisingTo : List Entry → ℕ → Type 0
IsRisingTo entries i = (j k : ℕ) → j < k → k < i → number_at entries j < number_at entries k

-- the numbers of the rows before a place, with their places
pub record AreNumbersTo (number : KeyRow → ℕ) (rows : List KeyRow) (entries : List Entry) (i : ℕ) : Type 0 where
  pub as_many : length entries ≡ i
  pub each : (k : ℕ) (row : KeyRow) (entry : Entry) → k < i
      → get_or entries k entry ≡ record { number = number (get_or rows k row); place = k }

no_row : KeyRow
no_row = record { id = 0; state = PreActive; bytes = []; digest = []; mark = 0; floor = 0 }

entry_of : (KeyRow → ℕ) → List KeyRow → ℕ → Entry
entry_of number rows k = record { number = number (get_or rows k no_row); place = k }

-- the entry of a row is among those that were sorted
sorted_has : (number : KeyRow → ℕ) (rows : List KeyRow) (before after : List Entry) → AreNumbersOf number rows before
    → IsPermutation before after → (k : ℕ) → k < length rows → Contains after (entry_of number rows k)
unfolding entry_of
sorted_has number rows before after are same k low =
    Contains-permutation before after (entry_of number rows k) same
    (k, omega (arith, are.as_many), are.each k no_row (entry_of number rows k) low)

-- an element stands where its number is found
is_at : (entries : List Entry) (x : Entry) (has : Contains entries x) → IsAt entries x.number has.0
is_at entries x has = record {
  within = has.1;
  named = ap (λ (e : Entry). e.number) (get_or_default entries has.0 none_at x has.1 ∙ has.2);
}

apart_rows : (number : KeyRow → ℕ) (rows : List KeyRow) (before after : List Entry)
    → AreNumbersOf number rows before → IsPermutation before after → IsAscending after
    → AllPairs (λ a b. number a ≢ number b) rows
unfolding entry_of
apart_rows number rows before after are same up i j d less low equal =
    let first = sorted_has number rows before after are same i (omega arith) in
    let second = sorted_has number rows before after are same j low in
    let at_first = is_at after (entry_of number rows i) first in
    let at_second = is_at after (entry_of number rows j) second in
    let numbers : number (get_or rows i no_row) ≡ number (get_or rows j no_row) =
    ap number (get_or_default rows i no_row d (omega arith)) ∙ equal ∙ ap number (get_or_default rows j d no_row low) in
    ⊎_elim
    (λ (far : first.0 < second.0).
    let rises = up first.0 second.0 far second.1 in
    omega (arith, rises, at_first.named, at_second.named, numbers))
    (λ (near : second.0 ≤ first.0).
    ⊎_elim
    (λ (back : second.0 < first.0).
    let rises = up second.0 first.0 back first.1 in
    omega (arith, rises, at_first.named, at_second.named, numbers))
    (λ (beside : first.0 ≤ second.0).
    let here : first.0 ≡ second.0 = omega arith in
    let one : entry_of number rows i ≡ entry_of number rows j =
    sym first.2 ∙ get_or_default after first.0 (entry_of number rows i) (entry_of number rows j) first.1
    ∙ ap (λ (k : ℕ). get_or after k (entry_of number rows j)) here ∙ second.2 in
    omega (arith, ap (λ (e : Entry). e.place) one))
    (cases_lt second.0 first.0))
    (cases_lt first.0 second.0)

is_index : (number : KeyRow → ℕ) (rows : List KeyRow) (before after : List Entry)
    → AreNumbersOf number rows before → IsPermutation before after → IsAscending after → IsIndex number rows after
unfolding entry_of
is_index number rows before after are same up = record { ascending = up; places = λ n. place n _ refl }
  where
    place : (n : ℕ) (o : Option ℕ) → position (λ (row : KeyRow). nat_eq (number row) n) rows ≡ o
        → place_in after n ≡ position (λ (row : KeyRow). nat_eq (number row) n) rows
    place n (Some k) placed =
        let test : KeyRow → Bool = λ row. nat_eq (number row) n in
        let found = position-Some test rows k no_row placed in
        let named : number (get_or rows k no_row) ≡ n = grind (arith, nat_tests, found.1) in
        let has = sorted_has number rows before after are same k found.0 in
        let at = is_at after (entry_of number rows k) has in
        place_at after n has.0 up (record { within = has.1; named = at.named ∙ named })
        ∙ ap (λ (e : Entry). Some e.place)
        (get_or_default after has.0 none_at (entry_of number rows k) has.1 ∙ has.2)
        ∙ sym placed
    place n None nowhere =
        let test : KeyRow → Bool = λ row. nat_eq (number row) n in
        let none : All (λ (e : Entry). e.number ≢ n) before = λ k e low equal.
        let within : k < length rows = omega (arith, are.as_many) in
        let other : test (get_or rows k no_row) ≡ false =
        find_none test rows (find_nowhere test rows nowhere) k no_row within in
        let named : number (get_or rows k no_row) ≡ n =
        sym (ap (λ (x : Entry). x.number) (are.each k no_row e within)) ∙ equal in
        absurd (grind (arith, nat_tests, other, named)) in
        place_free after n
        (λ k low. All-permutation (λ (e : Entry). e.number ≢ n) before after same none k none_at low)
        ∙ sym nowhere

pub index_apart : (number : KeyRow → ℕ) (rows : List KeyRow) (before after : List Entry)
    → AreNumbersOf number rows before → IsPermutation before after → IsAscending after → IsIndexApart number rows after
index_apart number rows before after are same up = record {
  index = is_index number rows before after are same up;
  apart = apart_rows number rows before after are same up;
}

pub index_found : (number : KeyRow → ℕ) (rows : List KeyRow) (before : List Entry) (found : Option Index)
    → AreNumbersOf number rows before → IfSome found (λ index. IsPermutation before index.entries.items)
    → IfSome found (λ index. IsAscending index.entries.items)
    → IfSome found (λ index. IsIndexApart number rows index.entries.items)
index_found number rows before (Some index) are same up = index_apart number rows before index.entries.items are same up
index_found number rows before None are same up = tt

pub digests_apart : (rows : List KeyRow) → AllPairs (λ a b. front a.digest ≢ front b.digest) rows
    → AllPairs (λ a b. a.digest ≢ b.digest) rows
digests_apart rows apart i j d less low equal = apart i j d less low (ap front equal)
