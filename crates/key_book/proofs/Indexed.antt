-- What an index has for a number, and what a note changes of that.
use Rattle.std.proofs.Common.{◌≡◌, ◌≢◌, ℕ, zero, suc, ◌+◌, ◌-◌, ◌<◌, ◌≤◌, Bool, true, false, cond, nat_eq, List, []}
use Rattle.std.proofs.Common.{◌∷◌, length, get_or, Option, Some, None, Result, Ok, Err, IfOk, IfErr, sym, refl, ap, ◌∙◌}
use Rattle.std.proofs.Common.{subst, ⊎_elim, arith}
use Rattle.std.specs.List.{find, insert}
use Rattle.std.specs.List.Sorted.{IsSearchInRange, IsBinarySearchResult, IsNonDecreasingBy}
use Rattle.std.specs.Option.{option_map, option_or}
use Rattle.std.specs.Ordering.{nat_cmp, ordering_index}
use Rattle.std.proofs.lemmas.Bool.{cases_lt, false≢true}
use Rattle.std.proofs.lemmas.Bool.Decides.{nat_tests}
use Rattle.std.proofs.lemmas.Cmp.{ranked}
use Rattle.std.proofs.lemmas.List.Edits.{length-insert, get_or-insert_below, get_or-insert_at, get_or-insert_above}
use Rattle.std.proofs.lemmas.List.Sorted.{IsNonDecreasingBy-from_default}
use Rattle.key_book.specs.declared.table.Entry.{Entry}
use Rattle.key_book.specs.Index.{place_in, place_noted, number_at, IsAscending, IsAt, IsGapFor}

abbrev pub none_at : Entry
none_at = record { number = 0; place = 0 }

-- no entry before a place has the number
abbrev IsFree : List Entry → ℕ → ℕ → Type 0
IsFree entries number i = (k : ℕ) → k < i → number_at entries k ≢ number

tail_free : (e : Entry) (es : List Entry) (n i : ℕ) → IsFree (e ∷ es) n (suc i) → IsFree es n i
tail_free e es n i free k low = free (suc k) (omega arith)

head_free : (e : Entry) (es : List Entry) (n i : ℕ) → IsFree (e ∷ es) n (suc i) → nat_eq e.number n ≡ false
head_free e es n i free = let other : e.number ≢ n = free 0 (omega arith) in grind (arith, nat_tests, other)

pub place_free : (entries : List Entry) (n : ℕ) → IsFree entries n (length entries) → place_in entries n ≡ None
place_free [] n free = refl
place_free (e ∷ es) n free =
    let rest = place_free es n (tail_free e es n (length es) free) in
    let head = head_free e es n (length es) free in
    ap (λ b. option_map (λ (x : Entry). x.place) (cond b (Some e) (find (λ (x : Entry). nat_eq x.number n) es))) head
    ∙ rest

place_first : (entries : List Entry) (n i : ℕ) → i < length entries → number_at entries i ≡ n → IsFree entries n i
    → place_in entries n ≡ Some (get_or entries i none_at).place
place_first [] n i within named free = absurd (omega arith)
place_first (e ∷ es) n zero within named free =
    let same : nat_eq e.number n ≡ true = grind (arith, nat_tests, named) in
    ap (λ b. option_map (λ (x : Entry). x.place) (cond b (Some e) (find (λ (x : Entry). nat_eq x.number n) es))) same
place_first (e ∷ es) n (suc i) within named free =
    ap (λ b. option_map (λ (x : Entry). x.place) (cond b (Some e) (find (λ (x : Entry). nat_eq x.number n) es)))
    (head_free e es n i free)
    ∙ place_first es n i (omega arith) named (tail_free e es n i free)

-- an entry of ascending ones is that of its number
pub place_at : (entries : List Entry) (n i : ℕ) → IsAscending entries → IsAt entries n i
    → place_in entries n ≡ Some (get_or entries i none_at).place
place_at entries n i up at =
    place_first entries n i at.within at.named (λ k low same. let less = up k i low at.within in let named = at.named in
    omega arith)

-- a number that has a gap has no entry
pub place_in_gap : (entries : List Entry) (n i : ℕ) → IsGapFor entries n i → place_in entries n ≡ None
place_in_gap entries n i gap = place_free entries n (λ k low same.
    ⊎_elim
    (λ (less : k < i). let other = gap.before k less in absurd (omega arith))
    (λ (more : i ≤ k). let other = gap.behind k more low in absurd (omega arith))
    (cases_lt k i))

abbrev pub place_of_entry : Option Entry → Option ℕ
place_of_entry found = option_map (λ (entry : Entry). entry.place) found

put_before : (e new : Entry) (b c : Bool) (found before : Option Entry) → (b ≡ true → c ≡ false)
    → place_of_entry found ≡ cond c (Some new.place) (place_of_entry before)
    → place_of_entry (cond b (Some e) found) ≡ cond c (Some new.place) (place_of_entry (cond b (Some e) before))
put_before e new true true found before apart rest = absurd (false≢true (sym (apart refl)))
put_before e new true false found before apart rest = refl
put_before e new false c found before apart rest = rest

-- an entry that is put before any other of its number
place_insert : (entries : List Entry) (new : Entry) (i q : ℕ) → i ≤ length entries → IsFree entries new.number i
    → place_in (insert entries i new) q ≡ cond (nat_eq new.number q) (Some new.place) (place_in entries q)
place_insert entries new zero q within free = by (nat_eq new.number q)
  where
    by : (b : Bool) → option_map (λ (x : Entry). x.place)
        (cond b (Some new) (find (λ (x : Entry). nat_eq x.number q) entries))
        ≡ cond b (Some new.place) (place_in entries q)
    by true = refl
    by false = refl
place_insert [] new (suc i) q within free = absurd (omega arith)
place_insert (e ∷ es) new (suc i) q within free =
    put_before e new (nat_eq e.number q) (nat_eq new.number q) _ _ (λ here. let other = free 0 (omega arith) in
    grind (arith, nat_tests, other, here))
    (place_insert es new i q (omega arith) (tail_free e es new.number i free))

-- a search among ascending numbers
rising : (entries : List Entry) (n : ℕ) → IsAscending entries
    → IsNonDecreasingBy (λ (e : Entry). ordering_index (nat_cmp e.number n)) entries
rising entries n up = IsNonDecreasingBy-from_default (λ (e : Entry). ordering_index (nat_cmp e.number n)) entries
    none_at (λ i j le within.
    let low : number_at entries i ≤ number_at entries j =
    ⊎_elim (λ (less : i < j). let strict = up i j less within in
    omega arith) (λ (not_less : j ≤ i). let same : i ≡ j = omega arith in
    subst (λ k. number_at entries i ≤ number_at entries k) same (omega arith)) (cases_lt i j) in
    grind (arith, nat_tests, low))

pub searched : (entries : List Entry) (n : ℕ) → IsAscending entries → (r : Result ℕ ℕ)
    → IsSearchInRange r (length entries) → IsBinarySearchResult (λ (e : Entry). nat_cmp e.number n) entries r
    → IfOk r (IsAt entries n) × IfErr r (IsGapFor entries n)
searched entries n up (Ok at) within equal =
    (record { within = within; named = ranked _ n _ (sym (equal none_at)) }, tt)
searched entries n up (Err at) within parted =
    let parts = parted (rising entries n up) in (
      tt,
      record {
        within = within;
        before = λ k low. ranked _ n _ (sym (parts.0 k none_at (omega arith) low));
        behind = λ k more low. ranked _ n _ (sym (parts.1 k none_at more low));
      },
    )

-- a number that is noted

or_none : (o : Option ℕ) → option_or o None ≡ o
or_none None = refl
or_none (Some n) = refl

pub noted-there : (entries : List Entry) (n place at : ℕ) → IsAscending entries → IsAt entries n at → (q : ℕ)
    → place_in entries q ≡ place_noted (place_in entries q) n place q
noted-there entries n place at up is_at q =
    stays (nat_eq n q) (place_in entries q) (get_or entries at none_at).place (λ same. let here : n ≡ q =
    grind (arith, nat_tests, same) in
    subst (λ m. place_in entries m ≡ Some (get_or entries at none_at).place) here
    (place_at entries n at up is_at))
  where
    stays : (b : Bool) (o : Option ℕ) (p : ℕ) → (b ≡ true → o ≡ Some p) → o ≡ option_or o (cond b (Some place) None)
    stays true o p h = subst (λ (x : Option ℕ). x ≡ option_or x (Some place)) (sym (h refl)) refl
    stays false o p h = sym (or_none o)

pub noted-new : (entries : List Entry) (new : Entry) (at : ℕ) → IsGapFor entries new.number at → (q : ℕ)
    → place_in (insert entries at new) q ≡ place_noted (place_in entries q) new.number new.place q
noted-new entries new at gap q =
    place_insert entries new at q gap.within (λ k low same. let less = gap.before k low in omega arith)
    ∙ stands (nat_eq new.number q) (place_in entries q) (λ same. let here : new.number ≡ q =
    grind (arith, nat_tests, same) in
    subst (λ m. place_in entries m ≡ None) here (place_in_gap entries new.number at gap))
  where
    stands : (b : Bool) (o : Option ℕ) → (b ≡ true → o ≡ None)
        → cond b (Some new.place) o ≡ option_or o (cond b (Some new.place) None)
    stands true o h = subst (λ (x : Option ℕ). Some new.place ≡ option_or x (Some new.place)) (sym (h refl)) refl
    stands false o h = sym (or_none o)

pub IsAscending-insert : (entries : List Entry) (new : Entry) (at : ℕ) → IsGapFor entries new.number at
    → IsAscending entries → IsAscending (insert entries at new)
IsAscending-insert entries new at gap up i j less within =
    let all : List Entry = insert entries at new in
    let long = length-insert entries at new gap.within in
    let below : (k : ℕ) → k < at → number_at all k ≡ number_at entries k =
    λ k low. ap (λ (e : Entry). e.number) (get_or-insert_below entries at new none_at k low gap.within) in
    let here : (k : ℕ) → k ≡ at → number_at all k ≡ new.number =
    λ k same. rw same (ap (λ (e : Entry). e.number) (get_or-insert_at entries at new none_at gap.within)) in
    let above : (k : ℕ) → at < k → number_at all k ≡ number_at entries (k - 1) =
    λ k more. subst (λ q. number_at all q ≡ number_at entries (k - 1)) {x = k - 1 + 1} (omega arith)
    (ap (λ (e : Entry). e.number)
    (get_or-insert_above entries at new none_at (k - 1) (omega arith) gap.within)) in
    grind (
      arith,
      below i,
      here i,
      above i,
      below j,
      here j,
      above j,
      up i j,
      up i (j - 1),
      up (i - 1) (j - 1),
      gap.before i,
      gap.behind (j - 1),
    )
