-- Rows by their place, and what a write, an insertion and a removal leave of the rules.
use Rattle.std.proofs.Common.{◌≡◌, ◌≢◌, ℕ, zero, suc, ◌+◌, ◌-◌, ◌<◌, ◌≤◌, Bool, true, false, cond, not, nat_eq, nat_lt}
use Rattle.std.proofs.Common.{List, [], ◌∷◌, ◌++◌, length, get_or, set, take, drop, map, Option, Some, None, IsSome}
use Rattle.std.proofs.Common.{IsSomeAnd, sym, refl, ap, ◌∙◌, subst, inl, inr, ⊎_elim, ◌⊎◌, arith, rules}
use Rattle.std.specs.List.{filter, insert, remove, position, position_or_len, AllPairs, Contains}
use Rattle.std.specs.Option.{unwrap_or}
use Rattle.std.proofs.lemmas.Bool.{cases_eq, cases_lt}
use Rattle.std.proofs.lemmas.Bool.Decides.{nat_tests}
use Rattle.std.proofs.lemmas.List.{length-take, get_or-take, length-map, get_or-map, get_or_default, get_or-set_same}
use Rattle.std.proofs.lemmas.List.{get_or-set_other, same_lists, length-set, length_push}
use Rattle.std.proofs.lemmas.List.Edits.{length-insert, get_or-insert_below, get_or-insert_at, get_or-insert_above}
use Rattle.std.proofs.lemmas.List.Edits.{length-remove}
use Rattle.std.proofs.lemmas.List.Elements.{All-set, All-push, All-append, All-cons, All-take, All-drop}
use Rattle.std.proofs.lemmas.List.Sums.{prefix_len-le-length, fails_before_first, passes_at_first}
use Rattle.std.proofs.lemmas.List.Quantifiers.{position-Some, all_pairs_push, all_pairs_remove}
use Rattle.sdls_base.specs.declared.TheConstants.{MOST_ASSOCIATIONS}
use Rattle.sdls_base.specs.declared.states.Direction.TheVariants.{Receive}
use Rattle.sdls_base.specs.declared.states.SaState.TheVariants.{Operational}
use Rattle.sa_book.specs.declared.sa_book.SaRow.{SaRow}
use Rattle.sa_book.specs.declared.refusals.SaRefusal.{SaRefusal}
use Rattle.sa_book.specs.declared.refusals.SaRefusal.TheVariants.{UnknownSpi}
use Rattle.sa_book.specs.SaRow.{IsSaRow}
use Rattle.sa_book.specs.SaBook.{RowsAreApart, IsSaBook, MayFollow, row_of, place_of, changed, without, with_row}
use Rattle.sa_book.specs.SaRefusal.{on_row}
use Rattle.sdls_base.proofs.Searches.{find_placed, find_nowhere, chosen, left_out, pairs_set}

pub same_number : (a b : ℕ) → nat_eq a b ≡ true → a ≡ b
same_number a b h = grind (arith, nat_tests)

equal_number : (a b : ℕ) → a ≡ b → nat_eq a b ≡ true
equal_number a b h = grind (arith, nat_tests)

other_number : (a b : ℕ) → a ≢ b → nat_eq a b ≡ false
other_number a b h = grind (arith, nat_tests)

-- judging the row of an association

pub on_place : (rows : List SaRow) (spi i : ℕ) (row : SaRow) (f : SaRow → Option SaRefusal) → place_of rows spi ≡ Some i
    → row ≡ get_or rows i row → on_row (row_of rows spi) f ≡ f row
on_place rows spi i row f place read =
    ap (λ (r : Option SaRow). on_row r f) (find_placed (λ (r : SaRow). nat_eq r.spi spi) rows i row place)
    ∙ ap f (sym read)

pub on_nowhere : (rows : List SaRow) (spi : ℕ) (f : SaRow → Option SaRefusal) → place_of rows spi ≡ None
    → on_row (row_of rows spi) f ≡ Some UnknownSpi
on_nowhere rows spi f nowhere =
    ap (λ (r : Option SaRow). on_row r f) (find_nowhere (λ (r : SaRow). nat_eq r.spi spi) rows nowhere)

pub nowhere_row : (rows : List SaRow) (spi : ℕ) → place_of rows spi ≡ None → row_of rows spi ≡ None
nowhere_row rows spi nowhere = find_nowhere (λ (r : SaRow). nat_eq r.spi spi) rows nowhere

pub row_of_placed : (rows : List SaRow) (spi i : ℕ) (row : SaRow) → place_of rows spi ≡ Some i → row ≡ get_or rows i row
    → row_of rows spi ≡ Some row
row_of_placed rows spi i row place read =
    find_placed (λ (r : SaRow). nat_eq r.spi spi) rows i row place ∙ ap (λ (r : SaRow). Some r) (sym read)

pub within_place : (rows : List SaRow) (spi i : ℕ) (row : SaRow) → place_of rows spi ≡ Some i → i < length rows
within_place rows spi i row place = (position-Some _ rows i row place).0

pub named_place : (rows : List SaRow) (spi i : ℕ) (row : SaRow) → place_of rows spi ≡ Some i → row ≡ get_or rows i row
    → row.spi ≡ spi
named_place rows spi i row place read =
    ap (λ (r : SaRow). r.spi) read ∙ same_number _ _ (position-Some _ rows i row place).1

row_at : (rows : List SaRow) (i : ℕ) (row d : SaRow) → i < length rows → row ≡ get_or rows i row → get_or rows i d ≡ row
row_at rows i row d within read = get_or_default rows i d row within ∙ sym read

-- two reads at one place
pub same_read : (rows : List SaRow) (i : ℕ) (row other : SaRow) → i < length rows → row ≡ get_or rows i row
    → other ≡ get_or rows i other → row ≡ other
same_read rows i row other within read again = sym (row_at rows i row other within read) ∙ sym again

there : (rows : List SaRow) (spi : ℕ) (o : Option ℕ) → place_of rows spi ≡ o → IsSome (row_of rows spi) → IsSome o
there rows spi (Some i) e h = refl
there rows spi None e h = subst IsSome (find_nowhere (λ (r : SaRow). nat_eq r.spi spi) rows e) h

-- an association that is there has a place
pub placed_if_there : (rows : List SaRow) (spi : ℕ) → IsSome (row_of rows spi) → IsSome (place_of rows spi)
placed_if_there rows spi h = there rows spi (place_of rows spi) refl h

-- the place of the first that passes, or the end
pub or_end : {X : Type 0} (p : X → Bool) (xs : List X) → unwrap_or (position p xs) (length xs) ≡ position_or_len p xs
or_end p xs =
    let most = prefix_len-le-length (λ x. not (p x)) xs in
    grind (arith, nat_tests)

-- a row elsewhere has another index
other_index : (rows : List SaRow) (i k : ℕ) (d : SaRow) → IsSaBook rows → i < length rows → k < length rows → k ≢ i
    → (get_or rows k d).spi ≢ (get_or rows i d).spi
other_index rows i k d ok at_i at_k not_i =
    ⊎_elim (λ (less : k < i). let o = (ok.apart k i d less at_i).order in λ same. omega arith)
    (λ (more : i < k). let o = (ok.apart i k d more at_k).order in λ same. omega arith)
    (let apart : (k < i) ⊎ (i < k) = ⊎_elim (λ x. inl x) (λ x. inr (omega arith)) (cases_lt k i) in apart)

-- a write of a changed row at its place changes that row alone
pub set-changed : (rows : List SaRow) (spi i : ℕ) (f : SaRow → SaRow) (row : SaRow) → IsSaBook rows
    → place_of rows spi ≡ Some i → row ≡ get_or rows i row → set rows i (f row) ≡ changed rows spi f
set-changed rows spi i f row ok place read =
    let g : SaRow → SaRow = λ old. cond (nat_eq old.spi spi) (f old) old in
    let found = position-Some (λ (r : SaRow). nat_eq r.spi spi) rows i row place in
    let within : i < length rows = found.0 in
    let named : (get_or rows i row).spi ≡ spi = same_number _ _ found.1 in
    let test : nat_eq row.spi spi ≡ true = ap (λ (r : SaRow). nat_eq r.spi spi) read ∙ found.1 in
    same_lists _ _ (length-set rows i (f row) ∙ sym (length-map rows g))
    (λ k d low.
    let end : k < length rows = subst (λ n. k < n) (length-set rows i (f row)) low in
    ⊎_elim
    (λ (here : k ≡ i).
    subst (λ n. get_or (set rows i (f row)) n d ≡ get_or (map g rows) n d) (sym here)
    (get_or-set_same rows i (f row) d within
    ∙ sym (chosen (nat_eq row.spi spi) (f row) row test)
    ∙ ap g (sym (row_at rows i row d within read))
    ∙ sym (get_or-map g rows i d d within)))
    (λ (elsewhere : k ≢ i).
    get_or-set_other rows i k (f row) d elsewhere
    ∙ sym (left_out (nat_eq (get_or rows k d).spi spi) (f (get_or rows k d)) (get_or rows k d)
    (other_number _ _ (λ same. other_index rows i k d ok within end elsewhere
    (same ∙ sym named ∙ ap (λ (r : SaRow). r.spi) (get_or_default rows i row d within)))))
    ∙ sym (get_or-map g rows k d d end))
    (cases_eq k i))

-- The rules of two rows that do not speak of their order.
pub record Agree (a b : SaRow) : Type 0 where
  pub channels : a.state ≡ Operational → b.state ≡ Operational → a.direction ≡ b.direction → (channel : ℕ)
      → Contains a.channels channel → Contains b.channels channel → ⊥
  pub keys : a.direction ≡ Receive → b.direction ≡ Receive → (key : ℕ) → a.key ≡ Some key → b.key ≡ Some key → ⊥

agree_before : (a b : SaRow) → RowsAreApart a b → Agree b a
agree_before a b ok =
    record {
      channels = λ sb sa same channel inb ina. ok.channels sa sb (sym same) channel ina inb;
      keys = λ db da key kb ka. ok.keys da db key ka kb;
    }

agree_behind : (a b : SaRow) → RowsAreApart a b → Agree a b
agree_behind a b ok = record { channels = ok.channels; keys = ok.keys }

-- a row agrees with every other
pub agree_elsewhere : (rows : List SaRow) (i k : ℕ) (d : SaRow) → IsSaBook rows → i < length rows → k < length rows
    → k ≢ i → Agree (get_or rows i d) (get_or rows k d)
agree_elsewhere rows i k d ok at_i at_k not_i =
    ⊎_elim (λ (less : k < i). agree_before (get_or rows k d) (get_or rows i d) (ok.apart k i d less at_i))
    (λ (more : i < k). agree_behind (get_or rows i d) (get_or rows k d) (ok.apart i k d more at_k))
    (let apart : (k < i) ⊎ (i < k) = ⊎_elim (λ x. inl x) (λ x. inr (omega arith)) (cases_lt k i) in apart)

apart_before : (other new : SaRow) → other.spi < new.spi → Agree new other → RowsAreApart other new
apart_before other new order ok =
    record {
      order = order;
      channels = λ so sn same channel ino inn. ok.channels sn so (sym same) channel inn ino;
      keys = λ d_o dn key ko kn. ok.keys dn d_o key kn ko;
    }

apart_behind : (new other : SaRow) → new.spi < other.spi → Agree new other → RowsAreApart new other
apart_behind new other order ok = record { order = order; channels = ok.channels; keys = ok.keys }

-- a write of a row that keeps its index and agrees with every other keeps the rules
pub IsSaBook-set : (rows : List SaRow) (i : ℕ) (row new : SaRow) → IsSaBook rows → i < length rows
    → row ≡ get_or rows i row → IsSaRow new → new.spi ≡ row.spi
    → ((k : ℕ) (d : SaRow) → k < length rows → k ≢ i → Agree row (get_or rows k d) → Agree new (get_or rows k d))
    → IsSaBook (set rows i new)
IsSaBook-set rows i row new ok within read rules same_spi agrees =
    let at_i : (d : SaRow) → get_or rows i d ≡ row = λ d. row_at rows i row d within read in
    let agree : (k : ℕ) (d : SaRow) → k < length rows → k ≢ i → Agree new (get_or rows k d) =
    λ k d low not_i.
    agrees k d low not_i (subst (λ (r : SaRow). Agree r (get_or rows k d)) (at_i d)
    (agree_elsewhere rows i k d ok within low not_i)) in
    record {
      most = subst (λ n. n ≤ MOST_ASSOCIATIONS) (sym (length-set rows i new)) ok.most;
      each = All-set IsSaRow rows i new rules ok.each;
      apart = pairs_set RowsAreApart rows i new within
          (λ k d less.
          let o : (get_or rows k d).spi < (get_or rows i d).spi = (ok.apart k i d less within).order in
          apart_before (get_or rows k d) new
          (subst (λ n. (get_or rows k d).spi < n) (ap (λ (r : SaRow). r.spi) (at_i d) ∙ sym same_spi) o)
          (agree k d (omega arith) (omega arith)))
          (λ k d more end.
          let o : (get_or rows i d).spi < (get_or rows k d).spi = (ok.apart i k d more end).order in
          apart_behind new (get_or rows k d)
          (subst (λ n. n < (get_or rows k d).spi) (ap (λ (r : SaRow). r.spi) (at_i d) ∙ sym same_spi) o)
          (agree k d end (omega arith)))
          ok.apart;
    }

-- the rules of the row at a place
pub rules_at : (rows : List SaRow) (i : ℕ) (row : SaRow) → IsSaBook rows → i < length rows → row ≡ get_or rows i row
    → IsSaRow row
rules_at rows i row ok within read = subst IsSaRow (sym read) (ok.each i row within)

-- removal

filter_all : {X : Type 0} (q : X → Bool) (xs : List X) → ((k : ℕ) (d : X) → k < length xs → q (get_or xs k d) ≡ true)
    → filter q xs ≡ xs
filter_all q [] h = refl
filter_all q (x ∷ xs) h =
    chosen (q x) (x ∷ filter q xs) (filter q xs) (h zero x (omega arith))
    ∙ ap (λ ys. x ∷ ys) (filter_all q xs (λ k d low. h (suc k) d (omega arith)))

removed_one : {X : Type 0} (q : X → Bool) (xs : List X) (i : ℕ) → i < length xs → ((d : X) → q (get_or xs i d) ≡ false)
    → ((k : ℕ) (d : X) → k < length xs → k ≢ i → q (get_or xs k d) ≡ true) → remove xs i ≡ filter q xs
removed_one q [] i within here others = absurd (omega arith)
removed_one q (x ∷ xs) zero within here others =
    sym (filter_all q xs (λ k d low. others (suc k) d (omega arith) (omega arith)))
    ∙ sym (left_out (q x) (x ∷ filter q xs) (filter q xs) (here x))
removed_one q (x ∷ xs) (suc i) within here others =
    ap (λ ys. x ∷ ys)
    (removed_one q xs i (omega arith) here (λ k d low not_i. others (suc k) d (omega arith) (omega arith)))
    ∙ sym (chosen (q x) (x ∷ filter q xs) (filter q xs) (others zero x (omega arith) (omega arith)))

not-true : (b : Bool) → b ≡ true → not b ≡ false
not-true b h = ap not h

not-false : (b : Bool) → b ≡ false → not b ≡ true
not-false b h = ap not h

-- a removal at the place of an association leaves the rows without its own
pub remove-without : (rows : List SaRow) (spi i : ℕ) (row : SaRow) → IsSaBook rows → place_of rows spi ≡ Some i
    → row ≡ get_or rows i row → remove rows i ≡ without rows spi
remove-without rows spi i row ok place read =
    let found = position-Some (λ (r : SaRow). nat_eq r.spi spi) rows i row place in
    let named : (d : SaRow) → (get_or rows i d).spi ≡ spi =
    λ d. ap (λ (r : SaRow). r.spi) (get_or_default rows i d row found.0) ∙ same_number _ _ found.1 in
    removed_one (λ (r : SaRow). not (nat_eq r.spi spi)) rows i found.0
    (λ d. not-true _ (equal_number _ _ (named d)))
    (λ k d low not_i.
    not-false _ (other_number _ _ (λ same. other_index rows i k d ok found.0 low not_i (same ∙ sym (named d)))))

pub IsSaBook-remove : (rows : List SaRow) (i : ℕ) → IsSaBook rows → i < length rows → IsSaBook (remove rows i)
IsSaBook-remove rows i ok within =
    let most = ok.most in
    record {
      most = omega (arith, length-remove rows i within);
      each = All-append IsSaRow (take i rows) (drop (suc i) rows) (All-take IsSaRow i rows ok.each)
          (All-drop IsSaRow (suc i) rows ok.each);
      apart = all_pairs_remove RowsAreApart rows i within ok.apart;
    }

-- insertion

position_or_len-bound : {X : Type 0} (p : X → Bool) (xs : List X) → position_or_len p xs ≤ length xs
position_or_len-bound p xs = prefix_len-le-length (λ x. not (p x)) xs

less_of : (a b : ℕ) → nat_lt a b ≡ true → a < b
less_of a b h = grind (arith, nat_tests)

not_less : (a b : ℕ) → nat_lt a b ≡ false → a < b → ⊥
not_less a b h less = grind (arith, nat_tests)

lower_of : (a b : ℕ) → (a < b → ⊥) → b ≢ a → b < a
lower_of a b not_above other = omega arith

inserted_above : {X : Type 0} (xs : List X) (n : ℕ) (y d : X) (k : ℕ) → n < k → n ≤ length xs
    → get_or (insert xs n y) k d ≡ get_or xs (k - 1) d
inserted_above xs n y d k above fits =
    let back : k - 1 + 1 ≡ k = omega arith in
    subst (λ m. get_or (insert xs n y) m d ≡ get_or xs (k - 1) d) back
    (get_or-insert_above xs n y d (k - 1) (omega arith) fits)

-- an insertion in order
pairs_insert : {X : Type 0} (R : X → X → Type 0) (xs : List X) (n : ℕ) (y : X) → n ≤ length xs
    → ((k : ℕ) (d : X) → k < n → R (get_or xs k d) y) → ((k : ℕ) (d : X) → n ≤ k → k < length xs → R y (get_or xs k d))
    → AllPairs R xs → AllPairs R (insert xs n y)
pairs_insert R xs n y fits before behind pairs i j d less end =
    let size = length-insert xs n y fits in
    ⊎_elim
    (λ (i_low : i < n). ⊎_elim
    (λ (j_low : j < n). rw (get_or-insert_below xs n y d i i_low fits, get_or-insert_below xs n y d j j_low fits)
    (pairs i j d less (omega arith)))
    (λ (j_high : n ≤ j). ⊎_elim
    (λ (j_here : j ≡ n).
    subst (λ m. R (get_or (insert xs n y) i d) (get_or (insert xs n y) m d)) (sym j_here)
    (rw (get_or-insert_below xs n y d i i_low fits, get_or-insert_at xs n y d fits) (before i d i_low)))
    (λ (j_other : j ≢ n).
    rw (get_or-insert_below xs n y d i i_low fits, inserted_above xs n y d j (omega arith) fits)
    (pairs i (j - 1) d (omega arith) (omega (arith, size))))
    (cases_eq j n))
    (cases_lt j n))
    (λ (i_high : n ≤ i). ⊎_elim
    (λ (i_here : i ≡ n).
    subst (λ m. R (get_or (insert xs n y) m d) (get_or (insert xs n y) j d)) (sym i_here)
    (rw (get_or-insert_at xs n y d fits, inserted_above xs n y d j (omega arith) fits)
    (behind (j - 1) d (omega arith) (omega (arith, size)))))
    (λ (i_other : i ≢ n).
    rw (inserted_above xs n y d i (omega arith) fits, inserted_above xs n y d j (omega arith) fits)
    (pairs (i - 1) (j - 1) d (omega arith) (omega (arith, size))))
    (cases_eq i n))
    (cases_lt i n)

-- the place for a row is one of the book
pub fits_place : (rows : List SaRow) (spi : ℕ) → position_or_len (λ (other : SaRow). nat_lt spi other.spi) rows
    ≤ length rows
fits_place rows spi = position_or_len-bound (λ (other : SaRow). nat_lt spi other.spi) rows

-- a row of another index than those there, in its place, keeps the rules
pub IsSaBook-insert : (rows : List SaRow) (row : SaRow) → IsSaBook rows → length rows + 1 ≤ MOST_ASSOCIATIONS
    → IsSaRow row → ((k : ℕ) (d : SaRow) → k < length rows → (get_or rows k d).spi ≢ row.spi)
    → ((other : SaRow) → Agree row other) → IsSaBook (with_row rows row)
IsSaBook-insert rows row ok room rules others agrees =
    let p : SaRow → Bool = λ other. nat_lt row.spi other.spi in
    let n : ℕ = position_or_len p rows in
    let fits : n ≤ length rows = position_or_len-bound p rows in
    record {
      most = subst (λ m. m ≤ MOST_ASSOCIATIONS) (sym (length-insert rows n row fits)) room;
      each = All-append IsSaRow (take n rows) (row ∷ drop n rows) (All-take IsSaRow n rows ok.each)
          (All-cons IsSaRow row (drop n rows) rules (All-drop IsSaRow n rows ok.each));
      apart = pairs_insert RowsAreApart rows n row fits
          (λ k d less.
          let not_above : row.spi < (get_or rows k d).spi → ⊥ = not_less _ _ (fails_before_first p rows k d less) in
          let other = others k d (omega arith) in
          apart_before (get_or rows k d) row (lower_of _ _ not_above other) (agrees (get_or rows k d)))
          (λ k d high end.
          let least : row.spi < (get_or rows n d).spi = less_of _ _ (passes_at_first p rows d (omega arith)) in
          apart_behind row (get_or rows k d)
          (⊎_elim (λ (here : k ≡ n). subst (λ m. row.spi < (get_or rows m d).spi) (sym here) least)
          (λ (beyond : k ≢ n). let o = (ok.apart n k d (omega arith) end).order in omega arith)
          (cases_eq k n))
          (agrees (get_or rows k d)))
          ok.apart;
    }

pub IsSaBook-push : (rows : List SaRow) (row : SaRow) → IsSaBook rows → MayFollow rows row → IsSaBook (rows ++ row ∷ [])
IsSaBook-push rows row ok may =
    record {
      most = subst (λ n. n ≤ MOST_ASSOCIATIONS) (sym (length_push rows row)) may.room;
      each = All-push IsSaRow rows row ok.each may.rules;
      apart = all_pairs_push RowsAreApart rows row ok.apart may.apart;
    }

pub there_and : {X : Type 0} (o : Option X) (P : X → Type 0) → IsSomeAnd o P → IsSome o
there_and (Some x) P h = refl
there_and None P h = absurd h

-- each row may follow those before it
pub may_follow : (rows : List SaRow) (i : ℕ) (d : SaRow) → IsSaBook rows → i < length rows
    → MayFollow (take i rows) (get_or rows i d)
may_follow rows i d ok within =
    let front : length (take i rows) ≡ i = omega (arith, length-take i rows) in
    let most = ok.most in
    record {
      room = subst (λ n. n + 1 ≤ MOST_ASSOCIATIONS) (sym front) (omega arith);
      rules = ok.each i d within;
      apart = λ k e low.
          let less : k < i = subst (λ n. k < n) front low in
          subst (λ (row : SaRow). RowsAreApart (get_or (take i rows) k e) row) (sym (get_or_default rows i d e within))
          (subst (λ (other : SaRow). RowsAreApart other (get_or rows i e)) (sym (get_or-take i rows k e less))
          (ok.apart k i e less within));
    }
