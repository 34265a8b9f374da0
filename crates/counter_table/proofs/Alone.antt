-- What a worker that has all shares knows, since all other workers ended.
use Rattle.std.proofs.Common.{◌≡◌, ◌≢◌, ℕ, zero, suc, ◌<◌, ◌≤◌, true, false, List, [], ◌∷◌, ◌++◌, get_or, length, map}
use Rattle.std.proofs.Common.{sym, refl, ap, ◌∙◌, inl, inr, ⊎_elim, le_trans, arith, length-append, Option}
use Rattle.std.proofs.lemmas.Bool.Decides.{nat_tests}
use mathlib.Core.Option.{some, some-injective, some-ne-none}
use mathlib.Core.Logic.{dite}
use native.Mathlib.Decide.{ℕ_discrete}
use lib.ListN.{get_elem?}
use Rattle.atomic_table.specs.Table.{State}
use Rattle.atomic_table.proofs.Lists.{at_map}
use Rattle.sdls_base.specs.declared.entry.Logged.{Logged}
use Rattle.counter_table.specs.declared.view.Known.{Known}
use Rattle.counter_table.specs.declared.view.Numbers.{Numbers}
use Rattle.counter_table.specs.declared.view.Turn.{Turn}
use Rattle.counter_table.specs.declared.view.View.{View}
use Rattle.sdls_base.specs.Numbers.{one_if, tally, total, once_below}
use Rattle.counter_table.specs.Numbers.{count_of, amount, top, no_numbers, ALL_SHARES}
use Rattle.counter_table.specs.Turn.{stands, no_turn}
use Rattle.counter_table.specs.Rule.{greatest, next_at, KnowsBook, IsAtHome, IsKept}
use Rattle.counter_table.specs.Play.{IsAsKnown, IsCovered}
use Rattle.counter_table.specs.Whole.{RowStands, IsWhole, Look}
use Rattle.counter_table.proofs.Sums.{total_at, total_two, total_only, greatest_least}
use Rattle.counter_table.proofs.Rows.{once_below_more, once_below_one}
use Rattle.counter_table.proofs.Knowing.{append-nil}
use Rattle.counter_table.proofs.Booking.{is_zero, home_free}
use Rattle.counter_table.proofs.Keeping.{numbers_of, turns_of, at_numbers, at_turn}

at_unmap : {A C : Type 0} (f : A → C) (l : List A) (i : ℕ) (c : C) → get_elem? (map f l) i ≡ some c
    → (a : A) × (get_elem? l i ≡ some a) × (f a ≡ c)
at_unmap f [] i c e = absurd (some-ne-none c (sym e))
at_unmap f (x ∷ xs) zero c e = (x, refl, some-injective (f x) c e)
at_unmap f (x ∷ xs) (suc i) c e = at_unmap f xs i c e

module _ {B : Type 0} (told : B → Known) (count : ℕ) (s : State (Option B) View) (id : ℕ) (v : View)
    (at : get_elem? s.views id ≡ some v) (kept : IsKept told count s) where
  mine : get_elem? (numbers_of s.views) id ≡ some v.numbers
  mine = at_numbers told count s id v v at kept

  its_turn : get_elem? (turns_of s.views) id ≡ some v.turn
  its_turn = at_turn told count s id v v at kept

  pub knows : KnowsBook kept.book kept.filled v.turn
  knows = kept.turn.each id v.turn its_turn

  -- what was spent is below the marks
  pub covers : IsCovered count v.numbers kept.book
  covers row x b = le_trans (((kept.numbers.rows row b).each id v.numbers mine).spent x)
      (once_below_more x _ _ (kept.turn.limits row b))

  -- no place was made twice
  pub made_once : (place : ℕ) → stands place v.turn.made ≤ 1
  made_once place =
      let t = total_at (λ (u : Turn). stands place u.made) (turns_of s.views) id v.turn its_turn in
      let m = kept.turn.made place in let o = once_below_one place (length kept.book.log) in omega arith

  pub look : Look v.turn
  look = record {
    made = made_once;
    book = kept.book;
    known = knows.earlier;
    one = knows.one;
    other = knows.other;
    opening = λ f. (knows.opening f).1;
  }

  module _ (all : v.numbers.shares ≡ ALL_SHARES) where
    -- with all shares, each other worker ended
    pub alone : (j : ℕ) (u : Turn) → get_elem? (turns_of s.views) j ≡ some u → j ≢ id → u ≡ no_turn
    alone j u e apart =
        let there = at_unmap (λ (z : View). z.turn) s.views j u e in
        let x = there.0 in
        let its = at_map (λ (z : View). z.numbers) s.views j x there.1 in
        let two = total_two (λ z. z.shares) (numbers_of s.views) id j v.numbers x.numbers mine its
        (λ k. apart (sym k)) in
        let sum = kept.numbers.shares in
        sym there.2 ∙ kept.ended j x there.1 (omega arith)

    others : (j : ℕ) (u : Numbers) → get_elem? (numbers_of s.views) j ≡ some u → j ≢ id → u ≡ no_numbers
    others j u e apart =
        let two = total_two (λ z. z.shares) (numbers_of s.views) id j v.numbers u mine e (λ k. apart (sym k)) in
        let sum = kept.numbers.shares in
        ⊎_elim (λ k. k) (λ k. absurd (omega arith)) (kept.numbers.sane j u e).alive

    numbers_only : (f : Numbers → ℕ) → f no_numbers ≡ 0 → total f (numbers_of s.views) ≡ f v.numbers
    numbers_only f z = total_only f (numbers_of s.views) id v.numbers mine
        (λ j u e apart. ap f (others j u e apart) ∙ z)

    raised_only : (row : ℕ) → greatest (λ u. top row u.raised) (numbers_of s.views) ≤ top row v.numbers.raised
    raised_only row = greatest_least (λ u. top row u.raised) (numbers_of s.views) _ (λ j u e. dite (ℕ_discrete j id)
        (λ same. let is : u ≡ v.numbers =
        some-injective u v.numbers (sym e ∙ (ap (get_elem? (numbers_of s.views)) same ∙ mine)) in
        let k : top row u.raised ≡ top row v.numbers.raised = ap (λ z. top row z.raised) is in omega arith)
        (λ apart. let k : top row u.raised ≡ 0 = ap (λ z. top row z.raised) (others j u e apart) in omega arith))

    last_only : (row n : ℕ)
        → ((j : ℕ) × (u : Numbers) × (get_elem? (numbers_of s.views) j ≡ some u) × (0 < u.shares)
        × (top row u.nexts ≡ n)) → top row v.numbers.nexts ≡ n
    last_only row n k = dite (ℕ_discrete k.0 id)
        (λ same. let is : k.1 ≡ v.numbers =
        some-injective k.1 v.numbers (sym k.2 ∙ (ap (get_elem? (numbers_of s.views)) same ∙ mine)) in
        ap (λ z. top row z.nexts) (sym is) ∙ k.4)
        (λ apart. absurd (let z : k.1.shares ≡ 0 = ap (λ z. z.shares) (others k.0 k.1 k.2 apart) in let p = k.3 in
        omega arith))

    pub row_stands : (row : ℕ) → row < count → RowStands row (get_or s.words (next_at row) 0) v.numbers
    row_stands row b =
        let fits = kept.numbers.rows row b in
        let seat = fits.each id v.numbers mine in
        record {
          grown = let t = numbers_only (λ u. amount row u.added) refl in let g = fits.grown in omega arith;
          bound = let t = numbers_only (λ u. count_of row u.drawn) refl in let r = raised_only row in
              let g = fits.bound in omega arith;
          drawn = λ x. let t = numbers_only (λ u. tally row x u.drawn) refl in let o = fits.once x in omega arith;
          seen = seat.nexts;
          last = ⊎_elim inl (λ k. inr (last_only row (get_or s.words (next_at row) 0) k)) fits.last;
        }

    pub made_only : (p : ℕ) → stands p v.turn.made ≡ once_below p (length kept.book.log)
    made_only p =
        sym (total_only (λ u. stands p u.made) (turns_of s.views) id v.turn its_turn
        (λ j u e n. ap (λ z. stands p z.made) (alone j u e n))) ∙ kept.turn.made p

    pub whole : kept.book.log ≡ v.turn.known.log
    whole = go knows.earlier.log.0 knows.earlier.log.1
      where
        below_itself : (n m : ℕ) → n < m → once_below n m ≡ 1
        below_itself n m h = grind (arith, nat_tests)

        go : (rest : List Logged) → kept.book.log ≡ v.turn.known.log ++ rest → kept.book.log ≡ v.turn.known.log
        go [] e = e ∙ append-nil v.turn.known.log
        go (x ∷ xs) e =
            let n = length v.turn.known.log in
            let l : length kept.book.log ≡ length (v.turn.known.log ++ x ∷ xs) = ap length e in
            let a = length-append v.turn.known.log (x ∷ xs) in
            let longer : n < length kept.book.log = omega arith in
            let one = made_only n ∙ below_itself n (length kept.book.log) longer in
            absurd (let m = knows.made n (omega arith) in omega arith)

    known_only : (f : Turn → ℕ) → f no_turn ≡ 0 → greatest f (turns_of s.views) ≤ f v.turn
    known_only f none = greatest_least f (turns_of s.views) _ (λ j u e. dite (ℕ_discrete j id)
        (λ same. let is : u ≡ v.turn =
        some-injective u v.turn (sym e ∙ (ap (get_elem? (turns_of s.views)) same ∙ its_turn)) in
        let k = ap f is in omega arith)
        (λ apart. let k : f u ≡ f no_turn = ap f (alone j u e apart) in omega arith))

    -- nor did the book's counts go on without it
    pub as_known : IsAsKnown v.turn kept.book
    as_known =
        let r = kept.turn.reached in let k = knows.earlier in
        record {
          log = whole;
          changes = let h = known_only (λ u. u.known.changes) refl in let a = r.changes in let b = k.changes in
              omega arith;
          faults = let h = known_only (λ u. u.known.faults) refl in let a = r.faults in let b = k.faults in omega arith;
          standing = let h = known_only (λ u. u.known.standing) refl in let a = r.standing in let b = k.standing in
              omega arith;
          put_faults = let h = known_only (λ u. u.known.put_faults) refl in let a = r.put_faults in
              let b = k.put_faults in omega arith;
        }

    pub is_whole : IsWhole count v
    is_whole =
        record {
          rows = λ row b. (get_or s.words (next_at row) 0, row_stands row b);
          made = λ p. made_only p ∙ ap (λ z. once_below p (length z)) whole;
        }

    module _ (free : v.turn.holds ≡ false) where
      -- the turn is free
      pub free_word : get_or s.words 0 0 ≡ 0
      free_word =
          let sum : total (λ u. one_if u.holds) (turns_of s.views) ≡ 0 =
          total_only (λ u. one_if u.holds) (turns_of s.views) id v.turn its_turn
          (λ j u e n. ap (λ z. one_if z.holds) (alone j u e n)) ∙ is_zero v.turn.holds free in
          ⊎_elim (λ h. h.turn) (λ k. ⊎_elim (λ h. h.turn) (λ o. absurd (let h = o.held in omega arith)) k)
          kept.turn.place

      pub home : v.turn.filled ≡ true → IsAtHome told (get_or s.words 0 0) s.homes (turns_of s.views) kept.book
          kept.filled
      home full = home_free told count s.words s.homes (turns_of s.views) kept.book kept.filled kept.turn free_word
          (knows.opening full).0
