-- The counters at their beginning, and at their end.
use Rattle.std.proofs.Common.{◌≡◌, ℕ, zero, suc, ◌+◌, ◌*◌, ◌<◌, true, false, List, [], ◌∷◌, ◌++◌, set, get_or, length}
use Rattle.std.proofs.Common.{replicate, sym, refl, ap, ◌∙◌, subst, inl, inr, arith, length-set, get_or-set_same}
use Rattle.std.proofs.Common.{get_or-set_other, Some, None, Option}
use Rattle.std.proofs.lemmas.List.{get_or-replicate, length-replicate}
use Rattle.std.proofs.lemmas.Bool.Decides.{nat_tests}
use mathlib.Core.Option.{some, some-injective, some-ne-none}
use mathlib.Core.Logic.{dite}
use native.Mathlib.Decide.{ℕ_discrete}
use lib.ListN.{get_elem?}
use Rattle.atomic_table.specs.Table.{State, opening, Final, Seen}
use Rattle.counter_table.specs.declared.turns.TheConstants.{EPOCH}
use Rattle.counter_table.specs.declared.view.Known.{Known}
use Rattle.counter_table.specs.declared.view.View.{View}
use Rattle.counter_table.specs.Known.{unknown}
use Rattle.counter_table.specs.Numbers.{first_numbers, ALL_SHARES}
use Rattle.counter_table.specs.Turn.{no_turn}
use Rattle.sdls_base.specs.Numbers.{once_below}
use Rattle.counter_table.specs.Rule.{greatest, next_at, limit_at, SeatFits, RowFits, IsSane, NumbersFit, TurnFits}
use Rattle.counter_table.specs.Rule.{IsKept, IsAtHome}
use Rattle.counter_table.specs.Play.{first_view}
use Rattle.counter_table.specs.Close.{ClosesCounters}
use Rattle.counter_table.proofs.Sums.{each_snoc}
use Rattle.counter_table.proofs.Knowing.{ended_knows}
use Rattle.counter_table.proofs.Booking.{false≢true}
use Rattle.counter_table.proofs.Alone.{as_known, knows, covers, row_stands, made_only, whole, home}
use Rattle.counter_table.specs.declared.drawing.TheConstants.{ROW_WORDS}

-- one worker
single : {V : Type 0} (P : V → Type 0) (v : V) → P v → (j : ℕ) (u : V) → get_elem? (v ∷ []) j ≡ some u → P u
single P v p = each_snoc P [] v p (λ j u e. absurd (some-ne-none u (sym e)))

-- one more value at the end of a list
pub next_value : (xs : List ℕ) (x n : ℕ) (f : ℕ → ℕ) → length xs ≡ n → ((row : ℕ) → row < n → get_or xs row 0 ≡ f row)
    → x ≡ f n → (row : ℕ) → row < n + 1 → get_or (xs ++ x ∷ []) row 0 ≡ f row
next_value xs x n f size old new row b =
    dite (ℕ_discrete row n) (λ e. rw e (at_end xs x n size ∙ new))
    (λ apart. before xs x row (omega arith) ∙ old row (omega arith))
  where
    at_end : (xs : List ℕ) (x n : ℕ) → length xs ≡ n → get_or (xs ++ x ∷ []) n 0 ≡ x
    at_end [] x zero e = refl
    at_end [] x (suc n) e = absurd (omega arith)
    at_end (y ∷ ys) x zero e = absurd (omega arith)
    at_end (y ∷ ys) x (suc n) e = at_end ys x n (omega arith)

    before : (xs : List ℕ) (x row : ℕ) → row < length xs → get_or (xs ++ x ∷ []) row 0 ≡ get_or xs row 0
    before [] x row h = absurd (omega arith)
    before (y ∷ ys) x zero h = refl
    before (y ∷ ys) x (suc row) h = before ys x row (omega arith)

-- a value that is there
pub value_there : (xs : List ℕ) (i n : ℕ) → get_elem? xs i ≡ some n → n ≡ get_or xs i 0
value_there [] i n e = absurd (some-ne-none n (sym e))
value_there (x ∷ xs) zero n e = sym (some-injective x n e)
value_there (x ∷ xs) (suc i) n e = value_there xs i n e

abbrev pub first_words : ℕ → List ℕ
first_words count = set (set (replicate (ROW_WORDS * count + ROW_WORDS) 1) 0 0) EPOCH 0

module _ (count : ℕ) where
  size : length (first_words count) ≡ ROW_WORDS * count + ROW_WORDS
  size = length-set (set (replicate (ROW_WORDS * count + ROW_WORDS) 1) 0 0) EPOCH 0
      ∙ (length-set (replicate (ROW_WORDS * count + ROW_WORDS) 1) 0 0 ∙ length-replicate (ROW_WORDS * count + ROW_WORDS)
      1)

  word_turn : get_or (first_words count) 0 0 ≡ 0
  word_turn =
      let b : 0 < length (replicate (ROW_WORDS * count + ROW_WORDS) 1) =
      omega (arith, length-replicate {A = ℕ} (ROW_WORDS * count + ROW_WORDS) 1) in
      get_or-set_other (set (replicate (ROW_WORDS * count + ROW_WORDS) 1) 0 0) EPOCH 0 0 0 (λ e. omega arith)
      ∙ get_or-set_same (replicate (ROW_WORDS * count + ROW_WORDS) 1) 0 0 0 b

  word_epoch : get_or (first_words count) EPOCH 0 ≡ 0
  word_epoch =
      let b : EPOCH < length (set (replicate (ROW_WORDS * count + ROW_WORDS) 1) 0 0) =
      omega (
        arith,
        length-replicate {A = ℕ} (ROW_WORDS * count + ROW_WORDS) 1,
        length-set {A = ℕ} (replicate (ROW_WORDS * count + ROW_WORDS) 1) 0 0,
      ) in
      get_or-set_same (set (replicate (ROW_WORDS * count + ROW_WORDS) 1) 0 0) EPOCH 0 0 b

  word_row : (j : ℕ) → EPOCH < j → j < ROW_WORDS * count + ROW_WORDS → get_or (first_words count) j 0 ≡ 1
  word_row j low high =
      get_or-set_other (set (replicate (ROW_WORDS * count + ROW_WORDS) 1) 0 0) EPOCH j 0 0 (λ e. omega arith)
      ∙ (get_or-set_other (replicate (ROW_WORDS * count + ROW_WORDS) 1) 0 j 0 0 (λ e. omega arith)
      ∙ get_or-replicate (ROW_WORDS * count + ROW_WORDS) j 1 0 high)

  none_below : (p : ℕ) → once_below p 0 ≡ 0
  none_below p = grind (arith, nat_tests)

  first_row : (row : ℕ) → RowFits row 1 1 (first_numbers ∷ [])
  first_row row =
      record {
        once = λ x. omega arith;
        room = omega arith;
        grown = refl;
        bound = omega arith;
        each = single (SeatFits row 1 1) first_numbers record {
          nexts = omega arith;
          limits = omega arith;
          spent = λ x. omega arith;
        };
        last = inl refl;
      }

  pub opens : {B : Type 0} (told : B → Known) → IsKept told count (opening (first_words count) (None ∷ []) first_view)
  opens {B} told =
      record {
        numbers = record {
          size = size;
          rows = λ row b. rw (word_row (next_at row) (omega arith) (omega arith))
              (rw (word_row (limit_at row) (omega arith) (omega arith)) (first_row row));
          shares = refl;
          sane = single IsSane first_numbers record { drawn = λ row x. omega arith; alive = inr (omega arith) };
        };
        book = unknown;
        filled = false;
        turn = record {
          place = inr (inl record { turn = word_turn; none = refl; free = refl; filled = refl; book = refl });
          epoch = word_epoch;
          limits = λ row b. let w = word_row (limit_at row) (omega arith) (omega arith) in omega arith;
          made = λ p. sym (none_below p);
          known = λ e. absurd (false≢true e);
          reached = record {
            changes = omega arith;
            faults = omega arith;
            standing = omega arith;
            put_faults = omega arith;
          };
          each = single (Rattle.counter_table.specs.Rule.KnowsBook unknown false) no_turn (ended_knows unknown false);
        };
        ended = single (λ u. u.numbers.shares ≡ 0 → u.turn ≡ no_turn) first_view (λ e. refl);
      }

module _ {B : Type 0} (told : B → Known) (count : ℕ) (s : State (Option B) View) (id : ℕ) (v : View)
    (at : get_elem? s.views id ≡ some v) (kept : IsKept told count s) (all : v.numbers.shares ≡ ALL_SHARES)
    (full : v.turn.filled ≡ true) where
  closes_with : (b : B) → told b ≡ kept.book → (nexts : List ℕ) → length nexts ≡ count
      → ((row : ℕ) → row < count → get_or nexts row 0 ≡ get_or s.words (next_at row) 0)
      → ClosesCounters count v (told b) nexts
  closes_with b is nexts rows same = subst (λ k. ClosesCounters count v k nexts) (sym is)
      record {
        rows = rows;
        each = λ row c. rw (same row c) (row_stands told count s id v at kept all row c);
        covered = covers told count s id v at kept;
        follows = let k = knows told count s id v at kept in
            record { earlier = k.earlier; sparing = k.sparing full; epoch = k.epoch; opening = sym (k.opening full).1 };
        log = whole told count s id v at kept all;
        as_known = as_known told count s id v at kept all;
        made = made_only told count s id v at kept all;
      }

-- what the end says of the slot and of the words
pub closes : {B : Type 0} (told : B → Known) (count id : ℕ) (v : View) (words : List ℕ) (slots : List (Option B))
    → Final (Seen (IsKept told count) id v) words slots
    → v.numbers.shares ≡ ALL_SHARES → v.turn.holds ≡ false → v.turn.filled ≡ true
    → (b : B) × (get_elem? slots 0 ≡ some (Some b))
    × ((nexts : List ℕ) → length nexts ≡ count
    → ((row : ℕ) → row < count → get_or nexts row 0 ≡ get_or words (next_at row) 0)
    → ClosesCounters count v (told b) nexts)
closes told count id v words slots final all free full =
    let s = final.0 in let kept = final.1.0 in let at = final.1.1 in
    let h = home told count s id v at kept all free full in
    let b = h.book.0 in (
      b,
      final.4 0 (Some b) (ap (λ z. get_elem? z 0) h.book.1),
      (λ nexts rows same. closes_with told count s id v at kept all full b h.book.2 nexts rows
          (λ row c. same row c ∙ ap (λ z. get_or z (next_at row) 0) (sym final.2))),
    )

inside : {X : Type 0} (x y : X) → some (Some x) ≡ some (Some y) → x ≡ y
inside x y same = cc

-- the same of the book that was found there, by the counters' own rows and what the worker knows
module _ {B : Type 0} (told : B → Known) (key id : ℕ) (seen v : View) (words : List ℕ) (slots : List (Option B))
    (final : Final (Seen (IsKept told key) id seen) words slots) (is : seen ≡ v) (all : v.numbers.shares ≡ ALL_SHARES)
    (free : v.turn.holds ≡ false) (full : v.turn.filled ≡ true) where
  pub book_there : (b : B) × (get_elem? slots 0 ≡ some (Some b))
  book_there =
      let end = closes told key id v words slots (subst (λ u. Final (Seen (IsKept told key) id u) words slots) is final)
      all free full in
      (end.0, end.1)

  pub closes_book : (count : ℕ) → key ≡ count → (book : B) → get_elem? slots 0 ≡ some (Some book) → (nexts : List ℕ)
      → length nexts ≡ count
      → ((row : ℕ) → row < count → get_or nexts row 0 ≡ get_or words (next_at row) 0)
      → ClosesCounters count v (told book) nexts
  closes_book count sized book there nexts rows same =
      let end =
      closes told count id v words slots
      (subst (λ k. Final (Seen (IsKept told k) id v) words slots) sized
      (subst (λ u. Final (Seen (IsKept told key) id u) words slots) is final)) all free full in
      subst (λ b. ClosesCounters count v (told b) nexts) (inside end.0 book (sym end.1 ∙ there)) (end.2 nexts rows same)
