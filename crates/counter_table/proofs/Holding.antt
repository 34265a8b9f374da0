-- The steps on the turn, the epoch, the book and the shares keep the whole rule.
use Rattle.std.proofs.Common.{◌≡◌, ◌≢◌, ℕ, ◌+◌, ◌*◌, ◌<◌, ◌≤◌, ◌%◌, ◌^◌, max, true, false, List, [], ◌∷◌, ◌++◌, set}
use Rattle.std.proofs.Common.{get_or, length, map, sym, refl, ap, ◌∙◌, subst, ⊎_elim, arith, length-set}
use Rattle.std.proofs.Common.{get_or-set_same, get_or-set_other, Bool, Some, None, Option}
use mathlib.Core.Option as slot
use mathlib.Core.Option.{some, some-injective, some-ne-none}
use mathlib.Core.Logic.{dite}
use native.Mathlib.Decide.{ℕ_discrete}
use lib.ListN.{get_elem?}
use lib.Seq.{map-set, set-get_or}
use Rattle.atomic_table.specs.Table.{State, Me, Allows, Splits, Joins, keeps}
use Rattle.atomic_table.specs.Table as act
use Rattle.atomic_table.proofs.Lists.{at_set, at_map, at_snoc, set_again, set_else}
use Rattle.counter_table.specs.declared.turns.TheConstants.{EPOCH}
use Rattle.counter_table.specs.declared.view.Known.{Known}
use Rattle.counter_table.specs.declared.view.Numbers.{Numbers}
use Rattle.counter_table.specs.declared.view.Turn.{Turn}
use Rattle.counter_table.specs.declared.view.View.{View}
use Rattle.counter_table.specs.Known.{known_mark, Earlier, IsSparing, MayGive, MayFill, unknown}
use Rattle.counter_table.specs.Numbers.{keeper, newcomer, joined, no_numbers, lifting, ALL_SHARES}
use Rattle.counter_table.specs.Turn.{beginner, merged, no_turn, taking, giving, filling, learning, seeing, turning}
use Rattle.counter_table.specs.Rule.{next_at, limit_at, NumbersFit, TurnFits, IsKept}
use Rattle.sdls_base.specs.Numbers.{tally}
use Rattle.counter_table.specs.Play.{no_view, takes, IsAsKnown, IsCovered, gives, empties, fills, lifts, sees, turns}
use Rattle.counter_table.specs.Play.{looks}
use Rattle.counter_table.proofs.Fitting.{limit_apart, limit_set, drawn_once, lift_fits as numbers_lift}
use Rattle.counter_table.proofs.Sharing.{cut_fits, met_fits}
use Rattle.counter_table.proofs.Booking.{home_free, again_fits, holder_knows, see_fits, take_fits, give_fits, lift_fits}
use Rattle.counter_table.proofs.Booking.{turn_fits, empty_fits, fill_fits, free_of, beginner_fits, united_fits}
use Rattle.counter_table.proofs.Alone.{as_known, covers, alone, is_whole, look}
use Rattle.counter_table.proofs.Keeping.{numbers_of, turns_of, at_numbers, at_turn, both_parts}
use Rattle.counter_table.specs.declared.drawing.TheConstants.{ROW_WORDS}

map-snoc : {A C : Type 0} (f : A → C) (l : List A) (a : A) → map f (l ++ a ∷ []) ≡ map f l ++ f a ∷ []
map-snoc f [] a = refl
map-snoc f (x ∷ xs) a = ap (λ ys. f x ∷ ys) (map-snoc f xs a)

-- a step on a word that is no row's
fit_words : (count : ℕ) (words words' : List ℕ) (views : List Numbers) → length words' ≡ length words
    → ((row : ℕ) → row < count → (get_or words' (next_at row) 0 ≡ get_or words (next_at row) 0)
    × (get_or words' (limit_at row) 0 ≡ get_or words (limit_at row) 0))
    → NumbersFit count words views → NumbersFit count words' views
fit_words count words words' views size same fits =
    record {
      size = size ∙ fits.size;
      rows = λ row b. rw (same row b).0 (rw (same row b).1 (fits.rows row b));
      shares = fits.shares;
      sane = fits.sane;
    }

-- the words after a step on the turn or the epoch
low_size : (words : List ℕ) (i n : ℕ) → length (set words i n) ≡ length words
low_size words i n = length-set words i n

low_rows : (count : ℕ) (words : List ℕ) (i n : ℕ) → i < ROW_WORDS → (row : ℕ) → row < count
    → (get_or (set words i n) (next_at row) 0 ≡ get_or words (next_at row) 0)
    × (get_or (set words i n) (limit_at row) 0 ≡ get_or words (limit_at row) 0)
low_rows count words i n low row b = (
  get_or-set_other words i (next_at row) n 0 (λ e. omega arith),
  get_or-set_other words i (limit_at row) n 0 (λ e. omega arith),
)

low_limits : (count : ℕ) (words : List ℕ) (i n : ℕ) → i < ROW_WORDS → (row : ℕ) → row < count
    → get_or (set words i n) (limit_at row) 0 ≡ get_or words (limit_at row) 0
low_limits count words i n low row b = (low_rows count words i n low row b).1

module _ {B : Type 0} (told : B → Known) (count : ℕ) where
  module _ (s : State (Option B) View) (id : ℕ) (v : View) (at : get_elem? s.views id ≡ some v)
      (kept : IsKept told count s) where
    -- the numbers' part, where the numbers stay as they are
    same_numbers : (words' : List ℕ) → NumbersFit count words' (numbers_of s.views)
        → NumbersFit count words' (set (numbers_of s.views) id v.numbers)
    same_numbers words' fits =
        subst (NumbersFit count words')
        (sym (set_again (numbers_of s.views) id v.numbers (at_numbers told count s id v v at kept))) fits

    -- a step on the turn or the epoch
    low_step : (i n : ℕ) → i < ROW_WORDS → (homes' : List (slot.Option (Option B))) (turn : Turn) (book : Known)
        (filled : Bool) → 0 < v.numbers.shares
        → TurnFits told count (set s.words i n) homes' (set (turns_of s.views) id turn) book filled
        → IsKept told count record {
          words = set s.words i n;
          homes = homes';
          views = set s.views id record { numbers = v.numbers; turn = turn };
        }
    low_step i n low homes' turn book filled alive fits =
        both_parts told count s id v record { numbers = v.numbers; turn = turn } at kept (set s.words i n) homes' book
        filled
        (same_numbers (set s.words i n)
        (fit_words count s.words (set s.words i n) (numbers_of s.views) (low_size s.words i n)
        (low_rows count s.words i n low) kept.numbers))
        fits alive

    turn_at : get_elem? (turns_of s.views) id ≡ some v.turn
    turn_at = at_turn told count s id v v at kept

    -- the row's part for a worker
    pub once_each : (row : ℕ) → row < count → (x : ℕ) → tally row x v.numbers.drawn ≤ 1
    once_each row b x = drawn_once count s.words s.words (numbers_of s.views) id v.numbers v.numbers row
        (at_numbers told count s id v v at kept) kept.numbers b x

  first_set : (words : List ℕ) (size : length words ≡ ROW_WORDS * count + ROW_WORDS) (n : ℕ)
      → get_or (set words 0 n) 0 0 ≡ n
  first_set words size n = let b : 0 < length words = omega arith in rw get_or-set_same refl

  abbrev first_slot : List (ℕ × Option B) → Option B
  first_slot [] = None
  first_slot (x ∷ xs) = x.1

  -- the value in the one slot
  same_slot : (b c : B) → (let s : List (ℕ × Option B) = (0, Some b) ∷ [] in s) ≡ (0, Some c) ∷ [] → b ≡ c
  same_slot b c e = let f : List (ℕ × Option B) → Option B = first_slot in let h : Some b ≡ Some c = ap f e in cc

  module _ (slots id : ℕ) where
    pub take_allows : (t : ℕ) → 0 < t → (m : Me (Option B) View) → 0 < m.0.numbers.shares → m.0.turn.filled ≡ true
        → Allows (IsKept told count) slots id m 0 (λ _. t) (takes told count m)
    take_allows t some_turn m alive full s kept size at bound = dite (ℕ_discrete (get_or s.words 0 0) 0) free taken
      where
        fits : TurnFits told count s.words s.homes (turns_of s.views) kept.book kept.filled
        fits = kept.turn

        mine : get_elem? (turns_of s.views) id ≡ some m.0.turn
        mine = turn_at s id m.0 at kept

        words' : List ℕ
        words' = set s.words 0 t

        free : get_or s.words 0 0 ≡ 0 → (w : View) × (a : act.Act (Option B)) × act.Valid s.homes m.1 a
            × IsKept told count (act.stepped s 0 t id m.1 w a)
            × takes told count m (get_or s.words 0 0) (w, act.carried_after m.1 a)
        free zero_word =
            let k = fits.each id m.0.turn mine in
            let home = home_free told count s.words s.homes (turns_of s.views) kept.book kept.filled fits zero_word
            (k.opening full).0 in
            let b = home.book.0 in
            let w : View = record m.0 { turn = taking (told b) m.0.turn } in (
              w,
              act.takes 0 (Some b),
              ap (λ z. get_elem? z 0) home.book.1,
              low_step s id m.0 at kept 0 t (omega arith) (set s.homes 0 slot.none) (taking (told b) m.0.turn) kept.book
                  kept.filled alive
                  (take_fits told count s.words s.homes (turns_of s.views) kept.book kept.filled fits id m.0.turn mine
                  (set s.words 0 t) b
                  (let e = first_set s.words kept.numbers.size t in omega arith)
                  (get_or-set_other s.words 0 EPOCH t 0 (λ e. omega arith)) (low_limits count s.words 0 t (omega arith))
                  full home home.book.2 home.book.1),
              (
                (λ z. (
                  b,
                  refl,
                  refl,
                  record {
                    earlier = subst (Earlier m.0.turn.known) (sym home.book.2) k.earlier;
                    sparing = subst (IsSparing m.0.turn.known) (sym home.book.2) (k.sparing full);
                    epoch = subst (λ y. m.0.turn.epoch ≤ y.changes) (sym home.book.2) k.epoch;
                    opening = ap (λ y. y.opening) home.book.2 ∙ sym (k.opening full).1;
                  },
                  subst (IsCovered count m.0.numbers) (sym home.book.2) (covers told count s id m.0 at kept),
                  (λ all. subst (IsAsKnown m.0.turn) (sym home.book.2) (as_known told count s id m.0 at kept all)),
                )),
                (λ n. absurd (n zero_word)),
              ),
            )

        taken : (get_or s.words 0 0 ≢ 0) → (w : View) × (a : act.Act (Option B)) × act.Valid s.homes m.1 a
            × IsKept told count (act.stepped s 0 t id m.1 w a)
            × takes told count m (get_or s.words 0 0) (w, act.carried_after m.1 a)
        taken some_word = (
          m.0,
          keeps,
          tt,
          low_step s id m.0 at kept 0 t (omega arith) s.homes m.0.turn kept.book kept.filled alive
              (subst (λ z. TurnFits told count (set s.words 0 t) s.homes z kept.book kept.filled)
              (sym (set_again (turns_of s.views) id m.0.turn mine))
              (again_fits told count s.words s.homes (turns_of s.views) kept.book kept.filled fits (set s.words 0 t)
              (let e = first_set s.words kept.numbers.size t in omega arith)
              (get_or-set_other s.words 0 EPOCH t 0 (λ e. omega arith)) (low_limits count s.words 0 t (omega arith))
              some_word)),
          ((λ z. absurd (some_word z)), (λ n. refl)),
        )

    pub give_allows : (v : View) (b : B) → 0 < v.numbers.shares → v.turn.holds ≡ true → v.turn.filled ≡ true
        → MayGive v.turn.known (told b)
        → Allows (IsKept told count) slots id (v, (0, Some b) ∷ []) 0 (λ _. 0) (gives told (v, (0, Some b) ∷ []))
    give_allows v b alive holds full may s kept size at bound =
        let mine = turn_at s id v at kept in
        let w : View = record v { turn = giving (told b) v.turn } in (
          w,
          act.gives,
          tt,
          low_step s id v at kept 0 0 (omega arith) (set s.homes 0 (some (Some b))) (giving (told b) v.turn) (told b)
              kept.filled alive
              (give_fits told count s.words s.homes (turns_of s.views) kept.book kept.filled kept.turn id v.turn mine
              (set s.words 0 0) b
              (first_set s.words kept.numbers.size 0) (get_or-set_other s.words 0 EPOCH 0 0 (λ e. omega arith))
              (low_limits count s.words 0 0 (omega arith)) holds full may),
          (λ c e. (refl, ap (λ z. let r : View = record v { turn = giving (told z) v.turn } in r) (same_slot b c e))),
        )

    pub empty_allows : (v : View) → v.numbers.shares ≡ ALL_SHARES → v.turn.holds ≡ false → v.turn.filled ≡ false
        → Allows (IsKept told count) slots id (v, []) 0 (λ _. 2) (empties told (v, []))
    empty_allows v all free blank s kept size at bound =
        let mine = turn_at s id v at kept in
        let others = alone told count s id v at kept all in
        let w : View = record v { turn = record v.turn { holds = true } } in
        let u = free_of told count s.words s.homes (turns_of s.views) kept.book kept.filled kept.turn id v.turn mine
        others blank free in (
          w,
          act.takes 0 None,
          ap (λ z. get_elem? z 0) u.none,
          low_step s id v at kept 0 2 (omega arith) (set s.homes 0 slot.none) (record v.turn { holds = true }) kept.book
              kept.filled (omega arith)
              (empty_fits told count s.words s.homes (turns_of s.views) kept.book kept.filled kept.turn id v.turn mine
              others blank (set s.words 0 2)
              (let e = first_set s.words kept.numbers.size 2 in omega arith)
              (get_or-set_other s.words 0 EPOCH 2 0 (λ e. omega arith)) (low_limits count s.words 0 2 (omega arith))
              free),
          (refl, refl),
        )

    pub fill_allows : (v : View) (b : B) → v.numbers.shares ≡ ALL_SHARES → v.turn.holds ≡ true → v.turn.filled ≡ false
        → MayFill (told b)
        → Allows (IsKept told count) slots id (v, (0, Some b) ∷ []) 0 (λ _. 0) (fills told (v, (0, Some b) ∷ []))
    fill_allows v b all holds blank may s kept size at bound =
        let mine = turn_at s id v at kept in
        let others = alone told count s id v at kept all in
        let w : View = record v { turn = filling (told b) v.turn } in (
          w,
          act.gives,
          tt,
          low_step s id v at kept 0 0 (omega arith) (set s.homes 0 (some (Some b))) (filling (told b) v.turn) (told b)
              true (omega arith)
              (fill_fits told count s.words s.homes (turns_of s.views) kept.book kept.filled kept.turn id v.turn mine
              others blank (set s.words 0 0) b
              (first_set s.words kept.numbers.size 0) (get_or-set_other s.words 0 EPOCH 0 0 (λ e. omega arith))
              (low_limits count s.words 0 0 (omega arith)) holds may),
          (λ c e. (refl, ap (λ z. let r : View = record v { turn = filling (told z) v.turn } in r) (same_slot b c e))),
        )

    -- the same, where the seat's view and slots are those
    pub gives_at : (m : Me (Option B) View) (v : View) (b : B) → m ≡ (v, (0, Some b) ∷ []) → 0 < v.numbers.shares
        → v.turn.holds ≡ true → v.turn.filled ≡ true → MayGive v.turn.known (told b)
        → Allows (IsKept told count) slots id m 0 (λ _. 0) (gives told m)
    gives_at m v b e alive holds full may =
        subst (λ (z : Me (Option B) View). Allows (IsKept told count) slots id z 0 (λ _. 0) (gives told z)) (sym e)
        (give_allows v b alive holds full may)

    pub empties_at : (m : Me (Option B) View) → m.1 ≡ [] → m.0.numbers.shares ≡ ALL_SHARES → m.0.turn.holds ≡ false
        → m.0.turn.filled ≡ false
        → Allows (IsKept told count) slots id m 0 (λ _. 2) (empties told m)
    empties_at m e all free blank =
        subst (λ (z : List (ℕ × Option B)). Allows (IsKept told count) slots id (m.0, z) 0 (λ _. 2)
        (empties told (m.0, z))) (sym e) (empty_allows m.0 all free blank)

    pub fills_at : (m : Me (Option B) View) (v : View) (b : B) → m ≡ (v, (0, Some b) ∷ [])
        → v.numbers.shares ≡ ALL_SHARES → v.turn.holds ≡ true → v.turn.filled ≡ false → MayFill (told b)
        → Allows (IsKept told count) slots id m 0 (λ _. 0) (fills told m)
    fills_at m v b e all holds blank may =
        subst (λ (z : Me (Option B) View). Allows (IsKept told count) slots id z 0 (λ _. 0) (fills told z)) (sym e)
        (fill_allows v b all holds blank may)

    pub lift_allows : (m : Me (Option B) View) (row mark : ℕ) (marks : List ℕ) → row < count → 0 < m.0.numbers.shares
        → m.0.turn.holds ≡ true → m.0.turn.filled ≡ true
        → ((r : ℕ) → known_mark m.0.turn.known r ≤ get_or marks r 1) → mark ≡ get_or marks row 1
        → Allows (IsKept told count) slots id m (limit_at row) (λ n. max n mark) (lifts row mark marks m)
    lift_allows m row mark marks below alive holds full rising is s kept size at bound =
        let held : Known = record unknown { marks = marks } in
        let l = get_or s.words (limit_at row) 0 in
        let n' = max l mark in
        let v = m.0 in
        let words_size = kept.numbers.size in
        let mine = turn_at s id v at kept in
        let w : View = record { numbers = lifting row mark v.numbers; turn = learning held.marks v.turn } in (
          w,
          keeps,
          tt,
          both_parts told count s id v w at kept (set s.words (limit_at row) n') s.homes
              (record kept.book { marks = held.marks }) kept.filled
              (numbers_lift count s.words (numbers_of s.views) id v.numbers row (at_numbers told count s id v v at kept)
              kept.numbers below alive mark)
              (lift_fits told count s.words s.homes (turns_of s.views) kept.book kept.filled kept.turn id v.turn mine
              (set s.words (limit_at row) n') held row
              (limit_apart count s.words words_size row n' below 0 (λ e. omega arith))
              (limit_apart count s.words words_size row n' below EPOCH (λ e. omega arith))
              (limit_set count s.words words_size row n' below ∙ ap (max l) is)
              (λ q b a. limit_apart count s.words words_size row n' below (limit_at q) (λ e. a (omega arith))) holds
              full rising)
              alive,
          (refl, refl),
        )

    pub see_allows : (m : Me (Option B) View) → 0 < m.0.numbers.shares
        → Allows (IsKept told count) slots id m EPOCH (λ n. n) (sees m)
    see_allows m alive s kept size at bound =
        let n = get_or s.words EPOCH 0 in
        let v = m.0 in
        let mine = turn_at s id v at kept in
        let w : View = record v { turn = seeing n v.turn } in
        let same : set s.words EPOCH n ≡ s.words = set-get_or s.words EPOCH 0 in
        let k = kept.turn.each id v.turn mine in
        let earlier = k.earlier.changes in let epoch = k.epoch in let is = kept.turn.epoch in (
          w,
          keeps,
          tt,
          low_step s id v at kept EPOCH n (omega arith) s.homes (seeing n v.turn) kept.book kept.filled alive
              (see_fits told count s.words s.homes (turns_of s.views) kept.book kept.filled kept.turn id v.turn mine
              (set s.words EPOCH n) n
              (ap (λ z. get_or z 0 0) same) (ap (λ z. get_or z EPOCH 0) same)
              (λ row b. ap (λ z. get_or z (limit_at row) 0) same) refl),
          (
            (refl, refl),
            omega arith,
            (λ h. is ∙ sym
                (ap (λ z. z.changes) (holder_knows told count s.words s.homes (turns_of s.views) kept.book kept.filled
                kept.turn id v.turn mine h))),
          ),
        )

    pub turn_allows : (m : Me (Option B) View) → 0 < m.0.numbers.shares → m.0.turn.holds ≡ true → m.0.turn.filled ≡ true
        → m.0.turn.known.changes + 1 < 2 ^ 64
        → Allows (IsKept told count) slots id m EPOCH (λ n. (n + 1) % 2 ^ 64) (turns m)
    turn_allows m alive holds full room s kept size at bound =
        let n = get_or s.words EPOCH 0 in
        let v = m.0 in
        let mine = turn_at s id v at kept in
        let w : View = record v { turn = turning v.turn } in
        let knows = holder_knows told count s.words s.homes (turns_of s.views) kept.book kept.filled kept.turn id v.turn
        mine holds in
        let is : n ≡ v.turn.known.changes = kept.turn.epoch ∙ sym (ap (λ z. z.changes) knows) in
        let n' = (n + 1) % 2 ^ 64 in
        let plus : n' ≡ n + 1 = omega arith in
        let b : EPOCH < length s.words = let z = kept.numbers.size in omega arith in (
          w,
          keeps,
          tt,
          low_step s id v at kept EPOCH n' (omega arith) s.homes (turning v.turn)
              (record kept.book { changes = kept.book.changes + 1 }) kept.filled alive
              (turn_fits told count s.words s.homes (turns_of s.views) kept.book kept.filled kept.turn id v.turn mine
              (set s.words EPOCH n')
              (get_or-set_other s.words EPOCH 0 n' 0 (λ e. omega arith)) ((rw get_or-set_same refl) ∙ plus)
              (low_limits count s.words EPOCH n' (omega arith)) holds full),
          ((refl, refl), is),
        )

    pub look_allows : (m : Me (Option B) View) → 0 < m.0.numbers.shares
        → Allows (IsKept told count) slots id m EPOCH (λ n. n) (looks count m)
    look_allows m alive s kept size at bound =
        let n = get_or s.words EPOCH 0 in
        let v = m.0 in
        let same : set s.words EPOCH n ≡ s.words = set-get_or s.words EPOCH 0 in
        let views : set s.views id v ≡ s.views = set_again s.views id v at in (
          v,
          keeps,
          tt,
          (let P : List ℕ → List View → Type 0 =
              λ x y. IsKept told count record { words = x; homes = s.homes; views = y } in
              subst (λ x. P x (set s.views id v)) (sym same) (subst (P s.words) (sym views) kept)),
          (
            refl,
            (λ row x b. once_each s id v at kept row b x),
            (λ all. is_whole told count s id v at kept all),
            look told count s id v at kept,
          ),
        )

  pub splits_keep : (id : ℕ) (v : View) → 1 < v.numbers.shares
      → Splits (IsKept told count) id v record { numbers = keeper v.numbers; turn = v.turn } record {
        numbers =
            newcomer v.numbers;
        turn = beginner v.turn;
      }
  splits_keep id v two s kept at =
      let left : View = record { numbers = keeper v.numbers; turn = v.turn } in
      let right : View = record { numbers = newcomer v.numbers; turn = beginner v.turn } in
      let mine = turn_at s id v at kept in
      record {
        numbers =
            subst (NumbersFit count s.words)
            (sym (map-snoc (λ (u : View). u.numbers) (set s.views id left) right ∙ ap (λ z. z ++ right.numbers ∷ [])
            (map-set (λ (u : View). u.numbers) s.views id left)))
            (cut_fits (numbers_of s.views) id v.numbers (at_numbers told count s id v v at kept) count s.words
            kept.numbers two);
        book = kept.book;
        filled = kept.filled;
        turn = subst (λ z. TurnFits told count s.words s.homes z kept.book kept.filled)
            (sym (map-snoc (λ (u : View). u.turn) (set s.views id left) right
            ∙ ap (λ z. z ++ right.turn ∷ [])
            (map-set (λ (u : View). u.turn) s.views id left ∙ set_again (turns_of s.views) id v.turn mine)))
            (beginner_fits told count s.words s.homes (turns_of s.views) kept.book kept.filled kept.turn id v.turn
            mine);
        ended = λ j u e none. ⊎_elim
            (λ k. ⊎_elim (λ x. absurd (let z : u.numbers.shares ≡ left.numbers.shares =
            ap (λ y. y.numbers.shares) (sym x.1) in omega arith)) (λ x. kept.ended j u x.1 none)
            (at_set s.views id j left u k))
            (λ k. absurd (let z : u.numbers.shares ≡ 1 = ap (λ y. y.numbers.shares) (sym k) in omega arith))
            (at_snoc (set s.views id left) right u j e);
      }

  pub joins_keep : (id : ℕ) (v : View) (other : ℕ) (w : View) → 0 < v.numbers.shares → w.turn.holds ≡ false
      → Joins (IsKept told count) id v other w record {
        numbers = joined v.numbers w.numbers;
        turn = merged v.turn w.turn;
      } no_view
  joins_keep id v other w alive free s kept at apart there' =
      let both : View = record { numbers = joined v.numbers w.numbers; turn = merged v.turn w.turn } in
      let there : get_elem? s.views other ≡ some w = sym (set_else s.views id other both apart) ∙ there' in
      let mine = turn_at s id v at kept in
      let its = at_map (λ (u : View). u.turn) s.views other w there in
      record {
        numbers = subst (NumbersFit count s.words)
            (sym (map-set (λ (u : View). u.numbers) (set s.views id both) other no_view
            ∙ ap (λ z. set z other no_numbers) (map-set (λ (u : View). u.numbers) s.views id both)))
            (met_fits (numbers_of s.views) id other v.numbers w.numbers (at_numbers told count s id v v at kept)
            (at_map (λ (u : View). u.numbers) s.views other w there) apart count s.words kept.numbers alive);
        book = kept.book;
        filled = kept.filled;
        turn = subst (λ z. TurnFits told count s.words s.homes z kept.book kept.filled)
            (sym (map-set (λ (u : View). u.turn) (set s.views id both) other no_view
            ∙ ap (λ z. set z other no_turn) (map-set (λ (u : View). u.turn) s.views id both)))
            (united_fits told count s.words s.homes (turns_of s.views) kept.book kept.filled kept.turn id other v.turn
            w.turn mine its apart free);
        ended = λ j u e none. ⊎_elim (λ k. ap (λ y. y.turn) (sym k.1))
            (λ k. ⊎_elim (λ x. absurd (let z : u.numbers.shares ≡ both.numbers.shares =
            ap (λ y. y.numbers.shares) (sym x.1) in omega arith)) (λ x. kept.ended j u x.1 none)
            (at_set s.views id j both u k.1))
            (at_set (set s.views id both) other j no_view u e);
      }
