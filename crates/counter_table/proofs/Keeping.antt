-- Each step on a row's numbers keeps the whole rule.
use Rattle.std.proofs.Common.{◌≡◌, ◌⊎◌, ℕ, ◌+◌, ◌<◌, ◌≤◌, ◌%◌, ◌^◌, max, true, false, List, set, get_or, map, sym, refl}
use Rattle.std.proofs.Common.{ap, ◌∙◌, subst, ⊎_elim, arith, Some, Option, Bool, ltb, if◌then◌else◌}
use mathlib.Core.Option as slot
use mathlib.Core.Option.{some, some-injective}
use lib.ListN.{get_elem?}
use lib.Seq.{map-set, set-get_or}
use Rattle.atomic_table.specs.Table.{State, Me, Allows, keeps}
use Rattle.atomic_table.proofs.Lists.{at_set, at_map, set_again}
use Rattle.counter_table.specs.declared.turns.TheConstants.{EPOCH}
use Rattle.counter_table.specs.declared.view.Known.{Known}
use Rattle.counter_table.specs.declared.view.Numbers.{Numbers}
use Rattle.counter_table.specs.declared.view.Turn.{Turn}
use Rattle.counter_table.specs.declared.view.View.{View}
use Rattle.counter_table.specs.Known.{known_mark}
use Rattle.counter_table.specs.Numbers.{arming, drawing, spending, returning, peeking, raising}
use Rattle.counter_table.specs.Rule.{most, next_at, limit_at, NumbersFit, TurnFits, IsKept, IsAtHome, IsUnfilled, IsOut}
use Rattle.counter_table.specs.Play.{arms, draws, peeks, raises}
use Rattle.counter_table.proofs.Fitting.{next_apart, limit_apart, seat_fits, arm_fits, draw_fits, peek_fits, raise_fits}

abbrev pub numbers_of : List View → List Numbers
numbers_of views = map (λ v. v.numbers) views

abbrev pub turns_of : List View → List Turn
turns_of views = map (λ v. v.turn) views

pub peeking_shares : (row x l : ℕ) (v : Numbers) → (peeking row x l v).shares ≡ v.shares
peeking_shares row x l v =
    elim (ltb x l) as (λ b. (if b then spending row x l v else returning row l v).shares ≡ v.shares) [
      | true ↦ refl
      | false ↦ refl
    ]

module _ {B : Type 0} (told : B → Known) (count : ℕ) where
  -- a step that leaves the turn, the epoch and the limits leaves the rest of the book's part too
  pub words_fit : (words words' : List ℕ) (homes : List (slot.Option (Option B))) (turns : List Turn) (book : Known)
      (filled : Bool)
      → get_or words' 0 0 ≡ get_or words 0 0 → get_or words' EPOCH 0 ≡ get_or words EPOCH 0
      → ((row : ℕ) → row < count → get_or words' (limit_at row) 0 ≤ known_mark book row)
      → TurnFits told count words homes turns book filled → TurnFits told count words' homes turns book filled
  words_fit words words' homes turns book filled turn epoch limits fits =
      record {
        place = subst (λ k. IsAtHome told k homes turns book filled
            ⊎ (IsUnfilled told k homes turns book filled ⊎ IsOut told k homes turns book filled)) (sym turn) fits.place;
        epoch = epoch ∙ fits.epoch;
        limits = limits;
        made = fits.made;
        known = fits.known;
        reached = fits.reached;
        each = fits.each;
      }

  module _ (s : State (Option B) View) (id : ℕ) (v w : View) (at : get_elem? s.views id ≡ some v)
      (kept : IsKept told count s) where
    pub at_numbers : get_elem? (numbers_of s.views) id ≡ some v.numbers
    at_numbers = at_map (λ u. u.numbers) s.views id v at

    pub at_turn : get_elem? (turns_of s.views) id ≡ some v.turn
    at_turn = at_map (λ u. u.turn) s.views id v at

    -- the rule after a step: of its two parts
    pub both_parts : (words' : List ℕ) (homes' : List (slot.Option (Option B))) (book : Known) (filled : Bool)
        → NumbersFit count words' (set (numbers_of s.views) id w.numbers)
        → TurnFits told count words' homes' (set (turns_of s.views) id w.turn) book filled → 0 < w.numbers.shares
        → IsKept told count record { words = words'; homes = homes'; views = set s.views id w }
    both_parts words' homes' book filled numbers turn alive =
        record {
          numbers = subst (NumbersFit count words') (sym (map-set (λ (u : View). u.numbers) s.views id w)) numbers;
          book = book;
          filled = filled;
          turn = subst (λ z. TurnFits told count words' homes' z book filled)
              (sym (map-set (λ (u : View). u.turn) s.views id w)) turn;
          ended = λ j u e none. ⊎_elim
              (λ k. absurd (let z : u.numbers.shares ≡ w.numbers.shares = ap (λ y. y.numbers.shares) (sym k.1) in
              omega arith))
              (λ k. kept.ended j u k.1 none)
              (at_set s.views id j w u e);
        }

    -- a step after which the worker knows no more of the book
    pub numbers_alone : (words' : List ℕ) → w.turn ≡ v.turn → 0 < w.numbers.shares
        → get_or words' 0 0 ≡ get_or s.words 0 0 → get_or words' EPOCH 0 ≡ get_or s.words EPOCH 0
        → ((row : ℕ) → row < count → get_or words' (limit_at row) 0 ≡ get_or s.words (limit_at row) 0)
        → NumbersFit count words' (set (numbers_of s.views) id w.numbers)
        → IsKept told count record { words = words'; homes = s.homes; views = set s.views id w }
    numbers_alone words' same alive turn epoch limits numbers =
        let same_turns : set (turns_of s.views) id w.turn ≡ turns_of s.views =
        ap (set (turns_of s.views) id) same ∙ set_again (turns_of s.views) id v.turn at_turn in
        both_parts words' s.homes kept.book kept.filled numbers
        (subst (λ z. TurnFits told count words' s.homes z kept.book kept.filled) (sym same_turns)
        (words_fit s.words words' s.homes (turns_of s.views) kept.book kept.filled turn epoch (λ row b. let l =
        limits row b in let m = kept.turn.limits row b in omega arith) kept.turn))
        alive

    -- a step on a word `next`
    pub next_alone : (row n' : ℕ) → row < count → w.turn ≡ v.turn → 0 < w.numbers.shares
        → NumbersFit count (set s.words (next_at row) n') (set (numbers_of s.views) id w.numbers)
        → IsKept told count record { words = set s.words (next_at row) n'; homes = s.homes; views = set s.views id w }
    next_alone row n' b same alive numbers =
        let size = kept.numbers.size in
        numbers_alone (set s.words (next_at row) n') same alive
        (next_apart count s.words size row n' b 0 (λ e. omega arith))
        (next_apart count s.words size row n' b EPOCH (λ e. omega arith))
        (λ q c. next_apart count s.words size row n' b (limit_at q) (λ e. omega arith)) numbers

    -- a load of a word `limit`
    pub limit_alone : (row : ℕ) → row < count → w.turn ≡ v.turn → 0 < w.numbers.shares
        → NumbersFit count (set s.words (limit_at row) (get_or s.words (limit_at row) 0))
        (set (numbers_of s.views) id w.numbers)
        → IsKept told count record {
          words = set s.words (limit_at row) (get_or s.words (limit_at row) 0);
          homes = s.homes;
          views = set s.views id w;
        }
    limit_alone row b same alive numbers =
        let l = get_or s.words (limit_at row) 0 in let size = kept.numbers.size in
        numbers_alone (set s.words (limit_at row) l) same alive
        (limit_apart count s.words size row l b 0 (λ e. omega arith))
        (limit_apart count s.words size row l b EPOCH (λ e. omega arith))
        (λ q c. loaded (limit_at row) (limit_at q)) numbers
      where
        loaded : (i j : ℕ) → get_or (set s.words i (get_or s.words i 0)) j 0 ≡ get_or s.words j 0
        loaded i j = ap (λ z. get_or z j 0) (set-get_or s.words i 0)

  module _ (slots id : ℕ) (m : Me (Option B) View) (row : ℕ) (below : row < count) (alive : 0 < m.0.numbers.shares)
    where
      pub arm_allows : (end : ℕ) → end ≤ 2 ^ 48
          → Allows (IsKept told count) slots id m (next_at row) (λ n. n) (arms row end m)
      arm_allows end low s kept size at bound =
          let n = get_or s.words (next_at row) 0 in
          let numbers = at_numbers s id m.0 m.0 at kept in
          let w : View = record m.0 { numbers = arming row end n m.0.numbers } in (
            w,
            keeps,
            tt,
            next_alone s id m.0 w at kept row n below refl alive
                (arm_fits count s.words (numbers_of s.views) id m.0.numbers row numbers kept.numbers below alive end
                low),
            (
              (refl, refl),
              (seat_fits count s.words s.words (numbers_of s.views) id m.0.numbers m.0.numbers row numbers kept.numbers
                  below).nexts,
            ),
          )

      pub draw_allows : m.0.numbers.armed ≡ Some row
          → Allows (IsKept told count) slots id m (next_at row) (λ n. (n + 1) % 2 ^ 64) (draws row m)
      draw_allows armed s kept size at bound =
          let n = get_or s.words (next_at row) 0 in
          let numbers = at_numbers s id m.0 m.0 at kept in
          let w : View = record m.0 { numbers = drawing row n m.0.numbers } in
          let fits = kept.numbers.rows row below in
          let low : n ≤ most = let r = fits.room in omega arith in
          let grown = fits.grown in
          let plus : (n + 1) % 2 ^ 64 ≡ n + 1 = omega arith in (
            w,
            keeps,
            tt,
            subst (λ k. IsKept told count record {
              words = set s.words (next_at row) k;
              homes = s.homes;
              views = set s.views id w;
            }) (sym plus)
                (next_alone s id m.0 w at kept row (n + 1) below refl alive
                (draw_fits count s.words (numbers_of s.views) id m.0.numbers row numbers kept.numbers below alive
                armed)),
            (
              (refl, refl),
              (seat_fits count s.words s.words (numbers_of s.views) id m.0.numbers m.0.numbers row numbers kept.numbers
                  below).nexts,
              omega arith,
            ),
          )

      pub peek_allows : (x : ℕ) → m.0.numbers.last ≡ Some (row, x)
          → Allows (IsKept told count) slots id m (limit_at row) (λ n. n) (peeks row x m)
      peek_allows x last s kept size at bound =
          let l = get_or s.words (limit_at row) 0 in
          let numbers = at_numbers s id m.0 m.0 at kept in
          let w : View = record m.0 { numbers = peeking row x l m.0.numbers } in
          let same : w.numbers.shares ≡ m.0.numbers.shares = peeking_shares row x l m.0.numbers in (
            w,
            keeps,
            tt,
            limit_alone s id m.0 w at kept row below refl (subst (λ k. 0 < k) (sym same) alive)
                (peek_fits count s.words (numbers_of s.views) id m.0.numbers row numbers kept.numbers below alive x
                last),
            (
              (refl, refl),
              (seat_fits count s.words s.words (numbers_of s.views) id m.0.numbers m.0.numbers row numbers kept.numbers
                  below).limits,
            ),
          )

      pub raise_allows : (number : ℕ) → number ≤ 2 ^ 48
          → Allows (IsKept told count) slots id m (next_at row) (λ n. max n number) (raises row number m)
      raise_allows number low s kept size at bound =
          let n = get_or s.words (next_at row) 0 in
          let numbers = at_numbers s id m.0 m.0 at kept in
          let fits = kept.numbers.rows row below in
          let grown = fits.grown in
          let w : View = record m.0 { numbers = raising row number n m.0.numbers } in (
            w,
            keeps,
            tt,
            next_alone s id m.0 w at kept row (max n number) below refl alive
                (raise_fits count s.words (numbers_of s.views) id m.0.numbers row numbers kept.numbers below alive
                number
                low),
            (
              (refl, refl),
              (seat_fits count s.words s.words (numbers_of s.views) id m.0.numbers m.0.numbers row numbers kept.numbers
                  below).nexts,
              omega arith,
            ),
          )
