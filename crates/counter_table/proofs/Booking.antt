-- Each step keeps the rule's part on the turn and the book.
use Rattle.std.proofs.Common.{◌≡◌, ◌≢◌, ◌⊎◌, ℕ, zero, suc, ◌+◌, ◌-◌, ◌<◌, ◌≤◌, max, true, false, Bool, ◌||◌, List, []}
use Rattle.std.proofs.Common.{◌∷◌, ◌++◌, set, get_or, length, sym, refl, ap, ◌∙◌, subst, inl, inr, ⊎_elim, le_trans}
use Rattle.std.proofs.Common.{arith, Some, Option, if◌then◌else◌}
use Rattle.std.proofs.lemmas.Bool.{cases_lt}
use Rattle.std.proofs.lemmas.Bool.Decides.{nat_tests}
use mathlib.Core.Option as slot
use mathlib.Core.Option.{some, some-injective}
use mathlib.Core.Logic.{dite}
use native.Mathlib.Decide.{ℕ_discrete}
use lib.ListN.{get_elem?}
use Rattle.atomic_table.proofs.Lists.{at_set, set_here, set_else}
use Rattle.counter_table.specs.declared.turns.TheConstants.{EPOCH}
use Rattle.counter_table.specs.declared.view.Known.{Known}
use Rattle.counter_table.specs.declared.view.Turn.{Turn}
use Rattle.sdls_outside.specs.Faults.{Rose}
use Rattle.counter_table.specs.Known.{known_mark, entries, Earlier, IsSparing, pieces, LowersNoMark, MayGive, MayFill}
use Rattle.counter_table.specs.Known.{unknown, later}
use Rattle.counter_table.specs.Turn.{places, stands, no_turn, beginner, merged, taking, giving, filling, learning}
use Rattle.counter_table.specs.Turn.{seeing, turning}
use Rattle.sdls_base.specs.Numbers.{one_if, total, once_below}
use Rattle.counter_table.specs.Rule.{greatest, limit_at, IsReached, KnowsBook, IsAtHome, IsUnfilled, IsOut, TurnFits}
use Rattle.counter_table.proofs.Sums.{at_below, greatest_at, greatest_least, total-append, total_set, total_at}
use Rattle.counter_table.proofs.Sums.{total_two, total_only, each_set, each_snoc, each_apart, zero_of}
use Rattle.counter_table.proofs.Knowing.{earlier_itself, earlier_further, earlier_length, earlier_first, earlier_later}
use Rattle.counter_table.proofs.Knowing.{sparing_itself, sparing_further, sparing_later, rose_left, rose_right}
use Rattle.counter_table.proofs.Knowing.{no_pieces, longer_length, stands-append, places_next, places_low, ended_knows}
use Rattle.counter_table.proofs.Knowing.{beginner_knows}

-- a count that some worker knows is one that some worker knows after one of them came to know as much at least
module _ (f : Turn → ℕ) (turns : List Turn) where
  reach_set : (id : ℕ) (v w : Turn) (n : ℕ) → get_elem? turns id ≡ some v → f v ≤ f w → n ≤ greatest f turns
      → n ≤ greatest f (set turns id w)
  reach_set id v w n at more reached = le_trans reached (greatest_least f turns _ (λ j u e. dite (ℕ_discrete j id)
      (λ same. let is : u ≡ v = some-injective u v (sym e ∙ (ap (get_elem? turns) same ∙ at)) in
      subst (λ z. f z ≤ greatest f (set turns id w)) (sym is)
      (le_trans more (greatest_at f (set turns id w) id w (set_here turns id w (at_below turns id v at)))))
      (λ apart. greatest_at f (set turns id w) j u (set_else turns id j w apart ∙ e))))

  reach_snoc : (w : Turn) (n : ℕ) → n ≤ greatest f turns → n ≤ greatest f (turns ++ w ∷ [])
  reach_snoc w n reached = let h = more turns in omega arith
    where
      more : (xs : List Turn) → greatest f xs ≤ greatest f (xs ++ w ∷ [])
      more [] = omega arith
      more (x ∷ xs) = let h = more xs in omega arith

module _ (book : Known) (turns : List Turn) where
  reached_set : (id : ℕ) (v w : Turn) → get_elem? turns id ≡ some v → v.known.changes ≤ w.known.changes
      → v.known.faults ≤ w.known.faults
      → v.known.standing ≤ w.known.standing → v.known.put_faults ≤ w.known.put_faults → IsReached book turns
      → IsReached book (set turns id w)
  reached_set id v w at a b c d r = record {
    changes = reach_set (λ u. u.known.changes) turns id v w book.changes at a r.changes;
    faults = reach_set (λ u. u.known.faults) turns id v w book.faults at b r.faults;
    standing = reach_set (λ u. u.known.standing) turns id v w book.standing at c r.standing;
    put_faults = reach_set (λ u. u.known.put_faults) turns id v w book.put_faults at d r.put_faults;
  }

  reached_here : (id : ℕ) (w : Turn) → get_elem? turns id ≡ some w → book.changes ≤ w.known.changes
      → book.faults ≤ w.known.faults
      → book.standing ≤ w.known.standing → book.put_faults ≤ w.known.put_faults → IsReached book turns
  reached_here id w at a b c d = record {
    changes = le_trans a (greatest_at (λ u. u.known.changes) turns id w at);
    faults = le_trans b (greatest_at (λ u. u.known.faults) turns id w at);
    standing = le_trans c (greatest_at (λ u. u.known.standing) turns id w at);
    put_faults = le_trans d (greatest_at (λ u. u.known.put_faults) turns id w at);
  }

  reached_snoc : (w : Turn) → IsReached book turns → IsReached book (turns ++ w ∷ [])
  reached_snoc w r = record {
    changes = reach_snoc (λ u. u.known.changes) turns w book.changes r.changes;
    faults = reach_snoc (λ u. u.known.faults) turns w book.faults r.faults;
    standing = reach_snoc (λ u. u.known.standing) turns w book.standing r.standing;
    put_faults = reach_snoc (λ u. u.known.put_faults) turns w book.put_faults r.put_faults;
  }

none_below : (p : ℕ) → once_below p 0 ≡ 0
none_below p = grind (arith, nat_tests)

pub false≢true : false ≡ true → ⊥
false≢true e = cc

pub is_false : (b : Bool) → one_if b ≡ 0 → b ≡ false
is_false true e = absurd (omega arith)
is_false false e = refl

pub is_one : (b : Bool) → b ≡ true → one_if b ≡ 1
is_one b e = ap one_if e

pub is_zero : (b : Bool) → b ≡ false → one_if b ≡ 0
is_zero b e = ap one_if e

abbrev pub holders : List Turn → ℕ
holders turns = total (λ v. one_if v.holds) turns

abbrev pub fillers : List Turn → ℕ
fillers turns = total (λ v. one_if v.filled) turns

module _ {B : Type 0} (told : B → Known) (count : ℕ) (words : List ℕ) (homes : List (slot.Option (Option B)))
    (turns : List Turn) (book : Known) (filled : Bool) (fits : TurnFits told count words homes turns book filled) where
  abbrev word : ℕ
  word = get_or words 0 0

  -- the book is out with who holds the turn
  pub out_with : (id : ℕ) (v : Turn) → get_elem? turns id ≡ some v → v.holds ≡ true
      → IsOut told word homes turns book filled
  out_with id v at holds =
      let one = is_one v.holds holds in let some_holds = total_at (λ u. one_if u.holds) turns id v at in
      ⊎_elim (λ h. absurd (let f = h.free in omega arith))
      (λ k. ⊎_elim (λ h. absurd (let f = h.free in omega arith)) (λ o. o) k) fits.place

  -- where the turn is free and a book was filled, the book is at home
  pub home_free : word ≡ 0 → filled ≡ true → IsAtHome told word homes turns book filled
  home_free free full =
      ⊎_elim (λ h. h) (λ k. ⊎_elim (λ h. absurd (false≢true (sym h.filled ∙ full)))
      (λ o. absurd (let t = o.turn in omega arith)) k) fits.place

  pub out_where : word ≢ 0 → IsOut told word homes turns book filled
  out_where n = ⊎_elim (λ h. absurd (n h.turn)) (λ k. ⊎_elim (λ h. absurd (n h.turn)) (λ o. o) k) fits.place

  -- another word of the turn that is not 0
  pub again_fits : (words' : List ℕ) → 0 < get_or words' 0 0 → get_or words' EPOCH 0 ≡ get_or words EPOCH 0
      → ((row : ℕ) → row < count → get_or words' (limit_at row) 0 ≡ get_or words (limit_at row) 0)
      → word ≢ 0 → TurnFits told count words' homes turns book filled
  again_fits words' turn same_epoch same_limits n =
      let o = out_where n in
      record {
        place = inr (inr record { turn = turn; out = o.out; held = o.held; holder = o.holder; book = o.book });
        epoch = same_epoch ∙ fits.epoch;
        limits = λ row b. let l = fits.limits row b in let e = same_limits row b in omega arith;
        made = fits.made;
        known = fits.known;
        reached = fits.reached;
        each = fits.each;
      }

  module _ (id : ℕ) (v : Turn) (at : get_elem? turns id ≡ some v) where
    -- who holds the turn holds it alone, and knows the book
    pub holds_alone : v.holds ≡ true → (j : ℕ) (u : Turn) → get_elem? turns j ≡ some u → j ≢ id → u.holds ≡ false
    holds_alone holds j u e apart =
        let one = is_one v.holds holds in
        let two = total_two (λ z. one_if z.holds) turns id j v u at e (λ k. apart (sym k)) in
        let h = (out_with id v at holds).held in is_false u.holds (omega arith)

    pub holder_knows : v.holds ≡ true → v.known ≡ book
    holder_knows holds = (out_with id v at holds).holder id v at holds

    here : (w : Turn) → get_elem? (set turns id w) id ≡ some w
    here w = set_here turns id w (at_below turns id v at)

    -- a worker that knows as much as before, and that holds the turn where it did
    pub see_fits : (words' : List ℕ) (epoch : ℕ) → get_or words' 0 0 ≡ word
        → get_or words' EPOCH 0 ≡ get_or words EPOCH 0
        → ((row : ℕ) → row < count → get_or words' (limit_at row) 0 ≡ get_or words (limit_at row) 0)
        → epoch ≡ get_or words EPOCH 0
        → TurnFits told count words' homes (set turns id (seeing epoch v)) book filled
    see_fits words' epoch same_turn same_epoch same_limits is =
        let w = seeing epoch v in
        let t = total_set (λ u. one_if u.holds) turns id v w at in
        let new_turns = set turns id w in
        record {
          place = subst (λ k. IsAtHome told k homes new_turns book filled
              ⊎ (IsUnfilled told k homes new_turns book filled ⊎ IsOut told k homes new_turns book filled))
              (sym same_turn)
              (⊎_elim (λ h. inl record {
                turn = h.turn;
                book = h.book;
                free = let f = h.free in omega arith;
                filled = h.filled;
              })
              (λ k. inr
              (⊎_elim (λ h. inl record {
                turn = h.turn;
                none = h.none;
                free = let f = h.free in omega arith;
                filled = h.filled;
                book = h.book;
              })
              (λ o. inr record {
                turn = o.turn;
                out = o.out;
                held = let f = o.held in omega arith;
                holder = each_set (λ u. u.holds ≡ true → u.known ≡ book) turns id w (λ h. o.holder id v at h) o.holder;
                book = o.book;
              }) k)) fits.place);
          epoch = same_epoch ∙ fits.epoch;
          limits = λ row b. let l = fits.limits row b in let e = same_limits row b in omega arith;
          made = λ p. let m = total_set (λ u. stands p u.made) turns id v w at in let o = fits.made p in omega arith;
          known = λ f. let m = total_set (λ u. one_if u.filled) turns id v w at in let o = fits.known f in omega arith;
          reached = reached_set book turns id v w at (omega arith) (omega arith) (omega arith) (omega arith)
              fits.reached;
          each = each_set (KnowsBook book filled) turns id w
              (let k = fits.each id v at in
              record {
                earlier = k.earlier;
                sparing = k.sparing;
                epoch = let e = fits.epoch in omega arith;
                opening = k.opening;
                blank = k.blank;
                made = k.made;
                one = k.one;
                other = k.other;
              }) fits.each;
        }

    pub take_fits : (words' : List ℕ) (b : B) → 0 < get_or words' 0 0 → get_or words' EPOCH 0 ≡ get_or words EPOCH 0
        → ((row : ℕ) → row < count → get_or words' (limit_at row) 0 ≡ get_or words (limit_at row) 0)
        → v.filled ≡ true → IsAtHome told word homes turns book filled → told b ≡ book → homes ≡ some (Some b) ∷ []
        → TurnFits told count words' (set homes 0 slot.none) (set turns id (taking (told b) v)) book filled
    take_fits words' b turn same_epoch same_limits full home is where_b =
        let w = taking (told b) v in
        let free = home.free in
        let mine = total_at (λ u. one_if u.holds) turns id v at in
        let t = total_set (λ u. one_if u.holds) turns id v w at in
        let k = fits.each id v at in
        record {
          place = inr (inr record {
            turn = turn;
            out = ap (λ z. set z 0 slot.none) where_b;
            held = omega arith;
            holder = λ j u e h. ⊎_elim (λ s. ap (λ z. z.known) (sym s.1) ∙ is)
                (λ o. absurd (let one = is_one u.holds h in let some_holds =
                total_at (λ z. one_if z.holds) turns j u o.1 in omega arith)) (at_set turns id j w u e);
            book = λ f. absurd (false≢true (sym f ∙ home.filled));
          });
          epoch = same_epoch ∙ fits.epoch;
          limits = λ row b. let l = fits.limits row b in let e = same_limits row b in omega arith;
          made = λ p. let m = total_set (λ u. stands p u.made) turns id v w at in let o = fits.made p in omega arith;
          known = λ f. let m = total_set (λ u. one_if u.filled) turns id v w at in let o = fits.known f in omega arith;
          reached = reached_here book (set turns id w) id w (here w) (omega (arith, ap (λ z. z.changes) is))
              (omega (arith, ap (λ z. z.faults) is)) (omega (arith, ap (λ z. z.standing) is))
              (omega (arith, ap (λ z. z.put_faults) is));
          each = each_set (KnowsBook book filled) turns id w
              record {
                earlier = subst (λ z. Earlier z book) (sym is) (earlier_itself book);
                sparing = λ f. subst (λ z. IsSparing z book) (sym is) (sparing_itself book);
                epoch = k.epoch;
                opening = λ f. (home.filled, ap (λ z. z.opening) is);
                blank = λ e. absurd (false≢true (sym e ∙ full));
                made = λ p h. let a = k.made p h in let l = earlier_length v.known book k.earlier in
                    let same : length (told b).log ≡ length book.log = ap (λ z. length z.log) is in omega arith;
                one = k.one;
                other = k.other;
              } fits.each;
        }

    pub give_fits : (words' : List ℕ) (b : B) → get_or words' 0 0 ≡ 0 → get_or words' EPOCH 0 ≡ get_or words EPOCH 0
        → ((row : ℕ) → row < count → get_or words' (limit_at row) 0 ≡ get_or words (limit_at row) 0)
        → v.holds ≡ true → v.filled ≡ true → MayGive v.known (told b)
        → TurnFits told count words' (set homes 0 (some (Some b))) (set turns id (giving (told b) v)) (told b) filled
    give_fits words' b turn same_epoch same_limits holds full may =
        let w = giving (told b) v in
        let out = out_with id v at holds in
        let knows : v.known ≡ book = holder_knows holds in
        let held = out.held in
        let one = is_one v.holds holds in
        let t = total_set (λ u. one_if u.holds) turns id v w at in
        let k = fits.each id v at in
        let may' : MayGive book (told b) = subst (λ z. MayGive z (told b)) knows may in
        let longer : length v.known.log ≤ length (told b).log = earlier_length v.known (told b) may.earlier in
        let same_length : length v.known.log ≡ length book.log = ap (λ z. length z.log) knows in
        let sum : length v.known.log + (length (told b).log - length v.known.log) ≡ length (told b).log = omega arith in
        record {
          place = inl record {
            turn = turn;
            book = (b, ap (λ z. set z 0 (some (Some b))) out.out, refl);
            free = omega arith;
            filled = (k.opening full).0;
          };
          epoch = same_epoch ∙ (fits.epoch ∙ sym may'.changes);
          limits = λ row c. let l = fits.limits row c in let e = same_limits row c in let m = may'.marks row in
              omega arith;
          made = λ p.
              let m = total_set (λ u. stands p u.made) turns id v w at in let o = fits.made p in
              let a = stands-append p v.made (places (length v.known.log) (length (told b).log - length v.known.log)) in
              let n = places_next p (length v.known.log) (length (told b).log - length v.known.log) in
              let x = ap (once_below p) same_length in let y = ap (once_below p) sum in omega arith;
          known = λ f. let m = total_set (λ u. one_if u.filled) turns id v w at in let o = fits.known f in omega arith;
          reached = reached_here (told b) (set turns id w) id w (here w) (omega arith) (omega arith) (omega arith)
              (omega arith);
          each = each_set (KnowsBook (told b) filled) turns id w
              record {
                earlier = earlier_itself (told b);
                sparing = λ f. sparing_itself (told b);
                epoch = let e = k.epoch in let c = may'.changes in omega arith;
                opening = λ f. ((k.opening full).0, refl);
                blank = λ e. absurd (false≢true (sym e ∙ full));
                made = λ p h.
                    let a = stands-append p v.made
                    (places (length v.known.log) (length (told b).log - length v.known.log)) in
                    given p (stands p v.made)
                    (stands p (places (length v.known.log) (length (told b).log - length v.known.log)))
                    (omega arith)
                    (λ s. let l = k.made p s in omega arith) (λ s. let l =
                    places_low p (length v.known.log) (length (told b).log - length v.known.log) s in omega arith);
                one = earlier_further v.one book (told b) k.one may'.earlier may'.opening;
                other = earlier_further v.other book (told b) k.other may'.earlier may'.opening;
              }
              (λ j u e. let old = fits.each j u e in
              record {
                earlier = earlier_further u.known book (told b) old.earlier may'.earlier may'.opening;
                sparing = λ f. sparing_further u.known book (told b) old.earlier may'.earlier may'.opening
                    (old.sparing f) may'.sparing;
                epoch = let x = old.epoch in let c = may'.changes in omega arith;
                opening = λ f. ((old.opening f).0, (old.opening f).1 ∙ sym may'.opening);
                blank = old.blank;
                made = old.made;
                one = earlier_further u.one book (told b) old.one may'.earlier may'.opening;
                other = earlier_further u.other book (told b) old.other may'.earlier may'.opening;
              });
        }
      where
        given : (p x y : ℕ) → 0 < x + y → (0 < x → p < length (told b).log) → (0 < y → p < length (told b).log)
            → p < length (told b).log
        given p zero y h f g = g (omega arith)
        given p (suc x) y h f g = f (omega arith)

    -- the marks of the held book become known, and a limit is lifted to one of them
    pub lift_fits : (words' : List ℕ) (held : Known) (lifted : ℕ) → get_or words' 0 0 ≡ word
        → get_or words' EPOCH 0 ≡ get_or words EPOCH 0
        → (get_or words' (limit_at lifted) 0 ≡ max (get_or words (limit_at lifted) 0) (known_mark held lifted))
        → ((row : ℕ) → row < count → row ≢ lifted → get_or words' (limit_at row) 0 ≡ get_or words (limit_at row) 0)
        → v.holds ≡ true → v.filled ≡ true → LowersNoMark v.known held
        → TurnFits told count words' homes (set turns id (learning held.marks v)) record book { marks = held.marks }
        filled
    lift_fits words' held lifted same_turn same_epoch at_row same_limits holds full marks =
        let w = learning held.marks v in
        let new_book = record book { marks = held.marks } in
        let new_turns = set turns id w in
        let knows : v.known ≡ book = holder_knows holds in
        let marks' : LowersNoMark book held = subst (λ z. LowersNoMark z held) knows marks in
        let out = out_with id v at holds in
        let t = total_set (λ u. one_if u.holds) turns id v w at in
        let k = fits.each id v at in
        record {
          place = subst (λ k. IsAtHome told k homes new_turns new_book filled
              ⊎ (IsUnfilled told k homes new_turns new_book filled ⊎ IsOut told k homes new_turns new_book filled))
              (sym same_turn)
              (inr (inr record {
                turn = out.turn;
                out = out.out;
                held = let f = out.held in omega arith;
                holder = λ j u e h. ⊎_elim (λ s. let learn : Known → Known = λ z. record z { marks = held.marks } in
                    ap (λ z. z.known) (sym s.1) ∙ ap learn knows)
                    (λ o. absurd (false≢true (sym (holds_alone holds j u o.1 o.0) ∙ h))) (at_set turns id j w u e);
                book = λ f. absurd (false≢true (sym f ∙ (k.opening full).0));
              }));
          epoch = same_epoch ∙ fits.epoch;
          limits = λ row b. dite (ℕ_discrete row lifted)
              (λ e. subst (λ r. get_or words' (limit_at r) 0 ≤ known_mark held r) (sym e)
              (let below : lifted < count = subst (λ r. r < count) e b in let l = fits.limits lifted below in
              let m = marks' lifted in omega arith))
              (λ apart. let l = fits.limits row b in let e = same_limits row b apart in let m = marks' row in
              omega arith);
          made = λ p. let m = total_set (λ u. stands p u.made) turns id v w at in let o = fits.made p in omega arith;
          known = λ f. let m = total_set (λ u. one_if u.filled) turns id v w at in let o = fits.known f in omega arith;
          reached =
              let r = reached_set book turns id v w at (omega arith) (omega arith) (omega arith) (omega arith)
              fits.reached in
              record { changes = r.changes; faults = r.faults; standing = r.standing; put_faults = r.put_faults };
          each = each_set (KnowsBook new_book filled) turns id w
              record {
                earlier = record {
                  log = k.earlier.log;
                  changes = k.earlier.changes;
                  faults = k.earlier.faults;
                  standing = k.earlier.standing;
                  put_faults = k.earlier.put_faults;
                  stopped = k.earlier.stopped;
                  stood = k.earlier.stood;
                };
                sparing = k.sparing;
                epoch = k.epoch;
                opening = k.opening;
                blank = λ e. absurd (false≢true (sym e ∙ full));
                made = k.made;
                one = record {
                  log = k.one.log;
                  changes = k.one.changes;
                  faults = k.one.faults;
                  standing = k.one.standing;
                  put_faults = k.one.put_faults;
                  stopped = k.one.stopped;
                  stood = k.one.stood;
                };
                other = record {
                  log = k.other.log;
                  changes = k.other.changes;
                  faults = k.other.faults;
                  standing = k.other.standing;
                  put_faults = k.other.put_faults;
                  stopped = k.other.stopped;
                  stood = k.other.stood;
                };
              }
              (λ j u e. let old = fits.each j u e in
              record {
                earlier = record {
                  log = old.earlier.log;
                  changes = old.earlier.changes;
                  faults = old.earlier.faults;
                  standing = old.earlier.standing;
                  put_faults = old.earlier.put_faults;
                  stopped = old.earlier.stopped;
                  stood = old.earlier.stood;
                };
                sparing = old.sparing;
                epoch = old.epoch;
                opening = old.opening;
                blank = old.blank;
                made = old.made;
                one = record {
                  log = old.one.log;
                  changes = old.one.changes;
                  faults = old.one.faults;
                  standing = old.one.standing;
                  put_faults = old.one.put_faults;
                  stopped = old.one.stopped;
                  stood = old.one.stood;
                };
                other = record {
                  log = old.other.log;
                  changes = old.other.changes;
                  faults = old.other.faults;
                  standing = old.other.standing;
                  put_faults = old.other.put_faults;
                  stopped = old.other.stopped;
                  stood = old.other.stood;
                };
              });
        }

    -- the epoch and the holder's count of changes go on together
    pub turn_fits : (words' : List ℕ) → get_or words' 0 0 ≡ word → get_or words' EPOCH 0 ≡ get_or words EPOCH 0 + 1
        → ((row : ℕ) → row < count → get_or words' (limit_at row) 0 ≡ get_or words (limit_at row) 0)
        → v.holds ≡ true → v.filled ≡ true
        → TurnFits told count words' homes (set turns id (turning v)) record book { changes = book.changes + 1 } filled
    turn_fits words' same_turn next_epoch same_limits holds full =
        let w = turning v in
        let new_book = record book { changes = book.changes + 1 } in
        let new_turns = set turns id w in
        let knows : v.known ≡ book = holder_knows holds in
        let out = out_with id v at holds in
        let t = total_set (λ u. one_if u.holds) turns id v w at in
        let k = fits.each id v at in
        record {
          place = subst (λ k. IsAtHome told k homes new_turns new_book filled
              ⊎ (IsUnfilled told k homes new_turns new_book filled ⊎ IsOut told k homes new_turns new_book filled))
              (sym same_turn)
              (inr (inr record {
                turn = out.turn;
                out = out.out;
                held = let f = out.held in omega arith;
                holder = λ j u e h. ⊎_elim (λ s. let next : Known → Known = λ z. record z { changes = z.changes + 1 } in
                    ap (λ z. z.known) (sym s.1) ∙ ap next knows)
                    (λ o. absurd (false≢true (sym (holds_alone holds j u o.1 o.0) ∙ h))) (at_set turns id j w u e);
                book = λ f. absurd (false≢true (sym f ∙ (k.opening full).0));
              }));
          epoch = next_epoch ∙ ap (λ z. z + 1) fits.epoch;
          limits = λ row b. let l = fits.limits row b in let e = same_limits row b in omega arith;
          made = λ p. let m = total_set (λ u. stands p u.made) turns id v w at in let o = fits.made p in omega arith;
          known = λ f. let m = total_set (λ u. one_if u.filled) turns id v w at in let o = fits.known f in omega arith;
          reached = reached_here new_book (set turns id w) id w (here w) (omega (arith, ap (λ z. z.changes) knows))
              (omega (arith, ap (λ z. z.faults) knows)) (omega (arith, ap (λ z. z.standing) knows))
              (omega (arith, ap (λ z. z.put_faults) knows));
          each = each_set (KnowsBook new_book filled) turns id w
              record {
                earlier = record {
                  log = k.earlier.log;
                  changes = let c = k.earlier.changes in omega arith;
                  faults = k.earlier.faults;
                  standing = k.earlier.standing;
                  put_faults = k.earlier.put_faults;
                  stopped = k.earlier.stopped;
                  stood = k.earlier.stood;
                };
                sparing = k.sparing;
                epoch = let c = k.epoch in omega arith;
                opening = k.opening;
                blank = λ e. absurd (false≢true (sym e ∙ full));
                made = k.made;
                one = record {
                  log = k.one.log;
                  changes = let c = k.one.changes in omega arith;
                  faults = k.one.faults;
                  standing = k.one.standing;
                  put_faults = k.one.put_faults;
                  stopped = k.one.stopped;
                  stood = k.one.stood;
                };
                other = record {
                  log = k.other.log;
                  changes = let c = k.other.changes in omega arith;
                  faults = k.other.faults;
                  standing = k.other.standing;
                  put_faults = k.other.put_faults;
                  stopped = k.other.stopped;
                  stood = k.other.stood;
                };
              }
              (λ j u e. let old = fits.each j u e in
              record {
                earlier = record {
                  log = old.earlier.log;
                  changes = let c = old.earlier.changes in omega arith;
                  faults = old.earlier.faults;
                  standing = old.earlier.standing;
                  put_faults = old.earlier.put_faults;
                  stopped = old.earlier.stopped;
                  stood = old.earlier.stood;
                };
                sparing = old.sparing;
                epoch = let c = old.epoch in omega arith;
                opening = old.opening;
                blank = old.blank;
                made = old.made;
                one = record {
                  log = old.one.log;
                  changes = let c = old.one.changes in omega arith;
                  faults = old.one.faults;
                  standing = old.one.standing;
                  put_faults = old.one.put_faults;
                  stopped = old.one.stopped;
                  stood = old.one.stood;
                };
                other = record {
                  log = old.other.log;
                  changes = let c = old.other.changes in omega arith;
                  faults = old.other.faults;
                  standing = old.other.standing;
                  put_faults = old.other.put_faults;
                  stopped = old.other.stopped;
                  stood = old.other.stood;
                };
              });
        }

    -- before a book was filled the one worker with shares takes the empty slot, and fills it
    module _ (alone : (j : ℕ) (u : Turn) → get_elem? turns j ≡ some u → j ≢ id → u ≡ no_turn) (blank : v.filled ≡ false)
      where
        pub unfilled : filled ≡ false
        unfilled = go filled refl
          where
            sum : fillers turns ≡ 0
            sum = total_only (λ u. one_if u.filled) turns id v at (λ j u e n. ap (λ z. one_if z.filled) (alone j u e n))
                ∙ is_zero v.filled blank

            go : (b : Bool) → filled ≡ b → filled ≡ false
            go true e = absurd (let k = fits.known e in let s = sum in omega arith)
            go false e = e

        pub free_of : v.holds ≡ false → IsUnfilled told word homes turns book filled
        free_of free =
            ⊎_elim (λ h. absurd (false≢true (sym unfilled ∙ h.filled)))
            (λ k. ⊎_elim (λ h. h) (λ o. absurd (let h = o.held in let s = sum in omega arith)) k) fits.place
          where
            sum : holders turns ≡ 0
            sum = total_only (λ u. one_if u.holds) turns id v at (λ j u e n. ap (λ z. one_if z.holds) (alone j u e n))
                ∙ is_zero v.holds free

        pub empty_fits : (words' : List ℕ) → 0 < get_or words' 0 0 → get_or words' EPOCH 0 ≡ get_or words EPOCH 0
            → ((row : ℕ) → row < count → get_or words' (limit_at row) 0 ≡ get_or words (limit_at row) 0)
            → v.holds ≡ false
            → TurnFits told count words' (set homes 0 slot.none) (set turns id (record v { holds = true })) book filled
        empty_fits words' turn same_epoch same_limits free =
            let w = record v { holds = true } in
            let u' = free_of free in
            let none = u'.free in
            let t = total_set (λ u. one_if u.holds) turns id v w at in
            let mine = is_zero v.holds free in
            let k = fits.each id v at in
            record {
              place = inr (inr record {
                turn = turn;
                out = ap (λ z. set z 0 slot.none) u'.none;
                held = omega arith;
                holder = λ j u e h. ⊎_elim (λ s. ap (λ z. z.known) (sym s.1) ∙ (k.blank blank ∙ sym u'.book))
                    (λ o. absurd (false≢true (sym (ap (λ z. z.holds) (alone j u o.1 o.0)) ∙ h)))
                    (at_set turns id j w u e);
                book = λ f. u'.book;
              });
              epoch = same_epoch ∙ fits.epoch;
              limits = λ row b. let l = fits.limits row b in let e = same_limits row b in omega arith;
              made = λ p. let m = total_set (λ u. stands p u.made) turns id v w at in let o = fits.made p in
                  omega arith;
              known = λ f. let m = total_set (λ u. one_if u.filled) turns id v w at in let o = fits.known f in
                  omega arith;
              reached = reached_set book turns id v w at (omega arith) (omega arith) (omega arith) (omega arith)
                  fits.reached;
              each = each_set (KnowsBook book filled) turns id w
                  record {
                    earlier = k.earlier;
                    sparing = k.sparing;
                    epoch = k.epoch;
                    opening = k.opening;
                    blank = k.blank;
                    made = k.made;
                    one = k.one;
                    other = k.other;
                  } fits.each;
            }

        pub fill_fits : (words' : List ℕ) (b : B) → get_or words' 0 0 ≡ 0 → get_or words' EPOCH 0 ≡ get_or words EPOCH 0
            → ((row : ℕ) → row < count → get_or words' (limit_at row) 0 ≡ get_or words (limit_at row) 0)
            → v.holds ≡ true → MayFill (told b)
            → TurnFits told count words' (set homes 0 (some (Some b))) (set turns id (filling (told b) v)) (told b) true
        fill_fits words' b turn same_epoch same_limits holds may =
            let w = filling (told b) v in
            let out = out_with id v at holds in
            let held = out.held in
            let one = is_one v.holds holds in
            let t = total_set (λ u. one_if u.holds) turns id v w at in
            let k = fits.each id v at in
            let none : book ≡ unknown = out.book unfilled in
            let no_changes : book.changes ≡ 0 = ap (λ z. z.changes) none in
            record {
              place = inl record {
                turn = turn;
                book = (b, ap (λ z. set z 0 (some (Some b))) out.out, refl);
                free = omega arith;
                filled = refl;
              };
              epoch = same_epoch ∙ (fits.epoch ∙ (no_changes ∙ sym may.changes));
              limits = λ row c.
                  let l = fits.limits row c in let e = same_limits row c in let m = may.marks row in
                  let low : known_mark book row ≡ 1 = ap (λ z. known_mark z row) none in omega arith;
              made = λ p.
                  let m = total_set (λ u. stands p u.made) turns id v w at in let o = fits.made p in
                  let a = stands-append p v.made (places 0 (length (told b).log)) in
                  let n = places_next p 0 (length (told b).log) in
                  let x : once_below p (length book.log) ≡ once_below p 0 =
                  ap (λ z. once_below p (length z.log)) none in
                  let x' = none_below p in
                  let z : 0 + length (told b).log ≡ length (told b).log = omega arith in
                  let y = ap (once_below p) z in omega arith;
              known = λ f. let m = total_at (λ u. one_if u.filled) (set turns id w) id w (here w) in omega arith;
              reached = reached_here (told b) (set turns id w) id w (here w) (omega arith) (omega arith) (omega arith)
                  (omega arith);
              each = each_apart (KnowsBook (told b) true) turns id w
                  record {
                    earlier = earlier_itself (told b);
                    sparing = λ f. sparing_itself (told b);
                    epoch = let e = k.epoch in let c = may.changes in omega arith;
                    opening = λ f. (refl, refl);
                    blank = λ e. absurd (false≢true (sym e));
                    made = λ p h.
                        let a = stands-append p v.made (places 0 (length (told b).log)) in
                        let none_yet : stands p v.made ≡ 0 = nothing_made p in
                        let l = places_low p 0 (length (told b).log) (omega arith) in omega arith;
                    one = earlier_first v.one (told b) (subst (Earlier v.one) none k.one);
                    other = earlier_first v.other (told b) (subst (Earlier v.other) none k.other);
                  }
                  (λ j u e n. subst (KnowsBook (told b) true) (sym (alone j u e n)) (ended_knows (told b) true));
            }
          where
            nothing_made : (p : ℕ) → stands p v.made ≡ 0
            nothing_made p = zero_of (stands p v.made) (λ h.
                let k = fits.each id v at in let l = k.made p h in let z : length v.known.log ≡ 0 =
                ap (λ z. length z.log) (k.blank blank) in omega arith)

  -- a worker that is split off
  pub beginner_fits : (id : ℕ) (v : Turn) → get_elem? turns id ≡ some v
      → TurnFits told count words homes (turns ++ beginner v ∷ []) book filled
  beginner_fits id v at =
      let w = beginner v in
      let t = total-append (λ u. one_if u.holds) turns (w ∷ []) in
      record {
        place = ⊎_elim (λ h. inl record {
          turn = h.turn;
          book = h.book;
          free = let f = h.free in omega arith;
          filled = h.filled;
        })
            (λ k. inr
            (⊎_elim (λ h. inl record {
              turn = h.turn;
              none = h.none;
              free = let f = h.free in omega arith;
              filled = h.filled;
              book = h.book;
            })
            (λ o. inr record {
              turn = o.turn;
              out = o.out;
              held = let f = o.held in omega arith;
              holder = each_snoc (λ u. u.holds ≡ true → u.known ≡ book) turns w (λ h. absurd (false≢true h)) o.holder;
              book = o.book;
            }) k)) fits.place;
        epoch = fits.epoch;
        limits = fits.limits;
        made = λ p. let m = total-append (λ u. stands p u.made) turns (w ∷ []) in let o = fits.made p in omega arith;
        known = λ f. let m = total-append (λ u. one_if u.filled) turns (w ∷ []) in let o = fits.known f in omega arith;
        reached = reached_snoc book turns w fits.reached;
        each = each_snoc (KnowsBook book filled) turns w (beginner_knows book filled v (fits.each id v at)) fits.each;
      }

  -- two workers that become one
  module _ (id other : ℕ) (v w : Turn) (at : get_elem? turns id ≡ some v) (there : get_elem? turns other ≡ some w)
      (apart : other ≢ id) (free : w.holds ≡ false) where
    abbrev pub united : List Turn
    united = set (set turns id (merged v w)) other no_turn

    united_total : (f : Turn → ℕ) → f no_turn ≡ 0 → total f united + f v + f w ≡ total f turns + f (merged v w)
    united_total f z =
        let e : get_elem? (set turns id (merged v w)) other ≡ some w =
        set_else turns id other (merged v w) apart ∙ there in
        let a = total_set f turns id v (merged v w) at in
        let b = total_set f (set turns id (merged v w)) other w no_turn e in omega arith

    united_each : (P : Turn → Type 0) → P no_turn → P (merged v w)
        → ((j : ℕ) (u : Turn) → get_elem? turns j ≡ some u → P u) → (j : ℕ) (u : Turn) → get_elem? united j ≡ some u
        → P u
    united_each P none both each =
        each_set P (set turns id (merged v w)) other no_turn none (each_set P turns id (merged v w) both each)

    -- what both knew, and v alone where it holds the turn
    abbrev known_of : Bool → Bool → Known
    known_of h f = if h then v.known else later (if f then v.known.opening else w.known.opening) v.known w.known

    known_holding : (h : Bool) → v.holds ≡ h → h ≡ true → known_of h v.filled ≡ book
    known_holding true e k = holder_knows id v at e
    known_holding false e k = absurd (false≢true k)

    earlier_both : (h : Bool) → Earlier (known_of h v.filled) book
    earlier_both true = (fits.each id v at).earlier
    earlier_both false = earlier_later (if v.filled then v.known.opening else w.known.opening) v.known w.known book
        (fits.each id v at).earlier (fits.each other w there).earlier

    is_true : (f : Bool) → (f ≡ false → ⊥) → f ≡ true
    is_true true n = refl
    is_true false n = absurd (n refl)

    -- who knows a line knows that a book was filled
    filled_by : (u : Turn) → KnowsBook book filled u → 0 < length u.known.log → u.filled ≡ true
    filled_by u k h = is_true u.filled (λ e. let z : length u.known.log ≡ 0 = ap (λ z. length z.log) (k.blank e) in
        omega arith)

    sparing_both : (h : Bool) → v.holds ≡ h → (v.filled || w.filled) ≡ true → IsSparing (known_of h v.filled) book
    sparing_both true e full = subst (λ z. IsSparing z book) (sym (holder_knows id v at e)) (sparing_itself book)
    sparing_both false e full =
        let k = fits.each id v at in let j = fits.each other w there in
        sparing_later (if v.filled then v.known.opening else w.known.opening) v.known w.known book
        (λ le. mine v.filled w.filled refl refl full le) (λ lt. j.sparing (filled_by w j (omega arith)))
        (calm v.filled w.filled refl refl full)
      where
        mine : (f g : Bool) → v.filled ≡ f → w.filled ≡ g → (f || g) ≡ true → length w.known.log ≤ length v.known.log
            → book.put_faults + pieces v.known.log ≤ max v.known.put_faults w.known.put_faults + pieces book.log
        mine true g ef eg full le = let h = ((fits.each id v at).sparing ef).0 in omega arith
        mine false true ef eg full le =
            let z : length v.known.log ≡ 0 = ap (λ z. length z.log) ((fits.each id v at).blank ef) in
            let a = no_pieces v.known.log z in let b = no_pieces w.known.log (omega arith) in
            let h = ((fits.each other w there).sparing eg).0 in omega arith
        mine false false ef eg full le = absurd (false≢true full)

        -- who knows nothing of a book knows of no put that failed
        none_failed : (u : Turn) → KnowsBook book filled u → u.filled ≡ false → u.known.put_faults ≡ 0
        none_failed u k e = ap (λ (z : Known). z.put_faults) (k.blank e)

        calm : (f g : Bool) → v.filled ≡ f → w.filled ≡ g → (f || g) ≡ true → Rose book.opening.faults book.faults
            → book.put_faults ≤ max v.known.put_faults w.known.put_faults → entries book.log ≤ book.standing
            → Rose book.opening.faults (max v.known.faults w.known.faults)
        calm true g ef eg full rose low all = elim (cases_lt v.known.put_faults w.known.put_faults) [
          | inr most ↦ rose_left book.opening.faults v.known.faults w.known.faults
              (((fits.each id v at).sparing ef).1 rose (omega arith) all)
          | inl less ↦ rose_right book.opening.faults v.known.faults w.known.faults
              (((fits.each other w there).sparing
              (is_true w.filled (λ e. let z = none_failed w (fits.each other w there) e in omega arith))).1 rose
              (omega arith) all)
        ]
        calm false true ef eg full rose low all =
            let z = none_failed v (fits.each id v at) ef in
            rose_right book.opening.faults v.known.faults w.known.faults
            (((fits.each other w there).sparing eg).1 rose (omega arith) all)
        calm false false ef eg full rose low all = absurd (false≢true full)

    opening_both : (h f g : Bool) → v.holds ≡ h → v.filled ≡ f → w.filled ≡ g → (f || g) ≡ true
        → (filled ≡ true) × ((known_of h f).opening ≡ book.opening)
    opening_both true true g eh ef eg k = (fits.each id v at).opening ef
    opening_both false true g eh ef eg k = (fits.each id v at).opening ef
    opening_both true false true eh ef eg k =
        (((fits.each other w there).opening eg).0, ap (λ z. z.opening) (holder_knows id v at eh))
    opening_both false false true eh ef eg k = (fits.each other w there).opening eg
    opening_both true false false eh ef eg k = absurd (false≢true k)
    opening_both false false false eh ef eg k = absurd (false≢true k)

    blank_both : (h f g : Bool) → v.filled ≡ f → w.filled ≡ g → (f || g) ≡ false → known_of h f ≡ unknown
    blank_both h true g ef eg k = absurd (false≢true (sym k))
    blank_both h false true ef eg k = absurd (false≢true (sym k))
    blank_both true false false ef eg k = (fits.each id v at).blank ef
    blank_both false false false ef eg k =
        let a : v.known ≡ unknown = (fits.each id v at).blank ef in let b : w.known ≡ unknown =
        (fits.each other w there).blank eg in
        λ i. later ((b i).opening) (a i) (b i)

    longer_both : (h : Bool) → v.holds ≡ h → (length v.known.log ≤ length (known_of h v.filled).log)
        × (length w.known.log ≤ length (known_of h v.filled).log)
    longer_both true e =
        let same : length v.known.log ≡ length book.log = ap (λ z. length z.log) (holder_knows id v at e) in
        let l = earlier_length w.known book (fits.each other w there).earlier in (omega arith, omega arith)
    longer_both false e = longer_length v.known.log w.known.log

    made_both : (p : ℕ) → 0 < stands p (v.made ++ w.made) → p < length (merged v w).known.log
    made_both p h =
        let a = stands-append p v.made w.made in let l = longer_both v.holds refl in
        go (stands p v.made) (stands p w.made) (omega arith) (λ s. let m = (fits.each id v at).made p s in
        omega arith) (λ s. let m = (fits.each other w there).made p s in omega arith)
      where
        go : (x y : ℕ) → 0 < x + y → (0 < x → p < length (known_of v.holds v.filled).log)
            → (0 < y → p < length (known_of v.holds v.filled).log) → p < length (known_of v.holds v.filled).log
        go zero y h f g = g (omega arith)
        go (suc x) y h f g = f (omega arith)

    merged_knows : KnowsBook book filled (merged v w)
    merged_knows =
        record {
          earlier = earlier_both v.holds;
          sparing = sparing_both v.holds refl;
          epoch = let a = (fits.each id v at).epoch in let b = (fits.each other w there).epoch in omega arith;
          opening = opening_both v.holds v.filled w.filled refl refl refl;
          blank = blank_both v.holds v.filled w.filled refl refl;
          made = made_both;
          one = (fits.each id v at).earlier;
          other = (fits.each other w there).earlier;
        }

    -- together they know each count at least as high
    counts_both : (f : Known → ℕ) → (f v.known ≤ f book) → (f w.known ≤ f book) → (h : Bool) → v.holds ≡ h
        → (f v.known ≤ f (later (if v.filled then v.known.opening else w.known.opening) v.known w.known))
        → (f w.known ≤ f (later (if v.filled then v.known.opening else w.known.opening) v.known w.known))
        → (f v.known ≤ f (known_of h v.filled)) × (f w.known ≤ f (known_of h v.filled))
    counts_both f a b true e p q = let same = ap f (holder_knows id v at e) in (omega arith, omega arith)
    counts_both f a b false e p q = (p, q)

    united_reach : (f : Turn → ℕ) (n : ℕ) → (f v ≤ f (merged v w)) × (f w ≤ f (merged v w)) → n ≤ greatest f turns
        → n ≤ greatest f united
    united_reach f n both reached = le_trans reached (greatest_least f turns _ (λ j u e. dite (ℕ_discrete j id)
        (λ same. let is : u ≡ v = some-injective u v (sym e ∙ (ap (get_elem? turns) same ∙ at)) in
        subst (λ z. f z ≤ greatest f united) (sym is) (le_trans both.0 here_united))
        (λ not_id. dite (ℕ_discrete j other)
        (λ same. let is : u ≡ w = some-injective u w (sym e ∙ (ap (get_elem? turns) same ∙ there)) in
        subst (λ z. f z ≤ greatest f united) (sym is) (le_trans both.1 here_united))
        (λ not_other.
        greatest_at f united j u (set_else (set turns id (merged v w)) other j no_turn not_other
        ∙ (set_else turns id j (merged v w) not_id ∙ e))))))
      where
        here_united : f (merged v w) ≤ greatest f united
        here_united = greatest_at f united id (merged v w)
            (set_else (set turns id (merged v w)) other id no_turn (λ e. apart (sym e))
            ∙ set_here turns id (merged v w) (at_below turns id v at))

    united_reached : IsReached book united
    united_reached =
        let k = (fits.each id v at).earlier in let j = (fits.each other w there).earlier in
        let r = fits.reached in
        record {
          changes = united_reach (λ u. u.known.changes) book.changes
              (counts_both (λ z. z.changes) k.changes j.changes v.holds refl (omega arith) (omega arith)) r.changes;
          faults = united_reach (λ u. u.known.faults) book.faults
              (counts_both (λ z. z.faults) k.faults j.faults v.holds refl (omega arith) (omega arith)) r.faults;
          standing = united_reach (λ u. u.known.standing) book.standing
              (counts_both (λ z. z.standing) k.standing j.standing v.holds refl (omega arith) (omega arith)) r.standing;
          put_faults = united_reach (λ u. u.known.put_faults) book.put_faults
              (counts_both (λ z. z.put_faults) k.put_faults j.put_faults v.holds refl (omega arith) (omega arith))
              r.put_faults;
        }

    none_left : (f g : Bool) (t total' : ℕ) → total' + one_if f + one_if g ≡ t + one_if (f || g)
        → one_if f + one_if g ≤ t → 0 < t → 0 < total'
    none_left true true t n e l h = omega arith
    none_left true false t n e l h = omega arith
    none_left false true t n e l h = omega arith
    none_left false false t n e l h = omega arith

    pub united_fits : TurnFits told count words homes united book filled
    united_fits =
        let t = united_total (λ u. one_if u.holds) refl in
        let z = is_zero w.holds free in
        record {
          place = ⊎_elim (λ h. inl record {
            turn = h.turn;
            book = h.book;
            free = let f = h.free in
                omega arith;
            filled = h.filled;
          })
              (λ k. inr
              (⊎_elim (λ h. inl record {
                turn = h.turn;
                none = h.none;
                free = let f = h.free in omega arith;
                filled = h.filled;
                book = h.book;
              })
              (λ o. inr record {
                turn = o.turn;
                out = o.out;
                held = let f = o.held in omega arith;
                holder = united_each (λ u. u.holds ≡ true → u.known ≡ book) (λ h. absurd (false≢true h))
                    (known_holding v.holds refl) o.holder;
                book = o.book;
              }) k)) fits.place;
          epoch = fits.epoch;
          limits = fits.limits;
          made = λ p. let m = united_total (λ u. stands p u.made) refl in let a = stands-append p v.made w.made in
              let o = fits.made p in omega arith;
          known = λ f.
              none_left v.filled w.filled (fillers turns) (fillers united) (united_total (λ u. one_if u.filled) refl)
              (total_two (λ u. one_if u.filled) turns id other v w at there (λ e. apart (sym e))) (fits.known f);
          reached = united_reached;
          each = united_each (KnowsBook book filled) (ended_knows book filled) merged_knows fits.each;
        }
