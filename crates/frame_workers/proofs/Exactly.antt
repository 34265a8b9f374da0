-- Records that moved the words as their answers tell: one after the other, and by one worker that was split off and
-- joined.
use Rattle.std.proofs.Common.{◌≡◌, ℕ, suc, ◌+◌, ◌<◌, ◌≤◌, max, Bool, true, false, nat_lt, if◌then◌else◌, List, [], ◌∷◌}
use Rattle.std.proofs.Common.{◌++◌, length, Some, None, refl, sym, ◌∙◌, ap, subst, inl, inr, arith, append-nil}
use Rattle.std.proofs.Common.{length-append}
use Rattle.counter_table.specs.declared.view.View.{View}
use Rattle.counter_table.specs.Known.{Earlier, entries, later, longer}
use Rattle.counter_table.specs.Numbers.{amount}
use Rattle.counter_table.specs.Turn.{epoch_seen, stands}
use Rattle.counter_table.specs.declared.view.Known.{Known}
use Rattle.counter_table.specs.declared.view.Opening.{Opening}
use Rattle.sdls_base.specs.declared.entry.Entry.{Entry}
use Rattle.sdls_base.specs.declared.entry.Logged.{Logged}
use Rattle.run_promise.specs.Log.{entries_of}
use Rattle.record_io.specs.declared.item_cursor.Record.{Record}
use Rattle.record_io.specs.declared.answers.Answer.{Answer}
use Rattle.run_promise.specs.Call.{Begin}
use Rattle.law_workers.specs.Views.{KnowsMore, entries_in, keeping, log_of, starting, meeting}
use Rattle.run_promise.specs.Deed.{Deed, deed_of}
use Rattle.law_workers.specs.Deeds.{Does, deeds_of}
use Rattle.law_workers.specs.Lanes.{giving_shares}
use Rattle.law_workers.proofs.Joining.{top_both}
use Rattle.run_promise.specs.Words.{Move}
use Rattle.law_workers.specs.Exact.{words_in}
use Rattle.law_workers.specs.InTurn.{IsLeftBehind, IsLevel, ServedBetween, stood_in}
use Rattle.law_workers.specs.Alone.{MovedInTurn, ServedAlone}
use Rattle.law_workers.proofs.Turns.{all_on, level_on, log_low, row_on, backed_on, stood_on}
use Rattle.law_workers.proofs.Alone.{below_log, exact_seen, seen_moves, turns_more, turns_then}
use Rattle.law_calls.specs.Answering.{AnsweredExactly}
use Rattle.frame_workers.proofs.Steps.{deeds_step, deeds_short}

amount_both : (row : ℕ) (a b : List (ℕ × ℕ)) → amount row (a ++ b) ≡ amount row a + amount row b
amount_both row [] b = omega arith
amount_both row (p ∷ a) b = let h = amount_both row a b in omega arith

deeds_counted : (s : ℕ) (ts : List Record) (xs : List Answer) → length xs ≡ length ts
    → length (deeds_of s ts xs) ≡ length ts
deeds_counted s [] xs h = refl
deeds_counted s (t ∷ ts) [] h = absurd (omega arith)
deeds_counted s (t ∷ ts) (x ∷ xs) h = let g = deeds_counted s ts xs (omega arith) in ap suc g

module _ (begin : Begin) (s : ℕ) (u v w : View) (ts : List Record) (xs : List Answer) (size : length xs ≡ length ts)
    (does : Does begin u v ts (deeds_of s ts xs)) (grows : KnowsMore v w)
    (moved : MovedInTurn begin u v (length ts) (deeds_of s ts xs)) where
  -- one record more, with its answer
  pub next_exactly : (r : Record) (a : Answer) → AnsweredExactly begin s v w r (Some a)
      → MovedInTurn begin u w (length (ts ++ r ∷ [])) (deeds_of s (ts ++ r ∷ []) (xs ++ a ∷ []))
  next_exactly r a one =
      subst (λ (n : ℕ). MovedInTurn begin u w n (deeds_of s (ts ++ r ∷ []) (xs ++ a ∷ [])))
      (sym (length-append ts (r ∷ [])))
      (subst (MovedInTurn begin u w (length ts + 1)) (sym (deeds_step s ts xs r a size))
      (turns_then begin u v w ts (length ts) 1 (deeds_of s ts xs) (deed_of s r a ∷ []) does grows
      (deeds_counted s ts xs size) moved one))

  -- and one without: those behind it are not handled
  pub stop_exactly : (us : List Record) (r : Record) → AnsweredExactly begin s v w r None
      → MovedInTurn begin u w (length (ts ++ r ∷ us)) (deeds_of s (ts ++ r ∷ us) xs)
  stop_exactly us r none =
      let counted = deeds_counted s ts xs size in
      let long = length-append ts (r ∷ us) in
      let both : MovedInTurn begin u w (length ts + 1) (deeds_of s ts xs) =
      subst (MovedInTurn begin u w (length ts + 1)) (append-nil (deeds_of s ts xs))
      (turns_then begin u v w ts (length ts) 1 (deeds_of s ts xs) [] does grows counted moved none) in
      subst (MovedInTurn begin u w (length (ts ++ r ∷ us))) (sym (deeds_short s ts (r ∷ us) xs size))
      (turns_more begin u w (length ts + 1) (length (ts ++ r ∷ us)) (deeds_of s ts xs) (omega arith) (omega arith) both)

-- a worker that splits one off and joins it at once
abbrev pub looked : View → View
looked v = meeting (keeping v) (starting v)

-- a log and a count that were known twice
one_of : {X : Type 0} (b : Bool) (x : X) → (if b then x else x) ≡ x
one_of true x = refl
one_of false x = refl

log_twice : (b : Bool) (o : Opening) (k : Known) → (if b then k else later o k k).log ≡ k.log
log_twice true o k = refl
log_twice false o k = one_of (nat_lt (length k.log) (length k.log)) k.log

faults_twice : (b : Bool) (o : Opening) (k : Known) → (if b then k else later o k k).faults ≡ k.faults
faults_twice true o k = refl
faults_twice false o k = omega arith

standing_twice : (b : Bool) (o : Opening) (k : Known) → (if b then k else later o k k).standing ≡ k.standing
standing_twice true o k = refl
standing_twice false o k = omega arith

put_faults_twice : (b : Bool) (o : Opening) (k : Known) → (if b then k else later o k k).put_faults ≡ k.put_faults
put_faults_twice true o k = refl
put_faults_twice false o k = omega arith

changes_twice : (b : Bool) (o : Opening) (k : Known) → (if b then k else later o k k).changes ≡ k.changes
changes_twice true o k = refl
changes_twice false o k = omega arith

opening_twice : (b f : Bool) (k : Known) → (if b then k else later (if f then k.opening else k.opening) k k).opening
    ≡ k.opening
opening_twice true f k = refl
opening_twice false f k = one_of f k.opening

earlier_twice : (b : Bool) (o : Opening) (k : Known) → Earlier k (if b then k else later o k k)
earlier_twice b o k =
    let log : (if b then k else later o k k).log ≡ k.log = log_twice b o k in
    let changes = changes_twice b o k in
    let faults = faults_twice b o k in
    let standing = standing_twice b o k in
    let puts = put_faults_twice b o k in
    record {
      log = ([], log ∙ sym (append-nil k.log));
      changes = omega arith;
      faults = omega arith;
      standing = omega arith;
      put_faults = omega arith;
      stopped = λ risen. ap entries log;
      stood = λ risen. standing;
    }

looked_log : (v : View) → log_of (looked v) ≡ log_of v
looked_log v = log_twice v.turn.holds (if v.turn.filled then v.turn.known.opening else v.turn.known.opening)
    v.turn.known

looked_epoch : (v : View) → epoch_seen (looked v).turn ≡ epoch_seen v.turn
looked_epoch v =
    let c : (looked v).turn.known.changes ≡ v.turn.known.changes =
    changes_twice v.turn.holds (if v.turn.filled then v.turn.known.opening else v.turn.known.opening) v.turn.known in
    omega arith

-- what two knew together is no longer than what one of them knew
longer_low : (a b : List Logged) → length (longer a b) ≤ max (length a) (length b)
longer_low a b = by_test (nat_lt (length a) (length b))
  where
    by_test : (t : Bool) → length (if t then b else a) ≤ max (length a) (length b)
    by_test true = omega arith
    by_test false = omega arith

later_low : (h : Bool) (o : Opening) (k l : Known) → length (if h then k else later o k l).log
    ≤ max (length k.log) (length l.log)
later_low true o k l = omega arith
later_low false o k l = longer_low k.log l.log

module _ (begin : Begin) (n : ℕ) (base : View) where
  -- no lane was split off
  pub none_exactly : ServedAlone begin base (looked (giving_shares n base)) 0 []
  none_exactly = record {
    moved = record {
      made = [];
      made_is = refl;
      last = [];
      few = omega arith;
      each = λ same. refl;
      exact = record {
        moves = [];
        told = tt;
        reserves = λ place in'. absurd (omega arith);
        added = λ row. let h = amount_both row base.numbers.added [] in omega arith;
        between = λ k d low. absurd (omega arith);
        grown = λ row. let t = top_both row base.numbers.nexts base.numbers.nexts in omega arith;
        exact = λ still. tt;
      };
    };
    spent = [];
    between = record {
      spent_is = refl;
      level = λ level. level_on base (looked (giving_shares n base)) looked_earlier looked_opening same
          (let e = looked_epoch (giving_shares n base) in omega arith) level;
      served = λ all level backed. (
        [],
        [],
        stood_on base (looked (giving_shares n base)) looked_earlier looked_opening same level
            ∙ sym (append-nil (stood_in base)),
        λ failed tells. (
          refl,
          λ not. tells
              (λ all. not (all_on base (looked (giving_shares n base)) looked_earlier looked_opening same all)),
        ),
        (λ none. refl, inl refl),
      );
    };
  } where
    same : entries_in (looked (giving_shares n base)) ≡ entries_in base
    same = ap entries_of (looked_log (giving_shares n base))

    looked_opening : (looked (giving_shares n base)).turn.known.opening ≡ base.turn.known.opening
    looked_opening = opening_twice base.turn.holds base.turn.filled base.turn.known

    looked_earlier : Earlier base.turn.known (looked (giving_shares n base)).turn.known
    looked_earlier = earlier_twice base.turn.holds (if base.turn.filled then base.turn.known.opening
        else base.turn.known.opening) base.turn.known

  -- one lane was, and its worker joined
  pub joined_exactly : (w : View) (ts : List Record) (ds : List Deed) (count : ℕ) → Does begin (starting base) w ts ds
      → KnowsMore w (looked (meeting (giving_shares n base) w)) → MovedInTurn begin (starting base) w count ds
      → ServedAlone begin base (looked (meeting (giving_shares n base) w)) count ds
  joined_exactly w ts ds count does grows h = record {
    moved = record {
      made = h.moved.made;
      made_is = append-nil (base.turn.made ++ w.turn.made) ∙ ap (λ (l : List ℕ). base.turn.made ++ l) h.moved.made_is;
      last = h.moved.last;
      few = h.moved.few;
      each = h.moved.each;
      exact = exact_seen begin (starting base) w base (looked (meeting (giving_shares n base) w)) h.moved.made ds
          h.moved.last h.moved.exact below grows from to more;
    };
    spent = h.spent;
    between =
        subst (λ (moves : List Move). ServedBetween begin base (looked (meeting (giving_shares n base) w)) h.moved.made
        h.spent ds moves h.moved.last)
        (sym (seen_moves begin (starting base) w base (looked (meeting (giving_shares n base) w)) h.moved.made ds
        h.moved.last h.moved.exact below grows from to more))
        (record {
          spent_is = append-nil (base.numbers.spent ++ w.numbers.spent)
              ∙ ap (λ (l : List (ℕ × ℕ)). base.numbers.spent ++ l) h.in_turn.between.spent_is;
          level = λ level. level_on w (looked (meeting (giving_shares n base) w)) grows.earlier grows.opening
              same_entries grows.epochs
              (h.in_turn.between.level (level_start level));
          served = λ all level backed.
              let level_w = h.in_turn.between.level (level_start level) in
              let (own, rest, is, served, behind) = h.in_turn.between.served
              (λ place low high. all place low (let s = ap length same_log in omega arith)) (level_start level)
              (backed_on begin w (looked (meeting (giving_shares n base) w)) h.spent
              (row_on begin w (looked (meeting (giving_shares n base) w)) grows)
              (stood_on w (looked (meeting (giving_shares n base) w)) grows.earlier grows.opening same_entries level_w)
              grows.epochs backed) in (
                own,
                rest,
                stood_on w (looked (meeting (giving_shares n base) w)) grows.earlier grows.opening same_entries level_w
                    ∙ is,
                λ failed tells.
                    let (one, last_told) = served failed tells in (
                      one,
                      λ not. last_told
                          (λ all. not (all_on w (looked (meeting (giving_shares n base) w)) grows.earlier grows.opening
                          same_entries all)),
                    ),
                left_joined rest behind,
              );
        });
  }
    where
      below : (place : ℕ) → 0 < stands place h.moved.made → place < length (log_of w)
      below = below_log begin (starting base) w ts ds does h.moved.made h.moved.made_is

      from : (row : ℕ) → words_in base row ≡ words_in (starting base) row
      from row = refl

      to : (row : ℕ) → words_in (looked (meeting (giving_shares n base) w)) row ≡ words_in w row
      to row =
          let a = top_both row base.numbers.nexts w.numbers.nexts in
          let b = top_both row (base.numbers.nexts ++ w.numbers.nexts) (base.numbers.nexts ++ w.numbers.nexts) in
          let g = does.grows.nexts row in omega arith

      more : (row : ℕ) → amount row (looked (meeting (giving_shares n base) w)).numbers.added
          + amount row (starting base).numbers.added
          ≡ amount row base.numbers.added + amount row w.numbers.added
      more row =
          let a = amount_both row base.numbers.added w.numbers.added in
          let b = amount_both row (base.numbers.added ++ w.numbers.added) [] in omega arith

      -- the joined worker knows the log that the lane's worker knew
      same_log : log_of (looked (meeting (giving_shares n base) w)) ≡ log_of w
      same_log =
          let first = log_low (starting base) w does.grows in
          let z = ap length (looked_log (meeting (giving_shares n base) w)) in
          let m : length (log_of (meeting (giving_shares n base) w)) ≤ max (length (log_of base)) (length (log_of w)) =
          later_low base.turn.holds (if base.turn.filled then base.turn.known.opening else w.turn.known.opening)
          base.turn.known w.turn.known in
          let (rest, is) = grows.earlier.log in
          let size : length (log_of (looked (meeting (giving_shares n base) w))) ≡ length (log_of w) + length rest =
          ap length is ∙ length-append (log_of w) rest in
          let none : rest ≡ [] = empty rest (omega arith) in
          is ∙ ap (λ (l : List Logged). log_of w ++ l) none ∙ append-nil (log_of w)
        where
          empty : (l : List Logged) → length l ≡ 0 → l ≡ []
          empty [] h = refl
          empty (x ∷ l) h = absurd (omega arith)

      same_entries : entries_in (looked (meeting (giving_shares n base) w)) ≡ entries_in w
      same_entries = ap entries_of same_log

      -- the worker that was split off knew what the first one did
      level_start : IsLevel base → IsLevel (starting base)
      level_start level = record { few = level.few; all = level.all; epoch = level.epoch }

      left_joined : (rest : List Entry) → IsLeftBehind w h.moved.last rest
          → IsLeftBehind (looked (meeting (giving_shares n base) w)) h.moved.last rest
      left_joined rest (none, inl empty) = (none, inl empty)
      left_joined rest (none, inr (few, all)) = (
        none,
        inr (
          few,
          all_on w (looked (meeting (giving_shares n base) w)) grows.earlier grows.opening same_entries
              all,
        ),
      )
