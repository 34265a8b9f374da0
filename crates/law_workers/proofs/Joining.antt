-- What one worker did after another, and what two workers did at once.
use Rattle.std.proofs.Common.{◌≡◌, ◌⊎◌, ℕ, ◌+◌, ◌<◌, ◌≤◌, List, [], ◌∷◌, ◌++◌, length, take, Some, Bool, false, true}
use Rattle.std.proofs.Common.{refl, sym, ◌∙◌, ap, subst, inl, inr, arith, le_trans, append_assoc, append-nil}
use Rattle.std.proofs.Common.{if◌then◌else◌, ◌||◌, max, IsTrue, ◌&&◌, nat_le, ◌-◌}
use Rattle.std.specs.List.{slice_index_or}
use Rattle.std.proofs.lemmas.Bool.{cases_lt}
use Rattle.std.proofs.lemmas.List.{take-append-le, take_all}
use Rattle.sdls_base.specs.Numbers.{tally}
use Rattle.sdls_base.specs.declared.entry.Logged.{Logged}
use Rattle.counter_table.specs.declared.view.Opening.{Opening}
use Rattle.counter_table.specs.declared.view.Known.{Known}
use Rattle.counter_table.specs.declared.view.View.{View}
use Rattle.counter_table.specs.Known.{Earlier, entries, IsSparing, pieces, later}
use Rattle.sdls_outside.specs.Faults.{Rose}
use Rattle.counter_table.specs.Numbers.{top}
use Rattle.counter_table.specs.Turn.{stands, epoch_seen}
use Rattle.record_io.specs.declared.item_cursor.Record.{Record}
use Rattle.run_promise.specs.Log.{entries_of}
use Rattle.run_promise.specs.Answers.{Uses}
use Rattle.run_promise.specs.Fits.{Fits}
use Rattle.run_promise.specs.Call.{Begin}
use Rattle.law_workers.specs.Views.{Gains, no_gains, both_gains, log_of, entries_in, IsBetween, IsRow, KnowsMore}
use Rattle.law_workers.specs.Views.{Gained, keeping, starting, meeting, Meets}
use Rattle.law_workers.specs.Work.{Works, Worked}
use Rattle.run_promise.specs.Deed.{Deed, StandsBehind, InTurn, is_protected, tells_entry, tells_epoch}
use Rattle.law_workers.specs.Deeds.{StandsWithin, Agree, MadeLast, IsSpent, Answers, Does, AtOnce, AllBoth, course_in}
use Rattle.law_workers.proofs.Logs.{stands_both, times_both, piece_count_both, last_once, entries_low}
use Rattle.law_workers.proofs.Faults.{fault_rose, fault_tells}
use Rattle.law_workers.proofs.Working.{widen_works, widen_answers, merge_works, merge_answers, merge_unmade}
use Rattle.law_workers.proofs.Working.{widen_unmade, row_later, told_later, closed}
use Rattle.record_io.specs.declared.reader.RecordKind.{RecordKind}
use Rattle.record_io.specs.declared.reader.RecordKind.TheVariants.{Protect, Open, Command, Monitor}
use Rattle.record_io.specs.declared.code.TheConstants.{EXHAUSTED, SITE_FAULT}
use Rattle.frame_checks.specs.ProtectingFrames.{has_channel}
use Rattle.unit_state.specs.History.{epoch_after}

pub top_both : (row : ℕ) (a b : List (ℕ × ℕ)) → top row (a ++ b) ≡ max (top row a) (top row b)
top_both row [] b = omega arith
top_both row (p ∷ a) b = let h = top_both row a b in omega arith

earlier_itself : (k : Known) → Earlier k k
earlier_itself k = record {
  log = ([], sym (append-nil k.log));
  changes = omega arith;
  faults = omega arith;
  standing = omega arith;
  put_faults = omega arith;
  stopped = λ r. refl;
  stood = λ r. refl;
}

earlier_further : (a b c : Known) → Earlier a b → Earlier b c → c.opening ≡ b.opening → Earlier a c
earlier_further a b c ab bc same =
    record {
      log = (
        ab.log.0 ++ bc.log.0,
        bc.log.1 ∙ (ap (λ (z : List Logged). z ++ bc.log.0) ab.log.1 ∙ append_assoc a.log ab.log.0 bc.log.0),
      );
      changes = le_trans ab.changes bc.changes;
      faults = le_trans ab.faults bc.faults;
      standing = le_trans ab.standing bc.standing;
      put_faults = le_trans ab.put_faults bc.put_faults;
      stopped = λ r.
          let o : c.opening.faults ≡ b.opening.faults = ap (λ (z : Opening). z.faults) same in
          let f = ab.faults in
          let r' : Rose b.opening.faults a.faults = subst (λ (z : ℕ). Rose z a.faults) o r in
          bc.stopped (omega arith) ∙ ab.stopped r';
      stood = λ r.
          let o : c.opening.faults ≡ b.opening.faults = ap (λ (z : Opening). z.faults) same in
          let f = ab.faults in
          let r' : Rose b.opening.faults a.faults = subst (λ (z : ℕ). Rose z a.faults) o r in
          bc.stood (omega arith) ∙ ab.stood r';
    }

sparing_further : (a b c : Known) → Earlier a b → Earlier b c → c.opening ≡ b.opening → IsSparing a b → IsSparing b c
    → IsSparing a c
sparing_further a b c first next same ab bc =
    let one = ab.0 in
    let two = bc.0 in
    let f = first.put_faults in
    let n = next.put_faults in (
      omega arith,
      λ rose low all.
          let o : c.opening.faults ≡ b.opening.faults = ap (λ (z : Opening). z.faults) same in
          let mid : Rose c.opening.faults b.faults = bc.1 rose (omega arith) all in
          let log = next.stopped mid in
          let stood = next.stood mid in
          subst (λ (z : ℕ). Rose z a.faults) (sym o)
          (ab.1 (subst (λ (z : ℕ). Rose z b.faults) o mid) (omega arith) (omega arith)),
    )

-- of two counts of which the greater rose, one rose
rose_either : (before one other : ℕ) → Rose before (max one other) → Rose before one ⊎ Rose before other
rose_either before one other rose = elim (cases_lt one other) [
  | inl less ↦ inr (omega arith)
  | inr more ↦ inl (omega arith)
]

-- a front of a log has no more pieces
pieces_front : (a b : Known) → Earlier a b → pieces a.log ≤ pieces b.log
pieces_front a b e =
    let whole : pieces b.log ≡ pieces (a.log ++ e.log.0) = ap pieces e.log.1 in
    let parts = piece_count_both a.log e.log.0 in omega arith

pub grows_itself : (v : View) → KnowsMore v v
grows_itself v = record {
  nexts = λ r. omega arith;
  earlier = earlier_itself v.turn.known;
  opening = refl;
  epochs = omega arith;
}

pub grows_further : (u v w : View) → KnowsMore u v → KnowsMore v w → KnowsMore u w
grows_further u v w a b = record {
  nexts = λ r. le_trans (a.nexts r) (b.nexts r);
  earlier = earlier_further u.turn.known v.turn.known w.turn.known a.earlier b.earlier b.opening;
  opening = b.opening ∙ a.opening;
  epochs = le_trans a.epochs b.epochs;
}

-- nothing was done
gained_nothing : (v : View) → Gained v v no_gains
gained_nothing v = record {
  drawn = sym (append-nil _);
  spent = sym (append-nil _);
  raised = sym (append-nil _);
  added = sym (append-nil _);
  made = sym (append-nil _);
  shares = refl;
  holds = refl;
  filled = refl;
}

works_nothing : (begin : Begin) (v : View) (tasks : List Record) → Works begin v v no_gains tasks
works_nothing begin v tasks = record {
  made = λ x l. absurd (omega arith);
  legal = λ x l. absurd (omega arith);
  one_entry = λ i. omega arith;
  reserves = omega arith;
  few_drawn = λ r. omega arith;
  drawn = λ r n l. absurd (omega arith);
  spent = λ r n. omega arith;
  raised = λ k d l. absurd (omega arith);
}

no_answers : (begin : Begin) (v w : View) (gains : Gains) → Answers begin v w gains []
no_answers begin v w gains = record {
  fit = λ k d l. absurd (omega arith);
  stand = λ k d l. absurd (omega arith);
  agree = λ k d l. absurd (omega arith);
  used = λ k d l. absurd (omega arith);
  failed = λ k d l. absurd (omega arith);
}

pub does_nothing : (begin : Begin) (v : View) (tasks : List Record) → Does begin v v tasks []
does_nothing begin v tasks = record {
  gains = no_gains;
  gained = gained_nothing v;
  grows = grows_itself v;
  sparing = (omega arith, λ rose low all. rose);
  works = works_nothing begin v tasks;
  answers = no_answers begin v v no_gains;
  unmade = λ k d l. absurd (omega arith);
}

pub nothing_gains : (begin : Begin) (v : View) (tasks : List Record) → (does_nothing begin v tasks).gains ≡ no_gains
unfolding does_nothing
nothing_gains begin v tasks = refl

-- what was done without an answer
pub does_unanswered : (begin : Begin) (v w : View) (tasks : List Record) → Worked begin v w tasks
    → Does begin v w tasks []
does_unanswered begin v w tasks d = record {
  gains = d.gains;
  gained = d.gained;
  grows = d.grows;
  sparing = d.sparing;
  works = d.works;
  answers = no_answers begin v w d.gains;
  unmade = λ k e l. absurd (omega arith);
}

gained_then : (u v w : View) (g h : Gains) → Gained u v g → Gained v w h → Gained u w (both_gains g h)
gained_then u v w g h a b = record {
  drawn = b.drawn ∙ (ap (λ (l : List (ℕ × ℕ)). l ++ h.drawn) a.drawn ∙ append_assoc u.numbers.drawn g.drawn h.drawn);
  spent = b.spent ∙ (ap (λ (l : List (ℕ × ℕ)). l ++ h.spent) a.spent ∙ append_assoc u.numbers.spent g.spent h.spent);
  raised = b.raised ∙ (ap (λ (l : List (ℕ × ℕ)). l ++ h.raised) a.raised ∙ append_assoc u.numbers.raised g.raised
      h.raised);
  added = b.added ∙ (ap (λ (l : List (ℕ × ℕ)). l ++ h.added) a.added ∙ append_assoc u.numbers.added g.added h.added);
  made = b.made ∙ (ap (λ (l : List ℕ). l ++ h.made) a.made ∙ append_assoc u.turn.made g.made h.made);
  shares = b.shares ∙ a.shares;
  holds = b.holds ∙ a.holds;
  filled = b.filled ∙ a.filled;
}

same_row : (begin : Begin) (z : View) (key a b : ℕ) → IsRow begin z key a → IsRow begin z key b → a ≡ b
same_row begin z key a b p q = let e : Some a ≡ Some b = sym p ∙ q in cc

-- the epoch that a frame's answer tells is its position, and orders it
epoch_tells : (kind : RecordKind) (entered rest : Bool) (position epoch : ℕ) → IsTrue (is_protected kind && rest)
    → IsTrue (entered || (is_protected kind && rest)) × ((if is_protected kind then position else epoch) ≡ position)
epoch_tells Protect true rest position epoch told = (refl, refl)
epoch_tells Protect false rest position epoch told = (told, refl)
epoch_tells Open entered rest position epoch told = absurd (let t : false ≡ true = told in cc)
epoch_tells Command entered rest position epoch told = absurd (let t : false ≡ true = told in cc)
epoch_tells Monitor entered rest position epoch told = absurd (let t : false ≡ true = told in cc)

-- of the later record's answer to the earlier's
agree_back : (begin : Begin) (z : View) (d e : Deed) → d.task.index < e.task.index → Agree begin (entries_in z) d e
    → Agree begin (entries_in z) e d
agree_back begin z d e lt h = record {
  pairs = λ ne k n a b. h.pairs (λ s. ne (sym s)) k n b a;
  faults = λ ne a b. h.faults (λ s. ne (sym s)) b a;
  order = λ lt'. absurd (omega arith);
}

module _ (begin : Begin) (u v w : View) (ts us : List Record) (ds es : List Deed) (a : Does begin u v ts ds)
    (b : Does begin v w us es)
    (turns : AllBoth (λ (d e : Deed). d.task.index < e.task.index) ds es) where
  -- the epoch that a frame's answer tells was seen when it was handled
  seen_before : (d : Deed) → StandsWithin begin u v d → IsTrue (tells_epoch begin d)
      → d.answer.position ≤ epoch_seen v.turn
  seen_before d s told =
      let (ordered, same) =
      epoch_tells d.task.kind (tells_entry d) (has_channel begin.plan d.task.link d.task.octets
      && nat_le d.answer.code EXHAUSTED)
      d.answer.position (epoch_after (take d.answer.position (entries_in v))) told in
      let high = (s.epoch ordered).1 in omega arith

  -- a last entry that was made behind the earlier ones
  made_behind : MadeLast w b.gains → length (entries_in v) < length (entries_in w)
  made_behind q =
      let (from, to) = b.works.made q.place q.is_made in
      let rest : List Logged = b.grows.earlier.log.0 in
      let log_is : log_of w ≡ log_of v ++ rest = b.grows.earlier.log.1 in
      let here : take (length (log_of v)) (log_of w) ≡ log_of v =
      ap (take (length (log_of v))) log_is
      ∙ (take-append-le (length (log_of v)) (log_of v) rest (omega arith) ∙ take_all (length (log_of v)) (log_of v)
      (omega arith)) in
      let size : length (entries_of (take (length (log_of v)) (log_of w))) ≡ length (entries_in v) =
      ap (λ (l : List Logged). length (entries_of l)) here in
      let below = entries_low (log_of w) (length (log_of v)) q.place from in
      let last = q.last.0 in omega arith

  behind : (d e : Deed) → StandsWithin begin u v d → StandsWithin begin v w e
      → Fits (IsBetween begin u v) (course_in begin v) d.task d.answer
      → Fits (IsBetween begin v w) (course_in begin w) e.task e.answer
      → (e.answer.code ≡ SITE_FAULT → MadeLast w b.gains)
      → StandsBehind begin (entries_in w) d e
  behind d e s t fit later last = record {
    entries = λ p q. let x = s.entry p in let y = t.entry q in omega arith;
    counted = λ p q. let x = s.entry p in let y = t.counted q in omega arith;
    counted_before = λ p q. let x = s.counted p in let y = t.entry q in omega arith;
    counts = λ p q. let x = s.counted p in let y = t.counted q in omega arith;
    stopped = λ p q.
        let (code, tells) = fault_tells (IsBetween begin u v) (course_in begin v) d.task d.answer fit p in
        let risen = fault_rose (IsBetween begin u v) (course_in begin v) d.task d.answer fit p in
        let same = closed begin u u v w (grows_itself u) b.grows risen in
        let at : d.answer.position ≡ length (entries_in v) = tells.position_is in let y = t.counted q in omega arith;
    failed = λ p q.
        let (code, tells) = fault_tells (IsBetween begin v w) (course_in begin w) e.task e.answer later (inl q) in
        let at : e.answer.position ≡ length (entries_in w) = tells.position_is in
        let more = made_behind (last q) in let x = s.counted p in omega arith;
    ended = λ p.
        let risen = fault_rose (IsBetween begin u v) (course_in begin v) d.task d.answer fit p in
        let same = closed begin u u v w (grows_itself u) b.grows risen in
        (λ q. let y = t.entry q in omega arith, λ q. let more = made_behind (last q) in omega arith);
    epochs = λ p q. let x = s.epoch p in let y = t.epoch q in
        let same = told_later begin u u v w (grows_itself u) b.grows d s p in omega arith;
    epochs_before = λ p q. let low = seen_before d s p in let high = t.behind q in omega arith;
    numbers = λ lane c c' k k' keys.
        let (r, is, lo, hi) = s.number c k in let (r', is', lo', hi') = t.number c' k' in
        let same : r ≡ r' = same_row begin w e.answer.key r r'
        (subst (λ (key : ℕ). IsRow begin w key r) keys
        (row_later begin u u v w (grows_itself u) b.grows d.answer.key r is)) is' in
        let lo'' : top r v.numbers.nexts ≤ e.answer.number =
        subst (λ (q : ℕ). top q v.numbers.nexts ≤ e.answer.number) (sym same) lo' in
        omega arith;
  }

  apart_pairs : (d e : Deed) (k n : ℕ) → IsSpent begin v a.gains d → IsSpent begin w b.gains e → Uses d.answer k n
      → Uses e.answer k n → ⊥
  apart_pairs d e k n p q x y =
      let (r, few, is, in') = p k n x in let (r', few', is', in'') = q k n y in
      let same : r ≡ r' = same_row begin w k r r' (row_later begin u u v w (grows_itself u) b.grows k r is) is' in
      let i : 0 < tally r n b.gains.spent = subst (λ (s : ℕ). 0 < tally s n b.gains.spent) (sym same) in'' in
      let s1 = a.works.spent r n in let s2 = b.works.spent r n in
      let low = (a.works.drawn r n (omega arith)).1 in let high = (b.works.drawn r n (omega arith)).0 in omega arith

  apart_faults : MadeLast v a.gains → MadeLast w b.gains → ⊥
  apart_faults p q =
      let same = closed begin u u v w (grows_itself u) b.grows p.risen in let more = made_behind q in omega arith

  -- what was done one after the other
  pub does_then : Does begin u w (ts ++ us) (ds ++ es)
  does_then =
      let first : Works begin u w a.gains ts = widen_works begin u u v w (grows_itself u) b.grows a.gains ts a.works in
      let second : Works begin u w b.gains us = widen_works begin u v w w a.grows (grows_itself w) b.gains us b.works in
      let early : Answers begin u w a.gains ds =
      widen_answers begin u u v w (grows_itself u) b.grows a.gains ds (λ x h. (a.works.made x h).1) a.answers in
      let late : Answers begin u w b.gains es =
      widen_answers begin u v w w a.grows (grows_itself w) b.gains es (λ x h. (b.works.made x h).1) b.answers in
      let cross : AllBoth (Agree begin (entries_in w)) ds es = λ i d l j e m. record {
        pairs = λ ne k n. apart_pairs (slice_index_or ds i d) (slice_index_or es j e) k n (a.answers.used i d l)
            (b.answers.used j e m);
        faults = λ ne p q. apart_faults (a.answers.failed i d l p) (b.answers.failed j e m q);
        order = λ lt turn. behind _ _ (a.answers.stand i d l) (b.answers.stand j e m) (a.answers.fit i d l)
            (b.answers.fit j e m) (b.answers.failed j e m);
      } in
      record {
        gains = both_gains a.gains b.gains;
        gained = gained_then u v w a.gains b.gains a.gained b.gained;
        grows = grows_further u v w a.grows b.grows;
        sparing = sparing_further u.turn.known v.turn.known w.turn.known a.grows.earlier b.grows.earlier b.grows.opening
            a.sparing b.sparing;
        works = merge_works begin u w a.gains b.gains ts us first second;
        answers = merge_answers begin u w a.gains b.gains ds es early late cross
            (λ j e m i d l. agree_back begin w (slice_index_or ds i d) (slice_index_or es j e) (turns i d l j e m)
            (cross i d l j e m));
        unmade = merge_unmade begin u w a.gains b.gains ts us ds es first second
            (widen_unmade begin u u v w (grows_itself u) b.grows a.gains ts ds (λ x h. (a.works.made x h).1) a.unmade)
            b.unmade;
      }

  pub then_gains : does_then.gains ≡ both_gains a.gains b.gains
  unfolding does_then
  then_gains = refl

-- what is known after a join
pub known_after : (v w : View) → v.turn.holds ≡ false → v.turn.filled ≡ true
    → (meeting v w).turn.known ≡ later v.turn.known.opening v.turn.known w.turn.known
known_after v w free filled =
    ap (λ (h : Bool). if h then v.turn.known
    else later (if v.turn.filled then v.turn.known.opening else w.turn.known.opening) v.turn.known w.turn.known)
    free
    ∙ ap (λ (f : Bool). later (if f then v.turn.known.opening else w.turn.known.opening) v.turn.known w.turn.known)
    filled

module _ (begin : Begin) (u v w : View) (ts us : List Record) (ds es : List Deed) (a : Does begin (keeping u) v ts ds)
    (b : Does begin (starting u) w us es)
    (two : 1 < u.numbers.shares) (free : u.turn.holds ≡ false) (filled : u.turn.filled ≡ true)
    (meet : Meets begin.rows v w)
    (lanes : AllBoth AtOnce ds es) where
  abbrev z : View
  z = meeting v w

  v_free : v.turn.holds ≡ false
  v_free = a.gained.holds ∙ free

  v_filled : v.turn.filled ≡ true
  v_filled = a.gained.filled ∙ filled

  known : z.turn.known ≡ later v.turn.known.opening v.turn.known w.turn.known
  known = known_after v w v_free v_filled

  opening_left : z.turn.known.opening ≡ v.turn.known.opening
  opening_left = ap (λ (k : Known). k.opening) known

  opening_right : z.turn.known.opening ≡ w.turn.known.opening
  opening_right = opening_left ∙ (a.grows.opening ∙ sym b.grows.opening)

  changes_both : z.turn.known.changes ≡ max v.turn.known.changes w.turn.known.changes
  changes_both = ap (λ (k : Known). k.changes) known

  grows_left : KnowsMore v z
  grows_left = record {
    nexts = λ r. let t = top_both r v.numbers.nexts w.numbers.nexts in omega arith;
    earlier = meet.earlier;
    opening = opening_left;
    epochs = let c = changes_both in omega arith;
  }

  grows_right : KnowsMore w z
  grows_right = record {
    nexts = λ r. let t = top_both r v.numbers.nexts w.numbers.nexts in omega arith;
    earlier = meet.other_earlier;
    opening = opening_right;
    epochs = let c = changes_both in omega arith;
  }

  from_left : KnowsMore u (keeping u)
  from_left = record {
    nexts = λ r. omega arith;
    earlier = earlier_itself u.turn.known;
    opening = refl;
    epochs = omega arith;
  }

  from_right : KnowsMore u (starting u)
  from_right = record {
    nexts = λ r. omega arith;
    earlier = earlier_itself u.turn.known;
    opening = refl;
    epochs = omega arith;
  }

  left : Answers begin u z a.gains ds
  left = widen_answers begin u (keeping u) v z from_left grows_left a.gains ds (λ x h. (a.works.made x h).1) a.answers

  right : Answers begin u z b.gains es
  right = widen_answers begin u (starting u) w z from_right grows_right b.gains es (λ x h. (b.works.made x h).1)
      b.answers

  -- a number that was spent in both was drawn in both
  not_both : (k n : ℕ) → ((row : ℕ) × (row < begin.rows) × IsRow begin z k row × (0 < tally row n a.gains.spent))
      → ((row : ℕ) × (row < begin.rows) × IsRow begin z k row × (0 < tally row n b.gains.spent)) → ⊥
  not_both k n (r, few, is, p) (r', few', is', q) =
      let same : r ≡ r' = same_row begin z k r r' is is' in
      let q' : 0 < tally r n b.gains.spent = subst (λ (s : ℕ). 0 < tally s n b.gains.spent) (sym same) q in
      let s1 = a.works.spent r n in let s2 = b.works.spent r n in
      let t1 : tally r n v.numbers.drawn ≡ tally r n u.numbers.drawn + tally r n a.gains.drawn =
      ap (tally r n) a.gained.drawn ∙ times_both r n u.numbers.drawn a.gains.drawn in
      let t2 : tally r n w.numbers.drawn ≡ tally r n b.gains.drawn = ap (tally r n) b.gained.drawn in
      let m = meet.drawn r n few in omega arith

  not_failed : MadeLast z a.gains → MadeLast z b.gains → ⊥
  not_failed p q =
      let same : p.place ≡ q.place = last_once (log_of z) p.place q.place p.last q.last in
      let i : 0 < stands p.place b.gains.made = subst (λ (x : ℕ). 0 < stands x b.gains.made) (sym same) q.is_made in
      let j = p.is_made in
      let s1 : stands p.place v.turn.made ≡ stands p.place u.turn.made + stands p.place a.gains.made =
      ap (stands p.place) a.gained.made ∙ stands_both p.place u.turn.made a.gains.made in
      let s2 : stands p.place w.turn.made ≡ stands p.place b.gains.made = ap (stands p.place) b.gained.made in
      let m = meet.made p.place in omega arith

  not_in_turn : (d e : Deed) → AtOnce d e → InTurn d e → ⊥
  not_in_turn d e at (inl same) = at.0 same
  not_in_turn d e at (inr other) = other at.1

  not_in_turn_back : (d e : Deed) → AtOnce d e → InTurn e d → ⊥
  not_in_turn_back d e at (inl same) = at.0 (sym same)
  not_in_turn_back d e at (inr other) = other (sym at.1)

  -- the lists of the joined view
  beside : Gained u z (both_gains a.gains b.gains)
  beside = record {
    drawn = ap (λ (l : List (ℕ × ℕ)). l ++ w.numbers.drawn) a.gained.drawn
        ∙ (ap (λ (l : List (ℕ × ℕ)). (u.numbers.drawn ++ a.gains.drawn) ++ l) b.gained.drawn
        ∙ append_assoc u.numbers.drawn a.gains.drawn b.gains.drawn);
    spent = ap (λ (l : List (ℕ × ℕ)). l ++ w.numbers.spent) a.gained.spent
        ∙ (ap (λ (l : List (ℕ × ℕ)). (u.numbers.spent ++ a.gains.spent) ++ l) b.gained.spent
        ∙ append_assoc u.numbers.spent a.gains.spent b.gains.spent);
    raised = ap (λ (l : List (ℕ × ℕ)). l ++ w.numbers.raised) a.gained.raised
        ∙ (ap (λ (l : List (ℕ × ℕ)). (u.numbers.raised ++ a.gains.raised) ++ l) b.gained.raised
        ∙ append_assoc u.numbers.raised a.gains.raised b.gains.raised);
    added = ap (λ (l : List (ℕ × ℕ)). l ++ w.numbers.added) a.gained.added
        ∙ (ap (λ (l : List (ℕ × ℕ)). (u.numbers.added ++ a.gains.added) ++ l) b.gained.added
        ∙ append_assoc u.numbers.added a.gains.added b.gains.added);
    made = ap (λ (l : List ℕ). l ++ w.turn.made) a.gained.made
        ∙ (ap (λ (l : List ℕ). (u.turn.made ++ a.gains.made) ++ l) b.gained.made ∙ append_assoc u.turn.made a.gains.made
        b.gains.made);
    shares = let s = a.gained.shares in let t = b.gained.shares in omega arith;
    holds = v_free ∙ sym free;
    filled = ap (λ (f : Bool). f || w.turn.filled) v_filled ∙ sym filled;
  }

  -- a fault that one of the two knows had come before they were split
  calm_part : (k : Known) → k.opening ≡ u.turn.known.opening → z.turn.known.opening.faults ≡ u.turn.known.opening.faults
      → IsSparing u.turn.known k
      → Earlier k z.turn.known → Rose z.turn.known.opening.faults k.faults → k.put_faults ≤ u.turn.known.put_faults
      → entries z.turn.known.log ≤ z.turn.known.standing → Rose z.turn.known.opening.faults u.turn.known.faults
  calm_part k opening before sparing earlier rose low all =
      let log = earlier.stopped rose in
      let stood = earlier.stood rose in
      let same : k.opening.faults ≡ z.turn.known.opening.faults = ap (λ (o : Opening). o.faults) opening ∙ sym before in
      subst (λ (n : ℕ). Rose n u.turn.known.faults) same
      (sparing.1 (subst (λ (n : ℕ). Rose n k.faults) (sym same) rose) low (omega arith))

  -- each of the two logs is a front of the joined one
  sparing_both : IsSparing u.turn.known z.turn.known
  sparing_both =
      let x = a.sparing.0 in let y = b.sparing.0 in
      let left_pieces = pieces_front v.turn.known z.turn.known meet.earlier in
      let right_pieces = pieces_front w.turn.known z.turn.known meet.other_earlier in
      let failed : z.turn.known.put_faults ≡ max v.turn.known.put_faults w.turn.known.put_faults =
      ap (λ (k : Known). k.put_faults) known in
      let faults : z.turn.known.faults ≡ max v.turn.known.faults w.turn.known.faults =
      ap (λ (k : Known). k.faults) known in
      let before : z.turn.known.opening.faults ≡ u.turn.known.opening.faults =
      ap (λ (k : Known). k.opening.faults) known ∙ ap (λ (o : Opening). o.faults) a.grows.opening in (
        omega arith,
        λ rose low all.
            let rise : Rose z.turn.known.opening.faults (max v.turn.known.faults w.turn.known.faults) =
            subst (Rose z.turn.known.opening.faults) faults rose in
            elim (rose_either z.turn.known.opening.faults v.turn.known.faults w.turn.known.faults rise) [
              | inl one ↦ calm_part v.turn.known a.grows.opening before a.sparing meet.earlier one (omega arith) all
              | inr other ↦ calm_part w.turn.known b.grows.opening before b.sparing meet.other_earlier other
                  (omega arith) all
            ],
      )

  works_left : Works begin u z a.gains ts
  works_left = widen_works begin u (keeping u) v z from_left grows_left a.gains ts a.works

  works_right : Works begin u z b.gains us
  works_right = widen_works begin u (starting u) w z from_right grows_right b.gains us b.works

  -- what was done by two workers at once, of which one was split from the other
  pub does_beside : Does begin u z (ts ++ us) (ds ++ es)
  does_beside =
      let cross : AllBoth (Agree begin (entries_in z)) ds es = λ i d l j e m. record {
        pairs = λ ne k n p q. not_both k n (left.used i d l k n p) (right.used j e m k n q);
        faults = λ ne p q. not_failed (left.failed i d l p) (right.failed j e m q);
        order = λ lt turn.
            absurd (not_in_turn (slice_index_or ds i d) (slice_index_or es j e) (lanes i d l j e m) turn);
      } in
      let back : AllBoth (Agree begin (entries_in z)) es ds = λ j e m i d l. record {
        pairs = λ ne k n q p. not_both k n (left.used i d l k n p) (right.used j e m k n q);
        faults = λ ne q p. not_failed (left.failed i d l p) (right.failed j e m q);
        order = λ lt turn.
            absurd (not_in_turn_back (slice_index_or ds i d) (slice_index_or es j e) (lanes i d l j e m) turn);
      } in
      record {
        gains = both_gains a.gains b.gains;
        gained = beside;
        grows = grows_further u (keeping u) z from_left (grows_further (keeping u) v z a.grows grows_left);
        sparing = sparing_both;
        works = merge_works begin u z a.gains b.gains ts us works_left works_right;
        answers = merge_answers begin u z a.gains b.gains ds es left right cross back;
        unmade = merge_unmade begin u z a.gains b.gains ts us ds es works_left works_right
            (widen_unmade begin u (keeping u) v z from_left grows_left a.gains ts ds (λ x h. (a.works.made x h).1)
            a.unmade)
            (widen_unmade begin u (starting u) w z from_right grows_right b.gains us es (λ x h. (b.works.made x h).1)
            b.unmade);
      }

  pub beside_gains : does_beside.gains ≡ both_gains a.gains b.gains
  unfolding does_beside
  beside_gains = refl
