-- What was done stays done while the views grow apart, and what two did between the same views is one.
use Rattle.std.proofs.Common.{◌≡◌, ◌⊎◌, ℕ, zero, suc, ◌+◌, ◌<◌, ◌≤◌, List, ◌++◌, length, IsTrue, sym, ◌∙◌, ap, subst}
use Rattle.std.proofs.Common.{inl, inr, ⊎_elim, arith, le_trans, length-append, take, ◌-◌}
use Rattle.std.specs.List.{Contains, All, slice_index_or}
use Rattle.std.proofs.lemmas.List.{take-append-le}
use Rattle.std.proofs.lemmas.List.Elements.{All-append, All-contains, Contains-append_left, Contains-append_right}
use Rattle.sdls_base.specs.Numbers.{tally}
use Rattle.sdls_outside.specs.Faults.{Rose}
use Rattle.sdls_base.specs.declared.entry.Entry.{Entry}
use Rattle.sdls_base.specs.declared.entry.Logged.{Logged}
use Rattle.counter_table.specs.declared.view.Opening.{Opening}
use Rattle.counter_table.specs.declared.view.View.{View}
use Rattle.counter_table.specs.Turn.{stands}
use Rattle.record_io.specs.declared.item_cursor.Record.{Record}
use Rattle.record_io.specs.declared.answers.Answer.{Answer}
use Rattle.record_io.specs.declared.code.TheConstants.{SITE_FAULT}
use Rattle.unit_state.specs.History.{after_all, after_first, epoch_after}
use Rattle.unit_state.proofs.Histories.{after_more}
use Rattle.run_promise.specs.Log.{entries_of}
use Rattle.law_history.specs.Entries.{IsLegalAt}
use Rattle.run_promise.specs.Answers.{IsUnmade}
use Rattle.law_workers.specs.Counts.{is_of_record, is_of_none}
use Rattle.run_promise.specs.Fits.{Course, Fits, MayAppend}
use Rattle.run_promise.specs.Call.{Begin}
use Rattle.law_workers.specs.Views.{Gains, both_gains, log_of, entries_in, IsRow, IsBetween, KnowsMore}
use Rattle.law_workers.specs.Work.{IsAsked, Works, indexed}
use Rattle.run_promise.specs.Deed.{Deed, is_ordered, epoch_told, StandsBehind, tells_entry}
use Rattle.law_workers.specs.Deeds.{course_in, StandsWithin, IsLastAt, Agree, EachTwo, AllBoth, MadeLast, IsSpent}
use Rattle.law_workers.specs.Deeds.{Answers, IsWithoutEntry, AreUnmade}
use Rattle.law_workers.proofs.Histories.{entries_both, entries_counted, row_kept}
use Rattle.law_workers.proofs.Fitting.{can_append, fits_more}
use Rattle.law_workers.proofs.Logs.{stands_both, times_both, count_of_both, last_kept, drawers_both, indexed_both}
use Rattle.law_workers.proofs.Logs.{count_at_both, count_kept, legal_more, legal_wider, told_kept}

-- the entries of the later view
pub grown_entries : (v w : View) → KnowsMore v w → (rest : List Entry) × (entries_in w ≡ entries_in v ++ rest)
grown_entries v w g =
    (entries_of g.earlier.log.0, ap entries_of g.earlier.log.1 ∙ entries_both (log_of v) g.earlier.log.0)

module _ (begin : Begin) (u v w z : View) (low : KnowsMore u v) (high : KnowsMore w z) where
  rest : List Entry
  rest = (grown_entries w z high).0

  grown : entries_in z ≡ entries_in w ++ (grown_entries w z high).0
  grown = (grown_entries w z high).1

  pub row_later : (key row : ℕ) → IsRow begin w key row → IsRow begin z key row
  row_later key row h = rw (grown, after_more begin.start (entries_in w) (grown_entries w z high).0)
      (row_kept (after_all begin.start (entries_in w)) (grown_entries w z high).0 key row h)

  between : (k n : ℕ) → IsBetween begin v w k n → IsBetween begin u z k n
  between k n h = record {
    row = h.row;
    row_is = row_later k h.row h.row_is;
    least = le_trans (low.nexts h.row) h.least;
    most = le_trans h.most (high.nexts h.row);
  }

  -- what the answers speak of, with other entries and another count of faults before
  abbrev course_with : List Entry → ℕ → Course
  course_with es before = record {
    begin = begin;
    faults_before = before;
    faults = z.turn.known.faults;
    entries = es;
  }

  fits_later : (t : Record) (x : Answer) → Fits (IsBetween begin v w) (course_in begin w) t x
      → Fits (IsBetween begin u z) (course_in begin z) t x
  fits_later t x h =
      let r : List Entry = (grown_entries w z high).0 in
      let near : ℕ → ℕ → Type 0 = IsBetween begin u z in
      let closed : Rose w.turn.known.opening.faults w.turn.known.faults
      → length (entries_in w ++ r) ≡ length (entries_in w) =
      λ rose. let s =
      high.earlier.stopped (subst (λ (o : Opening). Rose o.faults w.turn.known.faults) (sym high.opening) rose) in
      ap length (sym grown) ∙ (sym (entries_counted (log_of z)) ∙ (s ∙ entries_counted (log_of w))) in
      let there : Fits near (course_with (entries_in w ++ r) w.turn.known.opening.faults) t x =
      fits_more (IsBetween begin v w) near between begin
      w.turn.known.opening.faults w.turn.known.faults z.turn.known.faults (entries_in w) r high.earlier.faults closed t
      x h in
      let here : Fits near (course_with (entries_in w ++ r) z.turn.known.opening.faults) t x =
      subst (λ (o : Opening). Fits near (course_with (entries_in w ++ r) o.faults) t x) (sym high.opening) there in
      subst (λ (es : List Entry). Fits near (course_with es z.turn.known.opening.faults) t x) (sym grown) here

  -- a record that may need an append may still need it
  pub may_later : (t : Record) (p : ℕ) → p ≤ length (entries_in w)
      → MayAppend (IsBetween begin v w) (course_in begin w) p t
      → MayAppend (IsBetween begin u z) (course_in begin z) p t
  may_later t p within may =
      let r : List Entry = (grown_entries w z high).0 in
      let near : ℕ → ℕ → Type 0 = IsBetween begin u z in
      let closed : Rose w.turn.known.opening.faults w.turn.known.faults
      → length (entries_in w ++ r) ≡ length (entries_in w) =
      λ rose. let s =
      high.earlier.stopped (subst (λ (o : Opening). Rose o.faults w.turn.known.faults) (sym high.opening) rose) in
      ap length (sym grown) ∙ (sym (entries_counted (log_of z)) ∙ (s ∙ entries_counted (log_of w))) in
      let there : MayAppend near (course_with (entries_in w ++ r) w.turn.known.opening.faults) p t =
      can_append (IsBetween begin v w) near between begin
      w.turn.known.opening.faults w.turn.known.faults z.turn.known.faults (entries_in w) r high.earlier.faults closed
      t.kind p t within may in
      let here : MayAppend near (course_with (entries_in w ++ r) z.turn.known.opening.faults) p t =
      subst (λ (o : Opening). MayAppend near (course_with (entries_in w ++ r) o.faults) p t) (sym high.opening) there in
      subst (λ (es : List Entry). MayAppend near (course_with es z.turn.known.opening.faults) p t) (sym grown) here

  pub told_later : (d : Deed) → StandsWithin begin v w d → IsTrue (is_ordered begin d)
      → epoch_told (entries_in z) d ≡ epoch_told (entries_in w) d
  told_later d s ordered = rw grown
      (told_kept d.task.kind _ _ d.answer.position (entries_in w) (grown_entries w z high).0 (λ e. (s.entry e).1)
      ordered)

  -- the entries before the one that an answer tells stay
  front_later : (d : Deed) → StandsWithin begin v w d → IsTrue (tells_entry d)
      → take (d.answer.position - 1) (entries_in z) ≡ take (d.answer.position - 1) (entries_in w)
  front_later d s e =
      let within = (s.entry e).1 in
      ap (take (d.answer.position - 1)) grown ∙ take-append-le (d.answer.position - 1) (entries_in w)
      (grown_entries w z high).0 (omega arith)

  stands_later : (d : Deed) → StandsWithin begin v w d → StandsWithin begin u z d
  stands_later d s = record {
    entry = λ e. let a = s.entry e in
        let (r, lower) = grown_entries u v low in
        let m : length (entries_in v) ≡ length (entries_in u) + length r =
        ap length lower ∙ length-append (entries_in u) r in
        let n : length (entries_in z) ≡ length (entries_in w) + length (grown_entries w z high).0 =
        ap length grown ∙ length-append (entries_in w) (grown_entries w z high).0 in
        (omega arith, omega arith);
    stored = λ e. let a = s.stored e in let h = high.earlier.standing in omega arith;
    behind = λ e. let a = s.behind e in let l = low.epochs in
        let same = front_later d s e in let epoch = ap epoch_after same in omega arith;
    counted = λ e. let a = s.counted e in
        let (r, lower) = grown_entries u v low in
        let m : length (entries_in v) ≡ length (entries_in u) + length r =
        ap length lower ∙ length-append (entries_in u) r in
        let n : length (entries_in z) ≡ length (entries_in w) + length (grown_entries w z high).0 =
        ap length grown ∙ length-append (entries_in w) (grown_entries w z high).0 in
        (omega arith, omega arith);
    epoch = λ o. let a = s.epoch o in let same = told_later d s o in let l = low.epochs in let h = high.epochs in
        (omega arith, omega arith);
    number = λ c k. let a = s.number c k in
        (a.0, row_later d.answer.key a.0 a.1, le_trans (low.nexts a.0) a.2, let h = high.nexts a.0 in omega arith);
  }

  behind_later : (d e : Deed) → StandsWithin begin v w d → StandsWithin begin v w e
      → StandsBehind begin (entries_in w) d e → StandsBehind begin (entries_in z) d e
  behind_later d e s t h = record {
    entries = h.entries;
    counted = h.counted;
    counted_before = h.counted_before;
    counts = h.counts;
    stopped = h.stopped;
    failed = h.failed;
    ended = h.ended;
    epochs = λ a b. let k = h.epochs a b in let l = told_later d s a in let m = told_later e t b in omega arith;
    epochs_before = λ a b. let k = h.epochs_before a b in let same = ap epoch_after (front_later e t b) in omega arith;
    numbers = h.numbers;
  }

  asked_later : (tasks : List Record) (row number : ℕ) → IsAsked begin (entries_in w) tasks row number
      → IsAsked begin (entries_in z) tasks row number
  asked_later tasks row number h =
      let r : List Entry = (grown_entries w z high).0 in
      let n : length (entries_in z) ≡ length (entries_in w) + length r =
      ap length grown ∙ length-append (entries_in w) r in
      let same : after_first begin.start (entries_in z) h.p ≡ after_first begin.start (entries_in w) h.p =
      ap (λ (es : List Entry). after_first begin.start es h.p) grown ∙ ap (after_all begin.start)
      (take-append-le h.p (entries_in w) r h.within) in
      record {
        p = h.p;
        within = let k = h.within in omega arith;
        key = h.key;
        row_is = rw same h.row_is;
        task = h.task;
        there = h.there;
        is_command = h.is_command;
        asks = rw same h.asks;
      }

  agree_later : (d e : Deed) → StandsWithin begin v w d → StandsWithin begin v w e → Agree begin (entries_in w) d e
      → Agree begin (entries_in z) d e
  agree_later d e s t h = record {
    pairs = h.pairs;
    faults = h.faults;
    order = λ lt turn. behind_later d e s t (h.order lt turn);
  }

  risen_later : Rose w.turn.known.opening.faults w.turn.known.faults
      → Rose z.turn.known.opening.faults z.turn.known.faults
  risen_later h =
      let f = high.earlier.faults in
      subst (λ (o : Opening). Rose o.faults z.turn.known.faults) (sym high.opening) (omega arith)

  -- once the count of faults had risen, no entry was added
  pub closed : Rose w.turn.known.opening.faults w.turn.known.faults → length (entries_in z) ≡ length (entries_in w)
  closed risen =
      let s = high.earlier.stopped (subst (λ (o : Opening). Rose o.faults w.turn.known.faults) (sym high.opening)
      risen) in
      sym (entries_counted (log_of z)) ∙ (s ∙ entries_counted (log_of w))

  last_later : (gains : Gains) → ((x : ℕ) → 0 < stands x gains.made → x < length (log_of w)) → MadeLast w gains
      → MadeLast z gains
  last_later gains below h =
      let r : List Logged = high.earlier.log.0 in
      let log_is : log_of z ≡ log_of w ++ r = high.earlier.log.1 in
      let same : length (entries_of (log_of w ++ r)) ≡ length (entries_of (log_of w)) =
      ap (λ (l : List Logged). length (entries_of l)) (sym log_is) ∙ closed h.risen in
      record {
        place = h.place;
        is_made = h.is_made;
        last = subst (λ (l : List Logged). IsLastAt l h.place) (sym log_is)
            (last_kept (log_of w) r h.place (below h.place h.is_made) same h.last);
        risen = risen_later h.risen;
      }

  -- what was done between two views was done between an earlier one and a later one
  pub widen_works : (gains : Gains) (tasks : List Record) → Works begin v w gains tasks → Works begin u z gains tasks
  widen_works gains tasks d =
      let log_rest : List Logged = high.earlier.log.0 in
      let log_is : log_of z ≡ log_of w ++ log_rest = high.earlier.log.1 in
      let below : (x : ℕ) → 0 < stands x gains.made → x < length (log_of w) = λ x h. (d.made x h).1 in
      let size : length (log_of z) ≡ length (log_of w) + length log_rest =
      ap length log_is ∙ length-append (log_of w) log_rest in
      let size' : length (log_of v) ≡ length (log_of u) + length low.earlier.log.0 =
      ap length low.earlier.log.1 ∙ length-append (log_of u) low.earlier.log.0 in
      record {
        made = λ x h. let (a, b) = d.made x h in (omega arith, omega arith);
        legal = λ x h. subst (λ (log : List Logged). IsLegalAt (IsBetween begin u z) begin.plan begin.start tasks log x)
            (sym log_is)
            (legal_more (IsBetween begin v w) (IsBetween begin u z) between begin.plan begin.start tasks tasks
            (λ t c. c) (log_of w) log_rest x (below x h) (d.legal x h));
        one_entry = λ i. rw (log_is, count_kept (is_of_record i) (log_of w) log_rest gains.made below) (d.one_entry i);
        reserves = rw (log_is, count_kept is_of_none (log_of w) log_rest gains.made below) d.reserves;
        few_drawn = d.few_drawn;
        drawn = λ r n h. let (a, b) = d.drawn r n h in let l = low.nexts r in let m = high.nexts r in
            (omega arith, omega arith);
        spent = d.spent;
        raised = λ k e h. ⊎_elim inl (λ a. inr (asked_later tasks _ _ a)) (d.raised k e h);
      }

  -- the same of the answers; the places made lie in the log of the view between
  pub widen_answers : (gains : Gains) (deeds : List Deed) → ((x : ℕ) → 0 < stands x gains.made → x < length (log_of w))
      → Answers begin v w gains deeds → Answers begin u z gains deeds
  widen_answers gains deeds below d = record {
    fit = λ k e h. fits_later _ _ (d.fit k e h);
    stand = λ k e h. stands_later _ (d.stand k e h);
    agree = λ i e h j f k. agree_later _ _ (d.stand i e h) (d.stand j f k) (d.agree i e h j f k);
    used = λ k e h key n uses_it. let (row, few, is, in') = d.used k e h key n uses_it in
        (row, few, row_later key row is, in');
    failed = λ k e h c. last_later gains below (d.failed k e h c);
  }

  -- and that a record has no entry stays so
  without_later : (gains : Gains) (tasks : List Record) (index : ℕ)
      → ((x : ℕ) → 0 < stands x gains.made → x < length (log_of w))
      → IsWithoutEntry w gains tasks index → IsWithoutEntry z gains tasks index
  without_later gains tasks index below h =
      let rest : List Logged = high.earlier.log.0 in
      let log_is : log_of z ≡ log_of w ++ rest = high.earlier.log.1 in
      rw (log_is, count_kept (is_of_record index) (log_of w) rest gains.made below) h

  pub widen_unmade : (gains : Gains) (tasks : List Record) (deeds : List Deed)
      → ((x : ℕ) → 0 < stands x gains.made → x < length (log_of w))
      → AreUnmade w gains tasks deeds → AreUnmade z gains tasks deeds
  widen_unmade gains tasks deeds below d =
      λ k e h code. without_later gains tasks (slice_index_or deeds k e).task.index below (d k e h code)

either : (a b : ℕ) → 0 < a + b → (0 < a) ⊎ (0 < b)
either zero b h = inr (omega arith)
either (suc a) b h = inl (omega arith)

-- each two of two lists
pub each_two_both : {X : Type 0} (R : X → X → Type 0) (xs ys : List X) → EachTwo R xs → EachTwo R ys
    → All (λ x. All (R x) ys) xs → All (λ y. All (R y) xs) ys → EachTwo R (xs ++ ys)
each_two_both {X} R xs ys a b c d = All-append (λ (x : X). All (R x) (xs ++ ys)) xs ys
    (λ i e h. All-append (R (slice_index_or xs i e)) xs ys (a i e h) (c i e h))
    (λ j e h. All-append (R (slice_index_or ys j e)) xs ys (d j e h) (b j e h))

module _ (begin : Begin) (u z : View) where
  asked_among : (tasks others : List Record) → ((t : Record) → Contains tasks t → Contains others t) → (row number : ℕ)
      → IsAsked begin (entries_in z) tasks row number → IsAsked begin (entries_in z) others row number
  asked_among tasks others wider row number h = record {
    p = h.p;
    within = h.within;
    key = h.key;
    row_is = h.row_is;
    task = h.task;
    there = wider h.task h.there;
    is_command = h.is_command;
    asks = h.asks;
  }

  abbrev Raised : List Record → ℕ × ℕ → Type 0
  Raised tasks pair = (pair.1 ≤ 1) ⊎ IsAsked begin (entries_in z) tasks pair.0 pair.1

  pub raised_among : (tasks others : List Record) → ((t : Record) → Contains tasks t → Contains others t)
      → (pair : ℕ × ℕ) → Raised tasks pair → Raised others pair
  raised_among tasks others wider pair (inl h) = inl h
  raised_among tasks others wider pair (inr h) = inr (asked_among tasks others wider pair.0 pair.1 h)

  used_left : (g h : Gains) (d : Deed) → IsSpent begin z g d → IsSpent begin z (both_gains g h) d
  used_left g h d a key n uses_it = let (row, few, is, in') = a key n uses_it in
      let t = times_both row n g.spent h.spent in (row, few, is, omega arith)

  used_right : (g h : Gains) (d : Deed) → IsSpent begin z h d → IsSpent begin z (both_gains g h) d
  used_right g h d a key n uses_it = let (row, few, is, in') = a key n uses_it in
      let t = times_both row n g.spent h.spent in (row, few, is, omega arith)

  last_left : (g h : Gains) → MadeLast z g → MadeLast z (both_gains g h)
  last_left g h m =
      record {
        place = m.place;
        is_made = (let s = stands_both m.place g.made h.made in let k = m.is_made in
            omega arith);
        last = m.last;
        risen = m.risen;
      }

  last_right : (g h : Gains) → MadeLast z h → MadeLast z (both_gains g h)
  last_right g h m =
      record {
        place = m.place;
        is_made = (let s = stands_both m.place g.made h.made in let k = m.is_made in
            omega arith);
        last = m.last;
        risen = m.risen;
      }

  -- two doings between the same views are one
  pub merge_works : (g h : Gains) (ts us : List Record) → Works begin u z g ts → Works begin u z h us
      → Works begin u z (both_gains g h) (ts ++ us)
  merge_works g h ts us a b =
      let left : (t : Record) → Contains ts t → Contains (ts ++ us) t = Contains-append_left ts us in
      let right : (t : Record) → Contains us t → Contains (ts ++ us) t = Contains-append_right ts us in
      let near : ℕ → ℕ → Type 0 = IsBetween begin u z in
      record {
        made = λ x in'. let s = stands_both x g.made h.made in
            ⊎_elim (a.made x) (b.made x) (either (stands x g.made) (stands x h.made) (omega arith));
        legal = λ x in'. let s = stands_both x g.made h.made in
            ⊎_elim
            (λ m e there. legal_wider near near (λ k n p. p) begin.plan begin.start ts (ts ++ us) left _ e
            (a.legal x m e there))
            (λ m e there. legal_wider near near (λ k n p. p) begin.plan begin.start us (ts ++ us) right _ e
            (b.legal x m e there))
            (either (stands x g.made) (stands x h.made) (omega arith));
        one_entry = λ i. let p = a.one_entry i in let q = b.one_entry i in
            let c = count_at_both (is_of_record i) (log_of z) g.made h.made in let d = indexed_both i ts us in
            omega arith;
        reserves = let p = a.reserves in let q = b.reserves in
            let c = count_at_both is_of_none (log_of z) g.made h.made in let d = drawers_both ts us in omega arith;
        few_drawn = λ r. let p = a.few_drawn r in let q = b.few_drawn r in let c = count_of_both r g.drawn h.drawn in
            let d = drawers_both ts us in omega arith;
        drawn = λ r n in'. let t = times_both r n g.drawn h.drawn in
            ⊎_elim (a.drawn r n) (b.drawn r n) (either (tally r n g.drawn) (tally r n h.drawn) (omega arith));
        spent = λ r n. let p = a.spent r n in let q = b.spent r n in let c = times_both r n g.spent h.spent in
            let d = times_both r n g.drawn h.drawn in omega arith;
        raised = All-append (Raised (ts ++ us)) g.raised h.raised
            (λ k d l. raised_among ts (ts ++ us) left (slice_index_or g.raised k d) (a.raised k d l))
            (λ k d l. raised_among us (ts ++ us) right (slice_index_or h.raised k d) (b.raised k d l));
      }

  pub merge_answers : (g h : Gains) (ds es : List Deed) → Answers begin u z g ds → Answers begin u z h es
      → AllBoth (Agree begin (entries_in z)) ds es → AllBoth (Agree begin (entries_in z)) es ds
      → Answers begin u z (both_gains g h) (ds ++ es)
  merge_answers g h ds es a b cross back = record {
    fit = All-append (λ (x : Deed). Fits (IsBetween begin u z) (course_in begin z) x.task x.answer) ds es a.fit b.fit;
    stand = All-append (StandsWithin begin u z) ds es a.stand b.stand;
    agree = each_two_both (Agree begin (entries_in z)) ds es a.agree b.agree cross back;
    used = All-append (IsSpent begin z (both_gains g h)) ds es
        (λ k d l. used_left g h (slice_index_or ds k d) (a.used k d l))
        (λ k d l. used_right g h (slice_index_or es k d) (b.used k d l));
    failed = All-append (λ (x : Deed). x.answer.code ≡ SITE_FAULT → MadeLast z (both_gains g h)) ds es
        (λ k d l c. last_left g h (a.failed k d l c)) (λ k d l c. last_right g h (b.failed k d l c));
  }

  without_left : (g h : Gains) (ts us : List Record) → Works begin u z h us → (index : ℕ) → IsWithoutEntry z g ts index
      → IsWithoutEntry z (both_gains g h) (ts ++ us) index
  without_left g h ts us other index less =
      let few = other.one_entry index in
      let c = count_at_both (is_of_record index) (log_of z) g.made h.made in let d = indexed_both index ts us in
      omega arith

  without_right : (g h : Gains) (ts us : List Record) → Works begin u z g ts → (index : ℕ) → IsWithoutEntry z h us index
      → IsWithoutEntry z (both_gains g h) (ts ++ us) index
  without_right g h ts us other index less =
      let few = other.one_entry index in
      let c = count_at_both (is_of_record index) (log_of z) g.made h.made in let d = indexed_both index ts us in
      omega arith

  pub merge_unmade : (g h : Gains) (ts us : List Record) (ds es : List Deed) → Works begin u z g ts
      → Works begin u z h us
      → AreUnmade z g ts ds → AreUnmade z h us es → AreUnmade z (both_gains g h) (ts ++ us) (ds ++ es)
  merge_unmade g h ts us ds es a b one other =
      All-append (λ (x : Deed). IsUnmade x.answer.code → IsWithoutEntry z (both_gains g h) (ts ++ us) x.task.index) ds
      es
      (λ k d l code. without_left g h ts us b (slice_index_or ds k d).task.index (one k d l code))
      (λ k d l code. without_right g h ts us a (slice_index_or es k d).task.index (other k d l code))

-- the same answers in another order, or some of them
pub reorder : (begin : Begin) (u z : View) (g : Gains) (ds es : List Deed) → All (Contains ds) es
    → Answers begin u z g ds → Answers begin u z g es
reorder begin u z g ds es in' a = record {
  fit = λ k d l. All-contains (λ (x : Deed). Fits (IsBetween begin u z) (course_in begin z) x.task x.answer) ds _ a.fit
      (in' k d l);
  stand = λ k d l. All-contains (StandsWithin begin u z) ds _ a.stand (in' k d l);
  agree = λ i d l j e m. All-contains (Agree begin (entries_in z) (slice_index_or es i d)) ds _
      (All-contains (λ (x : Deed). All (Agree begin (entries_in z) x) ds) ds _ a.agree (in' i d l)) (in' j e m);
  used = λ k d l. All-contains (IsSpent begin z g) ds _ a.used (in' k d l);
  failed = λ k d l. All-contains (λ (x : Deed). x.answer.code ≡ SITE_FAULT → MadeLast z g) ds _ a.failed (in' k d l);
}

-- so of the answers that say that no entry was made, with other records that are no fewer
pub unmade_among : (z : View) (g : Gains) (ts us : List Record) (ds es : List Deed)
    → ((i : ℕ) → indexed i ts ≤ indexed i us) → All (Contains ds) es
    → AreUnmade z g ts ds → AreUnmade z g us es
unmade_among z g ts us ds es each in' a k d l code =
    let less : IsWithoutEntry z g ts (slice_index_or es k d).task.index =
    All-contains (λ (x : Deed). IsUnmade x.answer.code → IsWithoutEntry z g ts x.task.index) ds (slice_index_or es k d)
    a (in' k d l) code in
    let more = each (slice_index_or es k d).task.index in omega arith
