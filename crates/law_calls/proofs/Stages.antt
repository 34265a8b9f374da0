-- The book at a stage of a call that handles a record, and the answer where the call is refused there.
use Rattle.std.proofs.Common.{◌≡◌, ◌≢◌, ◌⊎◌, ℕ, ◌+◌, ◌-◌, ◌<◌, ◌≤◌, min, ◌&&◌, ◌||◌, not, Bool, IsTrue, true, false}
use Rattle.std.proofs.Common.{List, [], ◌∷◌, ◌++◌, length, take, Some, None, Option, refl, sym, ◌∙◌, ap, subst, arith}
use Rattle.std.proofs.Common.{inl, inr, ⊎_elim, nat_le, ◌^◌, append-nil, length-append, if◌then◌else◌, eqb, eq-eqb}
use Rattle.std.proofs.lemmas.Bool.Decides.{nat_tests}
use Rattle.std.proofs.lemmas.Bool.{cases_lt}
use Rattle.std.proofs.lemmas.List.{take_all, take_at}
use Rattle.sdls_base.specs.Numbers.{tally}
use Rattle.sdls_base.specs.declared.entry.Entry.{Entry}
use Rattle.sdls_base.specs.declared.entry.Logged.{Logged}
use Rattle.sdls_base.specs.declared.entry.Logged.TheVariants as lines
use Rattle.sdls_outside.specs.Faults.{Rose}
use Rattle.record_io.specs.declared.answers.Answer.{Answer}
use Rattle.record_io.specs.declared.code.TheConstants.{MONITOR_FAULT, SITE_FAULT, STOPPED, NO_MEMORY, PROTECTED}
use Rattle.record_io.specs.declared.code.TheConstants.{ACCEPTED, DONE, NUMBER, EXHAUSTED}
use Rattle.record_io.specs.declared.reader.RecordKind.{RecordKind}
use Rattle.record_io.specs.declared.reader.RecordKind.TheVariants.{Protect, Open, Command, Monitor}
use Rattle.record_io.specs.declared.item_cursor.Record.{Record}
use Rattle.unit_state.specs.declared.state.State.{State}
use Rattle.unit_state.specs.History.{after_all, after_first, epoch_after}
use Rattle.unit_state.proofs.Histories.{epochs_more}
use Rattle.counter_table.specs.declared.view.Known.{Known}
use Rattle.counter_table.specs.declared.view.Opening.{Opening}
use Rattle.counter_table.specs.declared.view.Turn.{Turn}
use Rattle.counter_table.specs.declared.view.View.{View}
use Rattle.counter_table.specs.Turn.{epoch_seen, places}
use Rattle.run_promise.specs.Call.{SiteSeen, Begin}
use Rattle.run_promise.specs.Answers.{Told, counting, plain, Uses, IsUnmade}
use Rattle.law_workers.specs.Counts.{is_index, is_of_record, is_of_none, count_at}
use Rattle.run_promise.specs.History.{drawers, IsLegal}
use Rattle.run_promise.specs.Fits.{Course, Fits, MayAppend, state_after}
use Rattle.run_promise.specs.Log.{entries_of, IsStored}
use Rattle.unit_book.specs.declared.fault.BookFault.{BookFault}
use Rattle.unit_book.specs.declared.fault.BookFault.TheVariants as refusals
use Rattle.run_promise.specs.declared.end.TheConstants.{MOST_ENTRIES}
use Rattle.unit_book.specs.Book.{BookView, CanEnter, Enters, IsBarred, IsUnstored}
use Rattle.shared_unit.specs.Told.{known_of_book, entry_count}
use Rattle.shared_unit.specs.Turn.{Visits}
use Rattle.law_workers.specs.Views.{Gains, IsBetween, IsRow, log_of, entries_in}
use Rattle.law_workers.specs.Work.{indexed}
use Rattle.run_promise.specs.Deed.{deed_of, is_entered, is_monitored, is_protected, epoch_told}
use Rattle.law_workers.specs.Deeds.{course_in, StandsWithin, IsLastAt, IsSpent, MadeLast}
use Rattle.frame_checks.specs.ProtectingFrames.{has_channel}
use Rattle.law_workers.specs.Order.{Layout, Handled}
use Rattle.law_workers.specs.Began.{BeganWith}
use Rattle.law_calls.specs.Answering.{answer_of, unserved_answer, fault_answer, Answered}
use Rattle.law_calls.proofs.Behind.{lines_of, tested, lines_length, lines_entries, lines_more, tested_more, tested_few}
use Rattle.law_calls.proofs.Behind.{LegalInTurn, legal_then, after_both, places_stand, last_behind}
use Rattle.law_calls.proofs.OneRecord.{Turned, Counted, own_index, answered_so, none_made, handled_answered}
use Rattle.law_calls.proofs.OneRecord.{handled_unanswered}
use Rattle.law_calls.proofs.Fitted.{after_front, wanting_fits, faulted_fits, stopped_fits}
use Rattle.law_calls.proofs.Visit.{entries_low, epoch_low, epoch_high, log_is, faults_are, began_faults, risen_found}
use Rattle.law_calls.proofs.Visit.{known_entries, turned, whole}

-- what a code from 31 on tells is neither an entry nor an epoch
late : (kind : RecordKind) (channel above : Bool)
    → IsTrue ((is_entered kind && (above && false)) || (is_protected kind && (channel && false))) → ⊥
late Protect true above told = let t : false ≡ true = told in cc
late Protect false above told = let t : false ≡ true = told in cc
late Open channel true told = let t : false ≡ true = told in cc
late Open channel false told = let t : false ≡ true = told in cc
late Command channel true told = let t : false ≡ true = told in cc
late Command channel false told = let t : false ≡ true = told in cc
late Monitor channel above told = let t : false ≡ true = told in cc

late_entry : (kind : RecordKind) (above : Bool) → IsTrue (is_entered kind && (above && false)) → ⊥
late_entry Protect above told = let t : false ≡ true = told in cc
late_entry Open true told = let t : false ≡ true = told in cc
late_entry Open false told = let t : false ≡ true = told in cc
late_entry Command true told = let t : false ≡ true = told in cc
late_entry Command false told = let t : false ≡ true = told in cc
late_entry Monitor above told = let t : false ≡ true = told in cc

-- nor a count of entries
late_count : (kind : RecordKind) (code : ℕ) → nat_le code NUMBER ≡ false
    → IsTrue (is_monitored kind && nat_le code MONITOR_FAULT) → ⊥
late_count Protect code high told = let t : false ≡ true = told in cc
late_count Open code high told = let t : false ≡ true = told in cc
late_count Command code high told = let t : false ≡ true = told in cc
late_count Monitor code high told =
    let low : nat_le code MONITOR_FAULT ≡ true = told in
    let few : code ≤ MONITOR_FAULT = grind (arith, nat_tests) in
    let many : NUMBER < code = grind (arith, nat_tests) in
    omega arith

-- only of a Monitor record does an answer tell one
pub uncounted : (kind : RecordKind) (code : ℕ) → kind ≢ Monitor
    → IsTrue (is_monitored kind && nat_le code MONITOR_FAULT) → ⊥
uncounted Protect code plain told = let t : false ≡ true = told in cc
uncounted Open code plain told = let t : false ≡ true = told in cc
uncounted Command code plain told = let t : false ≡ true = told in cc
uncounted Monitor code plain told = plain refl

pub late_stands : (begin : Begin) (segment : ℕ) (task : Record) (v w : View) (code n position : ℕ)
    → nat_le code NUMBER ≡ false → nat_le code EXHAUSTED ≡ false
    → code ≢ PROTECTED → StandsWithin begin v w (deed_of segment task (answer_of (counting code 0 n) position))
late_stands begin segment task v w code n position p q some =
    let channel : Bool = has_channel begin.plan task.link task.octets in
    record {
      entry = λ t. absurd (late_entry task.kind (nat_le ACCEPTED code)
          (subst (λ (b : Bool). IsTrue (is_entered task.kind && (nat_le ACCEPTED code && b))) p t));
      stored = λ t. absurd (late_entry task.kind (nat_le ACCEPTED code)
          (subst (λ (b : Bool). IsTrue (is_entered task.kind && (nat_le ACCEPTED code && b))) p t));
      behind = λ t. absurd (late_entry task.kind (nat_le ACCEPTED code)
          (subst (λ (b : Bool). IsTrue (is_entered task.kind && (nat_le ACCEPTED code && b))) p t));
      counted = λ t. absurd (late_count task.kind code p t);
      epoch = λ t. absurd (late task.kind channel (nat_le ACCEPTED code)
          (subst (λ (b : Bool).
          IsTrue ((is_entered task.kind && (nat_le ACCEPTED code && b))
          || (is_protected task.kind && (channel && false)))) p
          (subst (λ (b : Bool). IsTrue ((is_entered task.kind && (nat_le ACCEPTED code && nat_le code NUMBER))
          || (is_protected task.kind && (channel && b)))) q t)));
      number = λ is protected. absurd (some is);
    }

pub unused_late : (code n position key number : ℕ) → code ≢ PROTECTED → code ≢ DONE
    → Uses (answer_of (counting code 0 n) position) key number → ⊥
unused_late code n position key number a b (inl is, of_key, of_number) = a is
unused_late code n position key number a b (inr (is, other), of_key, of_number) = b is

-- a count rose, where that it did not is impossible
rose_else : (before now : ℕ) → (¬ Rose before now → ⊥) → Rose before now
rose_else before now h = elim (cases_lt now (min (before + 1) (2 ^ 64 - 1))) [
  | inl less ↦ absurd (h (λ rose. omega arith))
  | inr rose ↦ rose
]

unprotected : (kind : RecordKind) → kind ≢ Protect → is_protected kind ≡ false
unprotected Protect other = absurd (other refl)
unprotected Open other = refl
unprotected Command other = refl
unprotected Monitor other = refl

-- who answers that an entry could not be stored does not say that none was made
not_unmade : IsUnmade SITE_FAULT → ⊥
not_unmade (inl is) = omega arith
not_unmade (inr is) = omega arith

-- nor does a code below those that say so
pub low_made : (code : ℕ) → code < SITE_FAULT → IsUnmade code → ⊥
low_made code low (inl is) = omega arith
low_made code low (inr is) = omega arith

-- an entry that no other record has is the record's, or of none
pub own_entry : (entry : Entry) (task : Record)
    → ((index : ℕ) → tested (is_of_record index) (entry ∷ []) ≤ indexed index (task ∷ []))
    → (entry.index ≡ None) ⊎ (entry.index ≡ Some task.index)
own_entry entry task one = by_index entry.index one where
  by_index : (own : Option ℕ) → ((index : ℕ) → (if is_index index own then 1 else 0) + 0 ≤ indexed index (task ∷ []))
      → (own ≡ None) ⊎ (own ≡ Some task.index)
  by_index None one = inl refl
  by_index (Some index) one =
      let itself : eqb index index ≡ true = eq-eqb index index refl in
      let low : (if true then 1 else 0) + 0 ≤ indexed index (task ∷ []) =
      subst (λ (b : Bool). (if b then 1 else 0) + 0 ≤ indexed index (task ∷ [])) itself (one index) in
      inr (ap (λ (n : ℕ). Some n) (sym (own_index task.index index (omega arith))))

-- A call that handles a record: the worker's views before and after it, and the books that it found and gave back when
-- it took
-- the turn. The turn that it took may be seen as of a later epoch than the view before.
pub record Call (told : Bool) : Type 0 where
  pub begin : Begin
  pub layout : Layout
  pub segment : ℕ
  pub task : Record
  pub old_view : View
  pub new_view : View
  pub taken : Turn
  pub found : BookView
  pub given : BookView
  pub began : BeganWith told begin taken.known.opening
  pub free : taken.holds ≡ false
  pub visits : Visits told found given taken new_view.turn
  pub known : taken.known ≡ old_view.turn.known
  pub seen : epoch_seen old_view.turn ≤ epoch_seen taken
  pub pass : (log : List Logged) (es : List Entry) → Turned log es taken new_view.turn
      → Turned log es old_view.turn new_view.turn

module _ (told : Bool) (c : Call told) where
  abbrev begin : Begin
  begin = c.begin

  abbrev layout : Layout
  layout = c.layout

  abbrev segment : ℕ
  segment = c.segment

  abbrev task : Record
  task = c.task

  abbrev v : View
  v = c.old_view

  abbrev w : View
  w = c.new_view

  abbrev u : Turn
  u = c.taken

  abbrev found : BookView
  found = c.found

  abbrev given : BookView
  given = c.given

  abbrev near : ℕ → ℕ → Type 0
  near = IsBetween begin v w

  abbrev course : Course
  course = course_in begin w

  -- A stage of the call: behind the log that was found stand these entries, of no record.
  pub record Stage (old : BookView) (es : List Entry) : Type 0 where
    pub log : old.log ≡ found.log ++ lines_of es
    pub state : ¬ Rose old.opened.faults old.site.faults → old.state ≡ after_all begin.start (entries_of old.log)
    pub opened : old.opened ≡ found.opened
    pub clean : ¬ Rose old.opened.faults old.site.faults → ¬ Rose found.opened.faults found.site.faults
    pub standing : old.standing ≤ length (entries_of old.log)
    pub all_stand : ¬ Rose old.opened.faults old.site.faults → old.standing ≡ length (entries_of old.log)
    pub legal : LegalInTurn near begin.plan begin.start (task ∷ []) (after_all begin.start (entries_of found.log)) es
    pub none : (index : ℕ) → tested (is_of_record index) es ≡ 0
    pub few : length es ≤ drawers (task ∷ [])

  -- what was added to the numbers
  pub record Added : Type 0 where
    pub drawn : List (ℕ × ℕ)
    pub spent : List (ℕ × ℕ)
    pub raised : List (ℕ × ℕ)
    pub added : List (ℕ × ℕ)
    pub counted : Counted begin task v w drawn spent raised added

  position_known : (position : ℕ) → position ≡ entry_count (known_of_book given) → position ≡ length (entries_in w)
  position_known position is =
      is ∙ sym (ap (λ (l : List Logged). length (entries_of l))
      (log_is told begin found given u w.turn c.began c.free c.visits))

  -- the call ended behind a stage with these entries more: none, or one
  module _ (old : BookView) (es : List Entry) (stage : Stage old es) (own : List Entry)
      (added : given.log ≡ old.log ++ lines_of own) (numbers : Added)
      (legal : LegalInTurn near begin.plan begin.start (task ∷ []) (after_all begin.start (entries_of found.log))
      (es ++ own))
      (one : (index : ℕ) → tested (is_of_record index) own ≤ indexed index (task ∷ []))
      (reserves : tested is_of_none own + length es ≤ drawers (task ∷ [])) (few : length own ≤ 1) where
    whole_log : given.log ≡ found.log ++ lines_of (es ++ own)
    whole_log = added ∙ ap (λ (l : List Logged). l ++ lines_of own) stage.log ∙ sym (lines_more found.log es own)

    passed : Turned found.log (es ++ own) v.turn w.turn
    passed = c.pass found.log (es ++ own)
        (turned told begin found given u w.turn c.began c.free c.visits (es ++ own) whole_log)

    pub all_entries : entries_in w ≡ entries_of found.log ++ (es ++ own)
    all_entries = known_entries told begin found given u w.turn c.began c.free c.visits (es ++ own) whole_log

    one_among : (index : ℕ) → tested (is_of_record index) (es ++ own) ≤ indexed index (task ∷ [])
    one_among index = let m = tested_more (is_of_record index) es own in let n = stage.none index in
        let o = one index in omega arith

    reserve_among : tested is_of_none (es ++ own) ≤ drawers (task ∷ [])
    reserve_among = let m = tested_more is_of_none es own in let f = tested_few is_of_none es in omega arith

    few_among : length (es ++ own) ≤ length (task ∷ []) + drawers (task ∷ [])
    few_among = let m = length-append es own in let f = stage.few in omega arith

    abbrev pub gains_are : Gains
    gains_are = record {
      drawn = numbers.drawn;
      spent = numbers.spent;
      raised = numbers.raised;
      added = numbers.added;
      made = places (length found.log) (length (es ++ own));
    }

    -- none of the entries is the record's
    none_own : own ≡ [] → tested (is_of_record task.index) (es ++ own) ≡ 0
    none_own none =
        let m = tested_more (is_of_record task.index) es own in let n = stage.none task.index in
        let o : tested (is_of_record task.index) own ≡ 0 = ap (tested (is_of_record task.index)) none in omega arith

    none_of_it : own ≡ [] → (made : List ℕ) → w.turn.made ≡ v.turn.made ++ made
        → count_at (is_of_record task.index) (log_of w) made ≡ 0
    none_of_it none made is = none_made begin task v w layout segment found.log (es ++ own) numbers.drawn numbers.spent
        numbers.raised numbers.added
        passed numbers.counted legal one_among reserve_among few_among (none_own none) made is

    pub unanswered : Handled layout begin v w (task ∷ []) []
    unanswered = handled_unanswered begin task v w layout segment found.log (es ++ own) numbers.drawn numbers.spent
        numbers.raised numbers.added
        passed numbers.counted legal one_among reserve_among few_among

    pub answered : (answer : Answer) → Fits near course task answer
        → StandsWithin begin v w (deed_of segment task answer)
        → IsSpent begin w gains_are (deed_of segment task answer) → (answer.code ≡ SITE_FAULT → MadeLast w gains_are)
        → (IsUnmade answer.code → own ≡ []) → Handled layout begin v w (task ∷ []) (deed_of segment task answer ∷ [])
    answered answer fits within used failed unmade =
        handled_answered begin task v w layout segment found.log (es ++ own) numbers.drawn numbers.spent numbers.raised
        numbers.added
        passed numbers.counted legal one_among reserve_among few_among answer fits within used failed
        (λ code. none_own (unmade code))

    -- a code from 31 on
    pub answered_late : (code n position : ℕ) → Fits near course task (answer_of (counting code 0 n) position)
        → nat_le code NUMBER ≡ false
        → nat_le code EXHAUSTED ≡ false → code ≢ PROTECTED → code ≢ DONE → (code ≡ SITE_FAULT → MadeLast w gains_are)
        → (IsUnmade code → own ≡ [])
        → Handled layout begin v w (task ∷ []) (deed_of segment task (answer_of (counting code 0 n) position) ∷ [])
    answered_late code n position fits p q some other failed unmade =
        answered (answer_of (counting code 0 n) position) fits
        (late_stands begin segment task v w code n position p q some)
        (λ key number uses. absurd (unused_late code n position key number some other uses)) failed unmade

  -- the call ended at the stage
  module _ (old : BookView) (es : List Entry) (stage : Stage old es) (numbers : Added) (same : given ≡ old) where
    left : given.log ≡ old.log ++ lines_of []
    left = ap (λ (b : BookView). b.log) same ∙ sym (append-nil old.log)

    legal_left : LegalInTurn near begin.plan begin.start (task ∷ []) (after_all begin.start (entries_of found.log))
        (es ++ [])
    legal_left = subst (LegalInTurn near begin.plan begin.start (task ∷ [])
        (after_all begin.start (entries_of found.log)))
        (sym (append-nil es)) stage.legal

    reserves_left : 0 + length es ≤ drawers (task ∷ [])
    reserves_left = let f = stage.few in omega arith

    pub left_unanswered : Handled layout begin v w (task ∷ []) []
    left_unanswered = unanswered old es stage [] left numbers legal_left (λ index. omega arith) reserves_left
        (omega arith)

    left_late : (code n position : ℕ) → Fits near course task (answer_of (counting code 0 n) position)
        → nat_le code NUMBER ≡ false
        → nat_le code EXHAUSTED ≡ false → code ≢ PROTECTED → code ≢ DONE → code ≢ SITE_FAULT
        → Handled layout begin v w (task ∷ []) (deed_of segment task (answer_of (counting code 0 n) position) ∷ [])
    left_late code n position fits p q some other plain =
        answered_late old es stage [] left numbers legal_left (λ index. omega arith) reserves_left (omega arith)
        code n position fits p q some other (λ is. absurd (plain is)) (λ _. refl)

    wanting_handled : Handled layout begin v w (task ∷ []) (deed_of segment task unserved_answer ∷ [])
    wanting_handled = left_late NO_MEMORY 0 0 (wanting_fits near course task) refl refl (λ is. absurd (omega arith))
        (λ is. absurd (omega arith)) (λ is. absurd (omega arith))

    pub wanting : task.kind ≡ Command → Answered layout begin segment v w task (Some unserved_answer)
    wanting commands = (wanting_handled, λ code other. absurd (other commands))

    known_of_old : w.turn.known.log ≡ old.log
    known_of_old = log_is told begin found given u w.turn c.began c.free c.visits ∙ ap (λ (b : BookView). b.log) same

    faults_of_old : course.faults ≡ old.site.faults
    faults_of_old = faults_are told begin found given u w.turn c.began c.free c.visits
        ∙ ap (λ (b : BookView). b.site.faults) same

    before_old : course.faults_before ≡ old.opened.faults
    before_old = began_faults told begin found given u w.turn c.began c.free c.visits
        ∙ ap (λ (s : SiteSeen). s.faults) (sym stage.opened)

    -- the site had failed, or the run has as many entries as it may
    pub barred : task.kind ≢ Monitor → (fault : BookFault) (position : ℕ) → position ≡ entry_count (known_of_book given)
        → IsBarred old fault
        → (task.kind ≢ Protect) ⊎ MayAppend near course old.standing task
        → Answered layout begin segment v w task (fault_answer fault position)
    barred plain (refusals.Stopped count) position is (rose, count_is) due =
        let at = position_known position is in
        let known_is : entries_in w ≡ entries_of old.log = ap entries_of known_of_old in
        let size : length (entries_in w) ≡ length (entries_of old.log) = ap length known_is in
        let low = stage.standing in
        answered_so begin layout segment v w task (answer_of (counting STOPPED 0 count) position)
        (λ is. absurd (omega arith)) (left_late STOPPED count position
        (stopped_fits near course task plain count position at
        (subst (λ (n : ℕ). Rose n count) (sym before_old)
        (subst (λ (n : ℕ). Rose old.opened.faults n) (sym count_is) rose))
        (let f = faults_of_old in omega arith)
        (⊎_elim inl (λ may. inr (record { p = old.standing; within = omega arith; may = may })) due))
        refl refl (λ is. absurd (omega arith)) (λ is. absurd (omega arith)) (λ is. absurd (omega arith)))
    barred plain refusals.SessionFull position is (not, full) due =
        let size : length (entries_in w) ≡ length (entries_of old.log) =
        ap (λ (l : List Logged). length (entries_of l)) known_of_old in (
          left_unanswered,
          record {
            full = omega arith;
            stood =
                let a = full_stand not full in
                let b : w.turn.known.standing ≡ given.standing =
                ap (λ (t : Turn). t.known.standing) c.visits.takes.turn in
                let d : given.standing ≡ old.standing = ap (λ (b : BookView). b.standing) same in omega arith;
            not_failed = λ risen. stage.clean not (risen_found told begin found given u w.turn c.began c.free c.visits
                (subst (λ (k : Known). Rose k.opening.faults k.faults) (sym c.known) risen));
            due = ⊎_elim inl (λ may. inr (subst (λ (p : ℕ). MayAppend near course p task) (full_stand not full) may))
                due;
            unmade = none_of_it old es stage [] left numbers legal_left (λ index. omega arith) reserves_left
                (omega arith) refl;
          },
        ) where
          full_stand : ¬ Rose old.opened.faults old.site.faults → length (entries_of old.log) ≡ MOST_ENTRIES
              → old.standing ≡ MOST_ENTRIES
          full_stand not full = stage.all_stand not ∙ full
    barred plain (refusals.SiteFault count) position is h due = absurd h
    barred plain refusals.NoMemory position is h due = absurd h

  -- an entry more was refused
  module _ (old : BookView) (es : List Entry) (stage : Stage old es) (entry : Entry) (numbers : Added)
      (can : CanEnter old)
      (legal : IsLegal near begin.plan (after_all begin.start (entries_of old.log)) (task ∷ []) entry)
      (one : (index : ℕ) → tested (is_of_record index) (entry ∷ []) ≤ indexed index (task ∷ []))
      (reserves : tested is_of_none (entry ∷ []) + length es ≤ drawers (task ∷ [])) where
    entries_old : entries_of old.log ≡ entries_of found.log ++ es
    entries_old = ap entries_of stage.log ∙ lines_entries found.log es

    after_old : after_all begin.start (entries_of old.log) ≡ after_all (after_all begin.start (entries_of found.log)) es
    after_old = ap (after_all begin.start) entries_old ∙ after_both begin.start (entries_of found.log) es

    pub legal_more : LegalInTurn near begin.plan begin.start (task ∷ []) (after_all begin.start (entries_of found.log))
        (es ++ entry ∷ [])
    legal_more = legal_then near begin.plan begin.start (after_all begin.start (entries_of found.log))
        (task ∷ []) es entry
        stage.legal
        (subst (λ (s : State). IsLegal near begin.plan s (task ∷ []) entry) after_old legal)

    -- the state before it, as it is known afterwards
    pub state_then : (rest : List Entry) → entries_in w ≡ entries_of old.log ++ rest
        → state_after course (length (entries_of old.log)) ≡ old.state
    state_then rest is = ap (λ (l : List Entry). after_first begin.start l (length (entries_of old.log))) is
        ∙ after_front begin.start (entries_of old.log) rest ∙ sym (stage.state can.0)

    -- the site failed while it was stored: then the entry does not stand
    faulted : task.kind ≢ Monitor → (count position : ℕ) → position ≡ entry_count (known_of_book given)
        → given.log ≡ old.log ++ lines.Entry entry ∷ []
        → given.standing ≡ old.standing → count ≡ given.site.faults
        → (state_after course (length (entries_of old.log)) ≡ old.state
        → MayAppend near course (length (entries_of old.log)) task)
        → Handled layout begin v w (task ∷ [])
        (deed_of segment task (answer_of (counting SITE_FAULT 0 count) position) ∷ [])
    faulted plain count position is added stand count_is may =
        let log_known : w.turn.known.log ≡ old.log ++ lines.Entry entry ∷ [] =
        log_is told begin found given u w.turn c.began c.free c.visits ∙ added in
        let entries_known : entries_in w ≡ entries_of old.log ++ entry ∷ [] =
        ap entries_of log_known ∙ lines_entries old.log (entry ∷ []) in
        let given_is : entries_of given.log ≡ entries_of old.log ++ entry ∷ [] =
        ap entries_of added ∙ lines_entries old.log (entry ∷ []) in
        let given_size : length (entries_of given.log) ≡ length (entries_of old.log) + 1 =
        ap length given_is ∙ length-append (entries_of old.log) (entry ∷ []) in
        let size : length (entries_in w) ≡ length (entries_of old.log) + 1 =
        ap length entries_known ∙ length-append (entries_of old.log) (entry ∷ []) in
        let before : course.faults_before ≡ found.opened.faults =
        began_faults told begin found given u w.turn c.began c.free c.visits in
        let now : course.faults ≡ given.site.faults =
        faults_are told begin found given u w.turn c.began c.free c.visits in
        let opened : given.opened.faults ≡ found.opened.faults =
        ap (λ (o : Opening). o.faults) c.visits.takes.opening in
        let all = stage.all_stand can.0 in
        let rose : Rose given.opened.faults given.site.faults =
        rose_else given.opened.faults given.site.faults (λ not. let whole_then = c.visits.given_kept.whole not in
        absurd (omega arith)) in
        let risen : Rose course.faults_before count =
        subst (λ (n : ℕ). Rose n count) (sym (before ∙ sym opened))
        (subst (λ (n : ℕ). Rose given.opened.faults n) (sym count_is) rose) in
        answered_late old es stage (entry ∷ []) added numbers legal_more one reserves (omega arith) SITE_FAULT count
        position
        (faulted_fits near course task plain count position (position_known position is) risen (omega arith)
        (record {
          p = length (entries_of old.log);
          within = omega arith;
          may = may (state_then (entry ∷ []) entries_known);
        })
        (entries_of old.log) entry entries_known (own_entry entry task one))
        refl refl (λ is. absurd (omega arith)) (λ is. absurd (omega arith)) (λ _. record {
          place = length old.log;
          is_made =
              let o : length old.log ≡ length found.log + length (lines_of es) =
              ap length stage.log ∙ length-append found.log (lines_of es) in
              let l = lines_length es in
              let m = length-append es (entry ∷ []) in
              places_stand (length found.log) (length (es ++ entry ∷ [])) (length old.log) (omega arith) (omega arith);
          last = subst (λ (l : List Logged). IsLastAt l (length old.log)) (sym log_known) (last_behind old.log entry);
          risen = subst (λ (n : ℕ). Rose course.faults_before n) (count_is ∙ sym now) risen;
        }) (λ code. absurd (not_unmade code))

    pub unstored : task.kind ≢ Monitor → (fault : BookFault) (position : ℕ)
        → position ≡ entry_count (known_of_book given) → IsUnstored entry old given fault
        → (state_after course (length (entries_of old.log)) ≡ old.state → IsTrue (IsStored old.state entry)
        → MayAppend near course (length (entries_of old.log)) task)
        → Answered layout begin segment v w task (fault_answer fault position)
    unstored plain (refusals.SiteFault count) position is h may =
        answered_so begin layout segment v w task (answer_of (counting SITE_FAULT 0 count) position)
        (λ code. absurd (omega arith))
        (faulted plain count position is (ap (λ (b : BookView). b.log) h.3) (ap (λ (b : BookView). b.standing) h.3) h.2
        (λ same. may same h.0))
    unstored plain (refusals.Stopped count) position is h may = absurd h
    unstored plain refusals.SessionFull position is h may = absurd h
    unstored plain refusals.NoMemory position is h may = absurd h

    -- it was made
    pub made : (fields : Told) (position : ℕ) → Enters entry old given position → task.kind ≢ Protect
        → task.kind ≢ Monitor
        → (entries_in w ≡ entries_of old.log ++ entry ∷ [] → position ≡ length (entries_of old.log) + 1
        → Fits near course task (answer_of fields position))
        → ((key number : ℕ) → Uses (answer_of fields position) key number
        → (row : ℕ) × (row < begin.rows) × IsRow begin w key row × (0 < tally row number numbers.spent))
        → fields.code ≢ SITE_FAULT → (IsUnmade fields.code → ⊥)
        → Handled layout begin v w (task ∷ []) (deed_of segment task (answer_of fields position) ∷ [])
    made fields position enters kind recorded fits used plain makes =
        let added : given.log ≡ old.log ++ lines.Entry entry ∷ [] = ap (λ (b : BookView). b.log) enters.is in
        let log_known : w.turn.known.log ≡ old.log ++ lines.Entry entry ∷ [] =
        log_is told begin found given u w.turn c.began c.free c.visits ∙ added in
        let entries_known : entries_in w ≡ entries_of old.log ++ entry ∷ [] =
        ap entries_of log_known ∙ lines_entries old.log (entry ∷ []) in
        let given_is : entries_of given.log ≡ entries_of old.log ++ entry ∷ [] =
        ap entries_of added ∙ lines_entries old.log (entry ∷ []) in
        let size : length (entries_of given.log) ≡ length (entries_of old.log) + 1 =
        ap length given_is ∙ length-append (entries_of old.log) (entry ∷ []) in
        let count : length (entries_in w) ≡ length (entries_of old.log) + 1 =
        ap length entries_known ∙ length-append (entries_of old.log) (entry ∷ []) in
        let at = enters.position_is in
        let none : is_protected task.kind ≡ false = unprotected task.kind kind in
        answered old es stage (entry ∷ []) added numbers legal_more one reserves (omega arith)
        (answer_of fields position)
        (fits entries_known (omega arith)) (record {
          entry = λ _. (
            let low = entries_low told begin found given u w.turn c.began c.free c.visits in
                let seen_first : length (entries_in v) ≡ length (entries_of u.known.log) =
                ap (λ (k : Known). length (entries_of k.log)) (sym c.known) in
                let front : length (entries_of found.log) ≤ length (entries_of old.log) =
                (let e = ap length entries_old in
                let l = length-append (entries_of found.log) es in omega arith) in
                omega arith,
            omega arith,
          );
          stored = λ _.
              let stand : given.standing ≡ old.standing + 1 = ap (λ (b : BookView). b.standing) enters.is in
              let known_standing : w.turn.known.standing ≡ given.standing =
              ap (λ (t : Turn). t.known.standing) c.visits.takes.turn in
              let all = stage.all_stand can.0 in omega arith;
          -- the book that was found had counted each epoch that was seen before
          behind = λ _.
              let seen = c.seen in
              let low = epoch_low told begin found given u w.turn c.began c.free c.visits in
              let counted = (whole told begin found given u w.turn c.began c.free c.visits (stage.clean can.0)).1 in
              let more = epochs_more (entries_of found.log) es in
              let front = ap epoch_after (ap (take (position - 1)) entries_known
              ∙ take_at (entries_of old.log) (entry ∷ []) (position - 1) (omega arith) ∙ entries_old) in
              omega arith;
          counted = λ t. absurd (uncounted task.kind fields.code recorded t);
          epoch = λ _.
              let told_is : epoch_told (entries_in w) (deed_of segment task (answer_of fields position))
              ≡ epoch_after (entries_in w) =
              ap (λ (b : Bool). if b then position else epoch_after (take position (entries_in w))) none
              ∙ ap epoch_after (take_all position (entries_in w) (omega arith)) in
              let stand : given.standing ≡ old.standing + 1 = ap (λ (b : BookView). b.standing) enters.is in
              let all = stage.all_stand can.0 in
              let changes : given.changes ≡ epoch_after (entries_in w) = c.visits.given_kept.epoch
              ∙ ap epoch_after (take_all given.standing (entries_of given.log) (omega arith) ∙ given_is
              ∙ sym entries_known) in
              let low = epoch_low told begin found given u w.turn c.began c.free c.visits in
              let high = epoch_high told begin found given u w.turn c.began c.free c.visits in
              let grown = c.visits.takes.earlier.changes in
              (omega arith, omega arith);
          number = λ _ protected. let both : true ≡ false = sym protected ∙ none in absurd (let b = both in cc);
        }) used (λ is. absurd (plain is)) (λ code. absurd (makes code))

  -- the book as it was found
  pub stage_found : Stage found []
  stage_found = record {
    log = sym (append-nil found.log);
    state = λ not. (whole told begin found given u w.turn c.began c.free c.visits not).0;
    opened = refl;
    clean = λ not. not;
    standing = c.visits.found_kept.stands;
    all_stand = λ not. c.visits.found_kept.whole not;
    legal = tt;
    none = λ index. refl;
    few = omega arith;
  }
