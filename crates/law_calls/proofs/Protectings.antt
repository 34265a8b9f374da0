-- The answer to a frame that was protected, or refused.
use Rattle.std.proofs.Common.{◌≡◌, ◌≢◌, ◌⊎◌, ℕ, ◌<◌, ◌≤◌, Bool, IsTrue, true, false, ◌&&◌, ◌||◌, nat_le, List, [], ◌∷◌}
use Rattle.std.proofs.Common.{take, Option, Some, None, Ok, Err, refl, sym, ◌∙◌, ap, subst, arith, inl, inr, append-nil}
use Rattle.std.proofs.Common.{if◌then◌else◌, eqb, eq-eqb}
use Rattle.sdls_base.specs.KeyId.{end_of}
use Rattle.sdls_base.specs.Numbers.{tally}
use Rattle.sdls_base.specs.declared.entry.Entry.{Entry}
use Rattle.key_book.specs.KeyBook.{place_of}
use Rattle.record_io.specs.declared.answers.Answer.{Answer}
use Rattle.record_io.specs.declared.reader.RecordKind.{RecordKind}
use Rattle.record_io.specs.declared.reader.RecordKind.TheVariants.{Protect, Open, Command, Monitor}
use Rattle.record_io.specs.declared.item_cursor.Record.{Record}
use Rattle.record_io.specs.declared.code.TheConstants.{PROTECTED, CLEAR, EXHAUSTED, ACCEPTED, DONE, NUMBER, SITE_FAULT}
use Rattle.record_io.specs.declared.code.TheConstants.{NO_MEMORY}
use Rattle.unit_plan.specs.PlanLines.{PlanLines, link_of}
use Rattle.unit_state.specs.declared.state.State.{State}
use Rattle.unit_state.specs.History.{after_all, at_epoch, epoch_after}
use Rattle.frame_shield.specs.declared.protecting_frames.ShieldFault.{ShieldFault}
use Rattle.frame_shield.specs.declared.protecting_frames.ShieldFault.TheVariants as shield_faults
use Rattle.frame_shield.specs.Binding.{clear_fault}
use Rattle.frame_checks.specs.ProtectingFrames.{channel_check, has_channel}
use Rattle.counter_table.specs.declared.view.Opening.{Opening}
use Rattle.counter_table.specs.declared.view.Turn.{Turn}
use Rattle.counter_table.specs.declared.view.View.{View}
use Rattle.counter_table.specs.Numbers.{top}
use Rattle.counter_table.specs.Turn.{epoch_seen, loading}
use Rattle.run_promise.specs.Answers.{Told, plain, numbered, fault_told, unbound_told, Uses}
use Rattle.run_promise.specs.History.{drawers}
use Rattle.run_promise.specs.Fits.{Fits, FitsKind, IsBound, CanAppend, CanReserve, IsUnmarked, MayAppend, state_after}
use Rattle.run_promise.specs.Fits.{protect_reply}
use Rattle.run_promise.specs.Log.{entries_of}
use Rattle.unit_book.specs.declared.fault.BookFault.{BookFault}
use Rattle.unit_book.specs.Book.{BookView}
use Rattle.unit_book.specs.Epoch.{binding_on}
use Rattle.shared_unit.specs.declared.permit.Permit.{Permit}
use Rattle.shared_unit.specs.declared.permit.Done.{Done}
use Rattle.shared_unit.specs.declared.permit.Protected.{Protected}
use Rattle.shared_unit.specs.declared.permit.Protected.TheVariants as protecteds
use Rattle.shared_unit.specs.Funding.{Reserves}
use Rattle.shared_unit.specs.Numbers.{Draws, ComesBack, UsesNumber}
use Rattle.shared_unit.specs.Protecting.{FailsAt, Funds, IsDrawnAndProtected, IsProtectStep, IsRefusedAt, IsUsed, Looks}
use Rattle.shared_unit.specs.Protecting.{MayTakeTurn, Rests, RunsOutUnder, TakesTurn}
use Rattle.shared_unit.specs.Told.{entry_count}
use Rattle.shared_unit.proofs.Checks.{bound_check}
use Rattle.shared_unit.proofs.Passing.{none_looks, reserves_changes}
use Rattle.run_promise.specs.Call.{Begin}
use Rattle.law_workers.specs.Views.{IsBetween, IsRow, entries_in}
use Rattle.run_promise.specs.Deed.{deed_of, is_entered, is_protected, epoch_told}
use Rattle.law_workers.specs.Deeds.{course_in, StandsWithin}
use Rattle.law_workers.specs.Order.{Layout, Handled}
use Rattle.law_workers.specs.Began.{BeganWith}
use Rattle.law_calls.specs.Answering.{Answered, answer_of, fault_answer, protected_answer}
use Rattle.law_calls.proofs.Behind.{LegalInTurn}
use Rattle.law_calls.proofs.OneRecord.{Turned, Counted, handled_answered, answered_so}
use Rattle.law_calls.proofs.Counting.{Shows, counted_none, draws_shows, back_shows, uses_shows, out_shows}
use Rattle.law_calls.proofs.Permitted.{bound_reply, planned_reply, clear_reply, channel_passed, began_before}
use Rattle.law_calls.proofs.Permitted.{row_before, row_last}
use Rattle.law_calls.proofs.Visit.{changes_are, standing_found, led_known}
use Rattle.law_calls.proofs.Stages.{Call, Stage, stage_found, answered, uncounted}
use Rattle.law_calls.proofs.Reserves.{reserved, refused}

pub one_drawer : (task : Record) → task.kind ≡ Protect → drawers (task ∷ []) ≡ 1
one_drawer task is = ap (λ (k : RecordKind). drawers (record task { kind = k } ∷ [])) is

-- an answer of a frame tells an epoch, where the frame has a channel
protected_only : (kind : RecordKind) (some below : Bool) → kind ≡ Protect → IsTrue (is_entered kind && (some && below))
    → ⊥
protected_only Protect some below is told = let t : false ≡ true = told in cc
protected_only Open some below is told = absurd (let no = is in cc)
protected_only Command some below is told = absurd (let no = is in cc)
protected_only Monitor some below is told = absurd (let no = is in cc)

ordered_channel : (kind : RecordKind) (some below channel low : Bool) → kind ≡ Protect
    → IsTrue ((is_entered kind && (some && below)) || (is_protected kind && (channel && low))) → IsTrue channel
ordered_channel Protect some below true low is told = refl
ordered_channel Protect some below false low is told = let t : false ≡ true = told in absurd cc
ordered_channel Open some below channel low is told = absurd (let no = is in cc)
ordered_channel Command some below channel low is told = absurd (let no = is in cc)
ordered_channel Monitor some below channel low is told = absurd (let no = is in cc)

module _ (told : Bool) (begin : Begin) (layout : Layout) (segment : ℕ) (task : Record)
    (v w : View) (began : BeganWith told begin v.turn.known.opening) (free : v.turn.holds ≡ false)
    (protects : task.kind ≡ Protect) where
  may_draw : drawers (task ∷ []) ≡ 1
  may_draw = one_drawer task protects

  -- the record was handled, with whatever answer fits and stands
  abbrev Finishes : List (ℕ × ℕ) → Type 0
  Finishes spent = (answer : Answer) → Fits (IsBetween begin v w) (course_in begin w) task answer
      → StandsWithin begin v w (deed_of segment task answer)
      → ((key number : ℕ) → Uses answer key number → (row : ℕ) × (row < begin.rows) × IsRow begin w key row
      × (0 < tally row number spent))
      → answer.code ≢ SITE_FAULT → Handled layout begin v w (task ∷ []) (deed_of segment task answer ∷ [])

  pub looked : Looks v.turn w.turn → Turned v.turn.known.log [] v.turn w.turn
  looked l = subst (λ (t : Turn). Turned v.turn.known.log [] v.turn t) (sym l.is) (record {
    earlier = record {
      log = ([], sym (append-nil v.turn.known.log));
      changes = omega arith;
      faults = omega arith;
      standing = omega arith;
      put_faults = omega arith;
      stopped = λ _. refl;
      stood = λ _. refl;
    };
    sparing = (omega arith, λ rose low all. rose);
    opening = refl;
    epochs = l.loads.later;
    low = omega arith;
    log_is = sym (append-nil v.turn.known.log);
    made = sym (append-nil v.turn.made);
    holds = refl;
    filled = refl;
  })

  looks_finish : (drawn spent raised added : List (ℕ × ℕ)) → Counted begin task v w drawn spent raised added
      → Looks v.turn w.turn → Finishes spent
  looks_finish drawn spent raised added counted l answer fits within used plain =
      handled_answered begin task v w layout segment v.turn.known.log [] drawn spent raised added (looked l) counted tt
      (λ index. omega arith)
      (omega arith) (omega arith) answer fits within used (λ is. absurd (plain is)) (λ _. refl)

  -- the call that took the turn behind a look at the epoch
  abbrev pub call_of : (done : BookView → BookView → Type 0) → TakesTurn told done v.turn w.turn → Call told
  call_of done t = record {
    begin = begin;
    layout = layout;
    segment = segment;
    task = task;
    old_view = v;
    new_view = w;
    taken = loading t.count t.epoch v.turn;
    found = t.found;
    given = t.given;
    began = began;
    free = free;
    visits = t.visits;
    known = refl;
    seen = t.loads.later;
    pass = λ log es p. record {
      earlier = p.earlier;
      sparing = p.sparing;
      opening = p.opening;
      epochs = (let a = t.loads.later in let b = p.epochs in omega arith);
      low = p.low;
      log_is = p.log_is;
      made = p.made;
      holds = p.holds;
      filled = p.filled;
    };
  }

  taken_finish : (done : BookView → BookView → Type 0) (t : TakesTurn told done v.turn w.turn) (es : List Entry)
      → Stage told (call_of done t) t.given es → (drawn spent raised added : List (ℕ × ℕ))
      → Counted begin task v w drawn spent raised added → Finishes spent
  taken_finish done t es stage drawn spent raised added counted answer fits within used plain =
      answered told (call_of done t) t.given es stage [] (sym (append-nil t.given.log))
      (record { drawn = drawn; spent = spent; raised = raised; added = added; counted = counted })
      (subst (λ (l : List Entry). LegalInTurn (IsBetween begin v w) begin.plan begin.start (task ∷ [])
      (after_all begin.start (entries_of t.found.log)) l)
      (sym (append-nil es)) stage.legal)
      (λ index. omega arith) (let f = stage.few in omega arith) (omega arith) answer fits within used
      (λ is. absurd (plain is)) (λ _. refl)

  rests_finish : (drawn spent raised added : List (ℕ × ℕ)) → Counted begin task v w drawn spent raised added
      → MayTakeTurn told Rests v.turn w.turn → Finishes spent
  rests_finish drawn spent raised added counted (inl l) = looks_finish drawn spent raised added counted l
  rests_finish drawn spent raised added counted (inr t) =
      taken_finish Rests t [] (subst (λ (b : BookView). Stage told (call_of Rests t) b []) (sym t.does)
      (stage_found told (call_of Rests t))) drawn spent raised added counted

  -- ---- under a permit that is true

  module _ (p : Permit) (used : IsUsed v.turn.known.opening.plan task.link task.octets p w.turn)
      (opening : w.turn.known.opening ≡ v.turn.known.opening) where
    start_is : w.turn.known.opening.start ≡ begin.start
    start_is = ap (λ (o : Opening). o.start) opening ∙ began.start

    plan_is : v.turn.known.opening.plan ≡ begin.plan
    plan_is = began.plan

    reached : p.epoch ≤ epoch_after (entries_in w)
    reached = used.trusted.reached

    -- the binding, in the state of the permit's epoch
    pub bound : clear_fault p.binding task.octets ≡ None
        → protect_reply begin.plan (at_epoch begin.start (entries_in w) p.epoch) task.link task.octets
        ≡ Ok (Some p.binding)
    bound fits =
        let t = used.trusted in
        let state : State = at_epoch w.turn.known.opening.start (entries_in w) p.epoch in
        let line : link_of v.turn.known.opening.plan.links task.link ≡ Some p.binding.link =
        ap (λ (o : Opening). link_of o.plan.links task.link) (sym opening)
        ∙ ap (λ (l : ℕ). link_of w.turn.known.opening.plan.links l) (sym used.linked) ∙ t.line in
        let channel : channel_check v.turn.known.opening.plan task.link task.octets ≡ Ok (Some p.channel) =
        ap (λ (l : ℕ). channel_check v.turn.known.opening.plan l task.octets) (sym used.linked) ∙ used.frame in
        let sender : binding_on v.turn.known.opening.plan state p.binding.link p.channel ≡ Some p.binding =
        ap (λ (o : Opening). binding_on o.plan state p.binding.link p.channel) (sym opening) ∙ t.sender in
        subst (λ (s : State). protect_reply begin.plan (at_epoch s (entries_in w) p.epoch) task.link task.octets
        ≡ Ok (Some p.binding)) start_is
        (subst (λ (q : PlanLines). protect_reply q state task.link task.octets ≡ Ok (Some p.binding)) plan_is
        (bound_reply v.turn.known.opening.plan state task.link task.octets p.binding
        (bound_check v.turn.known.opening.plan state task.link task.octets p.channel p.binding channel line sender)
        fits))

    pub place_then : place_of (at_epoch begin.start (entries_in w) p.epoch).keys p.binding.key ≡ Some p.row
    place_then = subst (λ (s : State). place_of (at_epoch s (entries_in w) p.epoch).keys p.binding.key ≡ Some p.row)
        start_is used.trusted.row

    pub row_is : IsRow begin w p.binding.key p.row
    row_is = row_last begin.start (entries_in w) p.epoch p.binding.key p.row reached place_then

    pub row_below : p.row < begin.rows
    row_below = let rows = began.rows in let there = used.trusted.there in omega arith

    near_row : (n : ℕ) (drawn spent raised added : List (ℕ × ℕ)) → Shows begin task v w p.row n drawn spent raised added
        → IsBetween begin v w p.binding.key n
    near_row n drawn spent raised added shows =
        record { row = p.row; row_is = row_is; least = shows.least; most = shows.most }

    abbrev bound_to : (answer : Answer) → answer.position ≡ p.epoch → answer.key ≡ p.binding.key
        → clear_fault p.binding task.octets ≡ None
        → IsBound (course_in begin w) task answer
    bound_to answer at key fits = record {
      reached = omega (arith, reached);
      binding = p.binding;
      bound = subst (λ (e : ℕ). protect_reply begin.plan (at_epoch begin.start (entries_in w) e) task.link task.octets
          ≡ Ok (Some p.binding)) (sym at) (bound fits);
      key_is = key;
    }

    -- the book that was found had reached the permit's epoch
    module _ (done : BookView → BookView → Type 0) (t : TakesTurn told done v.turn w.turn)
        (still_changes : t.given.changes ≡ t.found.changes) where
      reached_found : p.epoch ≤ epoch_after (take t.found.standing (entries_in w))
      reached_found =
          let seen = used.trusted.seen in
          let loaded : w.turn.epoch ≡ t.epoch = ap (λ (k : Turn). k.epoch) t.visits.takes.turn in
          let follows = t.visits.takes.follows.epoch in
          let changes = changes_are told begin t.found t.given (loading t.count t.epoch v.turn) w.turn began free
          t.visits in
          let counted : t.found.changes ≡ epoch_after (take t.found.standing (entries_of t.found.log)) =
          t.visits.found_kept.epoch in
          let same : epoch_after (take t.found.standing (entries_in w))
          ≡ epoch_after (take t.found.standing (entries_of t.found.log)) =
          ap epoch_after (standing_found told begin t.found t.given (loading t.count t.epoch v.turn) w.turn began free
          t.visits) in
          omega arith

      place_found : place_of t.found.state.keys p.binding.key ≡ Some p.row
      place_found =
          ap (λ (s : State). place_of s.keys p.binding.key)
          (led_known told begin t.found t.given (loading t.count t.epoch v.turn) w.turn began free t.visits)
          ∙ row_before begin.start (entries_in w) t.found.standing p.epoch p.binding.key p.row reached_found place_then

      -- the frame can need a reserve of the number
      may_reserve : clear_fault p.binding task.octets ≡ None → (q n : ℕ) → t.found.standing ≤ q
          → IsUnmarked (IsBetween begin v w) (state_after (course_in begin w) q) p.binding.key n
          → MayAppend (IsBetween begin v w) (course_in begin w) q task
      may_reserve fits q n low unmarked =
          let b = began_before begin.start (entries_in w) t.found.standing p.epoch reached_found in
          let can : CanReserve (IsBetween begin v w) (course_in begin w) q task = record {
            earlier = b.place;
            within = (let l = b.low in omega arith);
            binding = p.binding;
            bound = subst (λ (s : State). protect_reply begin.plan s task.link task.octets ≡ Ok (Some p.binding))
                b.state (bound fits);
            number = n;
            is = unmarked;
          } in
          subst (λ (k : RecordKind). CanAppend (IsBetween begin v w) (course_in begin w) q task k) (sym protects) can

  opening_looked : Looks v.turn w.turn → w.turn.known.opening ≡ v.turn.known.opening
  opening_looked l = ap (λ (t : Turn). t.known.opening) l.is

  pub opening_taken : (done : BookView → BookView → Type 0) → TakesTurn told done v.turn w.turn
      → w.turn.known.opening ≡ v.turn.known.opening
  opening_taken done t = ap (λ (k : Turn). k.known.opening) t.visits.takes.turn ∙ t.visits.takes.opening
      ∙ t.visits.takes.follows.opening

  pub opening_same : (done : BookView → BookView → Type 0) → MayTakeTurn told done v.turn w.turn
      → w.turn.known.opening ≡ v.turn.known.opening
  opening_same done (inl l) = opening_looked l
  opening_same done (inr t) = opening_taken done t

  -- ---- where an answer stands

  recorded : task.kind ≢ Monitor
  recorded other = let both : Protect ≡ Monitor = sym protects ∙ other in cc

  kind_true : is_protected task.kind ≡ true
  kind_true = ap is_protected protects

  epoch_stands : (fields : Told) (epoch : ℕ) → epoch_seen v.turn ≤ epoch → epoch ≤ epoch_seen w.turn
      → (fields.code ≡ PROTECTED → (row : ℕ) × IsRow begin w fields.key row × (top row v.numbers.nexts ≤ fields.number)
      × (fields.number < top row w.numbers.nexts))
      → StandsWithin begin v w (deed_of segment task (answer_of fields epoch))
  epoch_stands fields epoch low high number =
      let told_is : epoch_told (entries_in w) (deed_of segment task (answer_of fields epoch)) ≡ epoch =
      ap (λ (b : Bool). if b then epoch else epoch_after (take epoch (entries_in w))) kind_true in
      record {
        entry = λ t.
            absurd (protected_only task.kind (nat_le ACCEPTED fields.code) (nat_le fields.code NUMBER) protects t);
        stored = λ t.
            absurd (protected_only task.kind (nat_le ACCEPTED fields.code) (nat_le fields.code NUMBER) protects t);
        behind = λ t.
            absurd (protected_only task.kind (nat_le ACCEPTED fields.code) (nat_le fields.code NUMBER) protects t);
        counted = λ t. absurd (uncounted task.kind fields.code recorded t);
        epoch = λ _. (omega arith, omega arith);
        number = λ is _. number is;
      }

  -- no channel, and so no epoch
  plain_stands : (fields : Told) → fields.code ≢ PROTECTED
      → ((channel : ℕ) → channel_check begin.plan task.link task.octets ≡ Ok (Some channel) → ⊥)
      → StandsWithin begin v w (deed_of segment task (answer_of fields 0))
  plain_stands fields some none = record {
    entry = λ t. absurd (protected_only task.kind (nat_le ACCEPTED fields.code) (nat_le fields.code NUMBER) protects t);
    stored = λ t.
        absurd (protected_only task.kind (nat_le ACCEPTED fields.code) (nat_le fields.code NUMBER) protects t);
    behind = λ t.
        absurd (protected_only task.kind (nat_le ACCEPTED fields.code) (nat_le fields.code NUMBER) protects t);
    counted = λ t. absurd (uncounted task.kind fields.code recorded t);
    epoch = λ o.
        let there = channel_passed begin.plan task.link task.octets
        (ordered_channel task.kind (nat_le ACCEPTED fields.code) (nat_le fields.code NUMBER)
        (has_channel begin.plan task.link task.octets) (nat_le fields.code EXHAUSTED) protects o) in
        absurd (none there.0 there.1);
    number = λ is _. absurd (some is);
  }

  unused : (fields : Told) (position : ℕ) → fields.code ≢ PROTECTED → fields.code ≢ DONE → (key number : ℕ)
      → Uses (answer_of fields position) key number → ⊥
  unused fields position a b key number (inl is, of_key, of_number) = a is
  unused fields position a b key number (inr (is, some), of_key, of_number) = b is

  refusal_code : (fault : ShieldFault) → ((fault_told fault).code ≢ PROTECTED) × ((fault_told fault).code ≢ DONE)
      × ((fault_told fault).code ≢ SITE_FAULT)
  refusal_code (shield_faults.Layout number) =
      (λ is. absurd (omega arith), λ is. absurd (omega arith), λ is. absurd (omega arith))
  refusal_code shield_faults.Channel =
      (λ is. absurd (omega arith), λ is. absurd (omega arith), λ is. absurd (omega arith))
  refusal_code shield_faults.State =
      (λ is. absurd (omega arith), λ is. absurd (omega arith), λ is. absurd (omega arith))

  by_protect : (answer : Answer) → FitsKind (IsBetween begin v w) (course_in begin w) task answer Protect
      → Fits (IsBetween begin v w) (course_in begin w) task answer
  by_protect answer fits = subst (λ (k : RecordKind). FitsKind (IsBetween begin v w) (course_in begin w) task answer k)
      (sym protects) fits

  -- ---- by the answer

  -- the plan was enough
  planned : (fields : Told) (position : ℕ) → position ≡ 0
      → unbound_told (protect_reply begin.plan (at_epoch begin.start (entries_in w) 0) task.link task.octets)
      ≡ Some fields
      → ((channel : ℕ) → channel_check begin.plan task.link task.octets ≡ Ok (Some channel) → ⊥)
      → (fields.code ≢ PROTECTED) × (fields.code ≢ DONE) × (fields.code ≢ SITE_FAULT)
      → w.numbers ≡ v.numbers → w.turn ≡ v.turn
      → Handled layout begin v w (task ∷ []) (deed_of segment task (answer_of fields position) ∷ [])
  planned fields position zero_is reply none codes numbers turn =
      subst (λ (n : ℕ). Handled layout begin v w (task ∷ []) (deed_of segment task (answer_of fields n) ∷ []))
      (sym zero_is)
      (looks_finish [] [] [] [] (counted_none begin task v w numbers)
      (none_looks v.turn w.turn turn)
      (answer_of fields 0)
      (by_protect (answer_of fields 0)
      (inr (inl (record { reached = omega arith; told = reply; epoch_looked_at = inl refl }))))
      (plain_stands fields codes.0 none) (λ key number uses. absurd (unused fields 0 codes.0 codes.1 key number uses))
      codes.2)

  -- a check failed in the state of an epoch
  fails_at : (fault : ShieldFault) (epoch : ℕ) → FailsAt task.link task.octets fault epoch w.turn
      → epoch_seen v.turn ≤ epoch
      → MayTakeTurn told Rests v.turn w.turn → w.numbers ≡ v.numbers
      → Handled layout begin v w (task ∷ []) (deed_of segment task (answer_of (fault_told fault) epoch) ∷ [])
  fails_at fault epoch f low turn numbers =
      let codes = refusal_code fault in
      let opening = opening_same Rests turn in
      let plans : w.turn.known.opening.plan ≡ begin.plan = ap (λ (o : Opening). o.plan) opening ∙ began.plan in
      let starts : w.turn.known.opening.start ≡ begin.start = ap (λ (o : Opening). o.start) opening ∙ began.start in
      let reply : protect_reply begin.plan (at_epoch begin.start (entries_in w) epoch) task.link task.octets
      ≡ Err fault =
      subst (λ (s : State). protect_reply begin.plan (at_epoch s (entries_in w) epoch) task.link task.octets
      ≡ Err fault) starts
      (subst (λ (q : PlanLines). protect_reply q (at_epoch w.turn.known.opening.start (entries_in w) epoch) task.link
      task.octets ≡ Err fault) plans f.is) in
      rests_finish [] [] [] [] (counted_none begin task v w numbers) turn (answer_of (fault_told fault) epoch)
      (by_protect (answer_of (fault_told fault) epoch) (inr (inl (record {
        reached = f.reached;
        told = ap unbound_told reply;
        epoch_looked_at =
            inr (
              f.passes.0,
              subst (λ (q : PlanLines). channel_check q task.link task.octets ≡ Ok (Some f.passes.0))
                  plans f.passes.1,
            );
      }))))
      (epoch_stands (fault_told fault) epoch low f.seen (λ is. absurd (codes.0 is)))
      (λ key number uses. absurd (unused (fault_told fault) epoch codes.0 codes.1 key number uses)) codes.2

  module _ (p : Permit) (used : IsUsed v.turn.known.opening.plan task.link task.octets p w.turn) where
    done_finish : (n back : ℕ) → n < end_of p.binding.key → UsesNumber p.row n back v.numbers w.numbers
        → MayTakeTurn told (Funds p.binding.key n) v.turn w.turn → Finishes ((p.row, n) ∷ [])
    done_finish n back below uses (inl l) =
        looks_finish ((p.row, n) ∷ []) ((p.row, n) ∷ []) [] ((p.row, 1) ∷ [])
        (uses_shows begin task v w may_draw p.row n back uses).counted l
    done_finish n back below uses (inr t) =
        let opening = opening_taken (Funds p.binding.key n) t in
        let same : t.given.changes ≡ t.found.changes =
        reserves_changes p.binding.key n (Ok t.does.0) t.found t.given t.does.1 in
        let shows = uses_shows begin task v w may_draw p.row n back uses in
        let behind = reserved told (call_of (Funds p.binding.key n) t) may_draw p.binding.key n p.row
        (place_found p used opening (Funds p.binding.key n) t same) below
        (near_row p used opening n ((p.row, n) ∷ []) ((p.row, n) ∷ []) [] ((p.row, 1) ∷ []) shows) t.does.0 t.given
        t.does.1 in
        taken_finish (Funds p.binding.key n) t behind.es behind.stage ((p.row, n) ∷ []) ((p.row, n) ∷ []) []
        ((p.row, 1) ∷ []) shows.counted

    done : (out : List ℕ) (d : Done) → IsDrawnAndProtected p task.octets out d v w
        → MayTakeTurn told (Funds p.binding.key d.number) v.turn w.turn
        → Handled layout begin v w (task ∷ [])
        (deed_of segment task (answer_of (numbered PROTECTED d.key d.number (take d.length out)) d.epoch) ∷ [])
    done out d is turn =
        let fields : Told = numbered PROTECTED d.key d.number (take d.length out) in
        let q = is.protected in
        let opening = opening_same (Funds p.binding.key d.number) turn in
        let shows = uses_shows begin task v w may_draw p.row d.number is.back is.uses in
        let is_near : IsBetween begin v w p.binding.key d.number =
        near_row p used opening d.number ((p.row, d.number) ∷ []) ((p.row, d.number) ∷ []) [] ((p.row, 1) ∷ []) shows in
        let own_row : IsRow begin w d.key p.row =
        subst (λ (k : ℕ). IsRow begin w k p.row) (sym q.key) (row_is p used opening) in
        let left = is.uses.left in
        let seen = used.trusted.seen in
        let epoch_is = q.epoch in
        done_finish d.number is.back q.below is.uses turn (answer_of fields d.epoch)
        (by_protect (answer_of fields d.epoch) (inl (record {
          is = bound_to p used opening (answer_of fields d.epoch) q.epoch q.key is.fits;
          told = refl;
          is_near = subst (λ (k : ℕ). IsBetween begin v w k d.number) (sym q.key) is_near;
          below = subst (λ (k : ℕ). d.number < end_of k) (sym q.key) q.below;
          protects = q.frame;
        })))
        (epoch_stands fields d.epoch is.later (omega arith) (λ _. (p.row, own_row, shows.least, omega arith)))
        (λ key number uses. (
          p.row,
          row_below p used opening,
          subst (λ (k : ℕ). IsRow begin w k p.row) uses.1 own_row,
          subst (λ (x : ℕ). 0 < tally p.row x ((p.row, d.number) ∷ [])) uses.2 (once p.row d.number),
        )) (λ code. absurd (omega arith)) where
          once : (row x : ℕ) → 0 < tally row x ((row, x) ∷ [])
          once row x = let t : eqb row row ≡ true = eq-eqb row row refl in let u : eqb x x ≡ true = eq-eqb x x refl in
              rw (t, u) (omega arith)

    exhausted : (key n epoch : ℕ) → RunsOutUnder p task.octets key n epoch v w → MayTakeTurn told Rests v.turn w.turn
        → Handled layout begin v w (task ∷ [])
        (deed_of segment task (answer_of (numbered EXHAUSTED key n []) epoch) ∷ [])
    exhausted key n epoch (fits, key_is, epoch_is, out, later) turn =
        let fields : Told = numbered EXHAUSTED key n [] in
        let opening = opening_same Rests turn in
        let shown = out_shows begin task v w may_draw p.row (end_of key) n out in
        let is_near : IsBetween begin v w p.binding.key n =
        near_row p used opening n shown.drawn [] [] shown.added shown.shows in
        let seen = used.trusted.seen in
        rests_finish shown.drawn [] [] shown.added shown.shows.counted turn (answer_of fields epoch)
        (by_protect (answer_of fields epoch) (inr (inr (inl (record {
          is = bound_to p used opening (answer_of fields epoch) epoch_is key_is fits;
          told = refl;
          is_near = subst (λ (k : ℕ). IsBetween begin v w k n) (sym key_is) is_near;
          at_end = out.0;
        })))))
        (epoch_stands fields epoch later (omega arith) (λ code. absurd (omega arith)))
        (λ other number uses.
        absurd (unused fields epoch (λ code. absurd (omega arith)) (λ code. absurd (omega arith)) other number
        uses))
        (λ code. absurd (omega arith))

    -- the reserve of the number that was drawn was refused
    failed : (fault : BookFault) (position n : ℕ) → clear_fault p.binding task.octets ≡ None
        → position ≡ entry_count w.turn.known
        → n < end_of p.binding.key
        → (Draws p.row (end_of p.binding.key) n v.numbers w.numbers
        ⊎ ComesBack p.row (end_of p.binding.key) n v.numbers w.numbers)
        → TakesTurn told (Reserves p.binding.key n (Err fault)) v.turn w.turn
        → Answered layout begin segment v w task (fault_answer fault position)
    failed fault position n fits at below drawn t =
        let fails : BookView → BookView → Type 0 = Reserves p.binding.key n (Err fault) in
        let opening = opening_taken (Reserves p.binding.key n (Err fault)) t in
        let same : t.given.changes ≡ t.found.changes =
        reserves_changes p.binding.key n (Err fault) t.found t.given t.does in
        let shows = drawn_shows drawn in
        refused told (call_of (Reserves p.binding.key n (Err fault)) t) may_draw p.binding.key n p.row
        (place_found p used opening (Reserves p.binding.key n (Err fault)) t same) below
        (near_row p used opening n ((p.row, n) ∷ []) [] [] ((p.row, 1) ∷ []) shows) recorded
        (record { drawn = (p.row, n) ∷ []; spent = []; raised = []; added = (p.row, 1) ∷ []; counted = shows.counted })
        fault position (at ∙ ap (λ (k : Turn). entry_count k.known) t.visits.takes.turn) t.does
        (λ q low state unmarked. may_reserve p used opening (Reserves p.binding.key n (Err fault)) t same fits q n low
        unmarked) where
          drawn_shows : (Draws p.row (end_of p.binding.key) n v.numbers w.numbers
              ⊎ ComesBack p.row (end_of p.binding.key) n v.numbers w.numbers)
              → Shows begin task v w p.row n ((p.row, n) ∷ []) [] [] ((p.row, 1) ∷ [])
          drawn_shows (inl d) = draws_shows begin task v w may_draw p.row (end_of p.binding.key) n d
          drawn_shows (inr b) = back_shows begin task v w may_draw p.row (end_of p.binding.key) n b

  refuses_at : (plan : PlanLines) → v.turn.known.opening.plan ≡ plan → (fault : ShieldFault) (epoch : ℕ)
      → IsRefusedAt told plan task.link task.octets fault epoch v.turn w.turn → w.numbers ≡ v.numbers
      → Handled layout begin v w (task ∷ []) (deed_of segment task (answer_of (fault_told fault) epoch) ∷ [])
  refuses_at plan planned_is fault epoch (inl (refused_it, zero_is, same)) numbers =
      let check : channel_check begin.plan task.link task.octets ≡ Err fault =
      subst (λ (q : PlanLines). channel_check q task.link task.octets ≡ Err fault) (sym planned_is ∙ began.plan)
      refused_it in
      planned (fault_told fault) epoch zero_is
      (ap unbound_told (planned_reply begin.plan (at_epoch begin.start (entries_in w) 0) task.link task.octets fault
      check))
      (λ channel there. let no = sym check ∙ there in cc) (refusal_code fault) numbers same
  refuses_at plan planned_is fault epoch (inr (f, low, turn)) numbers = fails_at fault epoch f low turn numbers

  so : (fields : Told) (position : ℕ) → fields.code ≢ NO_MEMORY
      → Handled layout begin v w (task ∷ []) (deed_of segment task (answer_of fields position) ∷ [])
      → Answered layout begin segment v w task (Some (answer_of fields position))
  so fields position other handled = answered_so begin layout segment v w task (answer_of fields position) other handled

  refusal_other : (fault : ShieldFault) → (fault_told fault).code ≢ NO_MEMORY
  refusal_other (shield_faults.Layout number) code = omega arith
  refusal_other shield_faults.Channel code = omega arith
  refusal_other shield_faults.State code = omega arith

  pub protecting_answers : (plan : PlanLines) (kept : Option Permit) (out : List ℕ) (result : Protected)
      → v.turn.known.opening.plan ≡ plan
      → IsProtectStep told plan task.link task.octets out kept result v w
      → Answered layout begin segment v w task (protected_answer result out)
  protecting_answers plan kept out (protecteds.Done d) planned_is (p, kept_is, used, (is, turn)) =
      so (numbered PROTECTED d.key d.number (take d.length out)) d.epoch (λ code. absurd (omega arith))
      (done p (subst (λ (q : PlanLines). IsUsed q task.link task.octets p w.turn) (sym planned_is) used) out d is turn)
  protecting_answers plan kept out protecteds.Clear planned_is (sent_clear, numbers, same) =
      let check : channel_check begin.plan task.link task.octets ≡ Ok None =
      subst (λ (q : PlanLines). channel_check q task.link task.octets ≡ Ok None) (sym planned_is ∙ began.plan)
      sent_clear in
      so (plain CLEAR 0) 0 (λ code. absurd (omega arith)) (planned (plain CLEAR 0) 0 refl
      (ap unbound_told (clear_reply begin.plan (at_epoch begin.start (entries_in w) 0) task.link task.octets check))
      (λ channel there. let no = sym check ∙ there in cc)
      (λ code. absurd (omega arith), λ code. absurd (omega arith), λ code. absurd (omega arith)) numbers same)
  protecting_answers plan kept out (protecteds.Refused fault epoch) planned_is (refused_it, numbers) =
      so (fault_told fault) epoch (refusal_other fault) (refuses_at plan planned_is fault epoch refused_it numbers)
  protecting_answers plan kept out (protecteds.Exhausted key n epoch) planned_is (p, used, (is, turn)) =
      so (numbered EXHAUSTED key n []) epoch (λ code. absurd (omega arith))
      (exhausted p (subst (λ (q : PlanLines). IsUsed q task.link task.octets p w.turn) (sym planned_is) used) key n
      epoch is turn)
  protecting_answers plan kept out (protecteds.Fault fault position) planned_is
      (p, used, (fits, later, at, (n, below, drawn, t))) =
      failed p (subst (λ (q : PlanLines). IsUsed q task.link task.octets p w.turn) (sym planned_is) used) fault position
      n fits at below drawn t
