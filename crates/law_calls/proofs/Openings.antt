-- The answer to a frame that was opened, or refused.
use Rattle.std.proofs.Common.{◌≡◌, ◌≢◌, ℕ, ◌<◌, ◌≤◌, Bool, IsTrue, false, List, [], ◌∷◌, length, refl, sym, ◌∙◌, ap}
use Rattle.std.proofs.Common.{subst, arith, inl, inr, Result, Ok, Err, MatchResult}
use Rattle.sdls_base.specs.declared.entry.Entry.{Entry}
use Rattle.frame_checks.specs.declared.opening_frames.OpenReply.{OpenReply}
use Rattle.frame_checks.specs.declared.opening_frames.OpenReply.TheVariants as opens
use Rattle.frame_checks.specs.Accepting.{field_in, LeavesOctets}
use Rattle.frame_checks.specs.OpeningFrames.{IsOpenReply}
use Rattle.record_io.specs.declared.reader.RecordKind.{RecordKind}
use Rattle.record_io.specs.declared.reader.RecordKind.TheVariants.{Protect, Open, Monitor}
use Rattle.record_io.specs.declared.item_cursor.Record.{Record}
use Rattle.record_io.specs.declared.code.TheConstants.{PROTECTED, DONE, SITE_FAULT}
use Rattle.unit_plan.specs.PlanLines.{PlanLines}
use Rattle.unit_state.specs.declared.state.State.{State}
use Rattle.unit_state.specs.History.{after_all}
use Rattle.counter_table.specs.declared.view.View.{View}
use Rattle.run_promise.specs.Answers.{opened_told, Uses}
use Rattle.law_workers.specs.Counts.{is_of_record}
use Rattle.run_promise.specs.History.{frame_entry, IsLegal}
use Rattle.run_promise.specs.Fits.{CanAppend, CanRaiseFloor, MayAppend, state_after}
use Rattle.run_promise.specs.Log.{entries_of, IsStored}
use Rattle.run_promise.specs.Numbers.{floor_of}
use Rattle.law_history.proofs.StoredEntries.{stored_raises}
use Rattle.unit_book.specs.declared.fault.BookFault.{BookFault}
use Rattle.unit_book.specs.Book.{BookView, CanEnter}
use Rattle.unit_book.specs.Records.{OpensWithEntry, RefusesFrame}
use Rattle.shared_unit.specs.Calls.{WithPosition}
use Rattle.shared_unit.specs.Told.{known_of_book}
use Rattle.shared_unit.specs.Turn.{Visits}
use Rattle.run_promise.specs.Call.{Begin}
use Rattle.law_workers.specs.Views.{IsBetween}
use Rattle.law_workers.specs.Work.{indexed}
use Rattle.law_workers.specs.Deeds.{course_in}
use Rattle.law_workers.specs.Order.{Layout}
use Rattle.law_workers.specs.Began.{BeganWith}
use Rattle.law_calls.specs.Answering.{Answered, answer_of, opened_answer}
use Rattle.law_calls.proofs.Behind.{tested}
use Rattle.law_calls.proofs.Counting.{counted_none}
use Rattle.law_calls.proofs.Fitted.{opened_fits}
use Rattle.law_calls.proofs.Visit.{plan_is, whole}
use Rattle.law_calls.proofs.OneRecord.{answered_so}
use Rattle.law_calls.proofs.Stages.{Call, Added, stage_found, barred, unstored, made, low_made}

-- no answer to an opening uses a number, or tells that the site failed
opened_plain : (reply : OpenReply) (field : List ℕ) → let code : ℕ = (opened_told reply field).code in
    (code ≢ PROTECTED) × (code ≢ DONE) × (code ≢ SITE_FAULT)
opened_plain (opens.Accepted spi key number from to) field =
    (λ is. absurd (omega arith), λ is. absurd (omega arith), λ is. absurd (omega arith))
opened_plain opens.Clear field = (λ is. absurd (omega arith), λ is. absurd (omega arith), λ is. absurd (omega arith))
opened_plain (opens.Layout number) field =
    (λ is. absurd (omega arith), λ is. absurd (omega arith), λ is. absurd (omega arith))
opened_plain opens.Channel field = (λ is. absurd (omega arith), λ is. absurd (omega arith), λ is. absurd (omega arith))
opened_plain opens.Spi field = (λ is. absurd (omega arith), λ is. absurd (omega arith), λ is. absurd (omega arith))
opened_plain opens.Direction field =
    (λ is. absurd (omega arith), λ is. absurd (omega arith), λ is. absurd (omega arith))
opened_plain (opens.State held) field =
    (λ is. absurd (omega arith), λ is. absurd (omega arith), λ is. absurd (omega arith))
opened_plain opens.Coverage field = (λ is. absurd (omega arith), λ is. absurd (omega arith), λ is. absurd (omega arith))
opened_plain opens.Mac field = (λ is. absurd (omega arith), λ is. absurd (omega arith), λ is. absurd (omega arith))
opened_plain (opens.Number key number high width) field =
    (λ is. absurd (omega arith), λ is. absurd (omega arith), λ is. absurd (omega arith))

opened_low : (reply : OpenReply) (field : List ℕ) → (opened_told reply field).code < SITE_FAULT
opened_low (opens.Accepted spi key number from to) field = omega arith
opened_low opens.Clear field = omega arith
opened_low (opens.Layout number) field = omega arith
opened_low opens.Channel field = omega arith
opened_low opens.Spi field = omega arith
opened_low opens.Direction field = omega arith
opened_low (opens.State held) field = omega arith
opened_low opens.Coverage field = omega arith
opened_low opens.Mac field = omega arith
opened_low (opens.Number key number high width) field = omega arith

unused : (reply : OpenReply) (field : List ℕ) (position key number : ℕ)
    → Uses (answer_of (opened_told reply field) position) key number → ⊥
unused reply field position key number (inl is, of_key, of_number) = (opened_plain reply field).0 is
unused reply field position key number (inr (is, some), of_key, of_number) = (opened_plain reply field).1 is

not_monitor : (kind : RecordKind) → kind ≡ Open → kind ≢ Monitor
not_monitor kind is other = let both : Open ≡ Monitor = sym is ∙ other in cc

not_protect : (kind : RecordKind) → kind ≡ Open → kind ≢ Protect
not_protect kind is other = let both : Open ≡ Protect = sym is ∙ other in cc

module _ (told : Bool) (begin : Begin) (layout : Layout) (segment : ℕ) (task : Record)
    (v w : View) (found given : BookView) (began : BeganWith told begin v.turn.known.opening)
    (free : v.turn.holds ≡ false)
    (opens_it : task.kind ≡ Open) (numbers : w.numbers ≡ v.numbers) (visits : Visits told found given v.turn w.turn)
  where
    abbrev call : Call told
    call = record {
      begin = begin;
      layout = layout;
      segment = segment;
      task = task;
      old_view = v;
      new_view = w;
      taken = v.turn;
      found = found;
      given = given;
      began = began;
      free = free;
      visits = visits;
      known = refl;
      seen = omega arith;
      pass = λ log es t. t;
    }

    none_added : Added told call
    none_added = record {
      drawn = [];
      spent = [];
      raised = [];
      added = [];
      counted = counted_none begin task v w numbers;
    }

    -- the frame's entry, in the state that was found
    module _ (reply : OpenReply) (field : List ℕ)
        (replies : IsOpenReply found.plan found.state task.link task.octets reply field)
        (can : CanEnter found) where
      entry : Entry
      entry = frame_entry found.plan found.state task.index reply

      state_is : found.state ≡ after_all begin.start (entries_of found.log)
      state_is = (whole told begin found given v.turn w.turn began free visits can.0).0

      plan_same : found.plan ≡ begin.plan
      plan_same = plan_is told begin found given v.turn w.turn began free visits

      replies_then : IsOpenReply begin.plan
          (after_all begin.start (entries_of found.log)) task.link task.octets reply field
      replies_then =
          subst (λ (p : PlanLines). IsOpenReply p
          (after_all begin.start (entries_of found.log)) task.link task.octets reply
          field) plan_same
          (subst (λ (s : State). IsOpenReply found.plan s task.link task.octets reply field) state_is replies)

      entry_then : frame_entry found.plan found.state task.index reply
          ≡ frame_entry begin.plan (after_all begin.start (entries_of found.log)) task.index reply
      entry_then = ap (λ (p : PlanLines). frame_entry p found.state task.index reply) plan_same
          ∙ ap (λ (s : State). frame_entry begin.plan s task.index reply) state_is

      legal : IsLegal (IsBetween begin v w) begin.plan (after_all begin.start (entries_of found.log)) (task ∷ [])
          (frame_entry found.plan found.state task.index reply)
      legal = inl (record {
        task = task;
        there = (0, omega arith, refl);
        kind_is = opens_it;
        reply = reply;
        field = field;
        replies = replies_then;
        entry_is = entry_then;
      })

      one : (index : ℕ) → tested (is_of_record index) (frame_entry found.plan found.state task.index reply ∷ [])
          ≤ indexed index (task ∷ [])
      one index = omega arith

      -- the frame is accepted with a number above the floor
      may : state_after (course_in begin w) (length (entries_of found.log)) ≡ found.state
          → IsTrue (IsStored found.state (frame_entry found.plan found.state task.index reply))
          → MayAppend (IsBetween begin v w) (course_in begin w) (length (entries_of found.log)) task
      may same stored =
          let raises = stored_raises found.plan found.state task.index reply stored in
          let can_raise : CanRaiseFloor (course_in begin w) (length (entries_of found.log)) task = record {
            spi = raises.spi;
            key = raises.key;
            number = raises.number;
            from = raises.from;
            to = raises.to;
            field = field;
            accepts =
                subst (λ (s : State). IsOpenReply begin.plan s task.link task.octets
                (opens.Accepted raises.spi raises.key raises.number raises.from raises.to) field)
                (sym same) (subst (λ (r : OpenReply). IsOpenReply begin.plan found.state task.link task.octets r field)
                raises.is
                (subst (λ (p : PlanLines). IsOpenReply p found.state task.link task.octets reply field) plan_same
                replies));
            above = subst (λ (s : State). floor_of s raises.key < raises.number) (sym same) raises.above;
          } in
          subst (λ (k : RecordKind). CanAppend (IsBetween begin v w) (course_in begin w) (length (entries_of found.log))
          task k) (sym opens_it) can_raise

    pub opening_answers : (left : List ℕ) (result : Result (OpenReply × ℕ) (BookFault × ℕ))
        → WithPosition result (known_of_book given) (λ answer. MatchResult answer
        (λ told. OpensWithEntry task.index task.link task.octets (field_in told.0 left) found given told.0 told.1
        × LeavesOctets told.0 task.octets left)
        (RefusesFrame task.index task.link task.octets found given))
        → Answered layout begin segment v w task (opened_answer result left)
    opening_answers left (Ok (reply, position)) (opened, leaves) =
        let field : List ℕ = field_in reply left in
        let can : CanEnter found = opened.made.0 in
        let front : List Entry = entries_of found.log in
        let low = opened_low reply field in
        answered_so begin layout segment v w task (answer_of (opened_told reply field) position)
        (λ code. absurd (omega arith))
        (made told call
        found [] (stage_found told call)
        (frame_entry found.plan found.state task.index reply) none_added can
        (legal reply field opened.reply_is can) (one reply field opened.reply_is can) (omega arith)
        (opened_told reply field) position opened.made.1 (not_protect task.kind opens_it)
        (not_monitor task.kind opens_it)
        (λ known at. opened_fits (IsBetween begin v w) (course_in begin w) task front (after_all begin.start front)
        (frame_entry found.plan found.state task.index reply) position known refl at opens_it reply field
        (replies_then reply field opened.reply_is can) (entry_then reply field opened.reply_is can))
        (λ key number uses. absurd (unused reply field position key number uses)) (opened_plain reply field).2
        (low_made (opened_told reply field).code low))
    opening_answers left (Err (fault, position)) (inl (is_barred, same), at) =
        barred told call
        found [] (stage_found told call)
        none_added same (not_monitor task.kind opens_it) fault position at is_barred
        (inl (not_protect task.kind opens_it))
    opening_answers left (Err (fault, position)) (inr (can, (reply, field, replies, refused)), at) =
        unstored told call
        found [] (stage_found told call)
        (frame_entry found.plan found.state task.index reply) none_added can
        (legal reply field replies can) (one reply field replies can) (omega arith) (not_monitor task.kind opens_it)
        fault
        position at refused (may reply field replies can)
