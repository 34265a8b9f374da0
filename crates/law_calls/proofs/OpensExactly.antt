-- A frame that is opened moves no word.
use Rattle.std.proofs.Common.{◌≡◌, ◌≢◌, ℕ, ◌≤◌, Bool, false, List, [], ◌∷◌, ◌++◌, length, length-append, refl, sym, ◌∙◌}
use Rattle.std.proofs.Common.{ap, subst, inl, inr, arith, append-nil, Result, Ok, Err, MatchResult}
use Rattle.sdls_base.specs.declared.entry.Entry.{Entry}
use Rattle.sdls_outside.specs.Faults.{Rose}
use Rattle.frame_checks.specs.declared.opening_frames.OpenReply.{OpenReply}
use Rattle.frame_checks.specs.Accepting.{field_in, LeavesOctets}
use Rattle.frame_checks.specs.OpeningFrames.{IsOpenReply}
use Rattle.unit_plan.specs.PlanLines.{PlanLines}
use Rattle.unit_state.specs.declared.state.State.{State}
use Rattle.record_io.specs.declared.answers.Answer.{Answer}
use Rattle.record_io.specs.declared.reader.RecordKind.{RecordKind}
use Rattle.record_io.specs.declared.reader.RecordKind.TheVariants.{Open}
use Rattle.record_io.specs.declared.item_cursor.Record.{Record}
use Rattle.counter_table.specs.declared.view.Numbers.{Numbers}
use Rattle.counter_table.specs.declared.view.View.{View}
use Rattle.counter_table.specs.Turn.{places}
use Rattle.run_promise.specs.Answers.{opened_told}
use Rattle.run_promise.specs.History.{frame_entry}
use Rattle.run_promise.specs.Log.{entries_of}
use Rattle.unit_book.specs.declared.fault.BookFault.{BookFault}
use Rattle.unit_book.specs.declared.fault.BookFault.TheVariants as refusals
use Rattle.unit_book.specs.Book.{BookView, IsBarred, IsUnstored}
use Rattle.unit_book.specs.Records.{OpensWithEntry, RefusesFrame}
use Rattle.shared_unit.specs.Calls.{WithPosition}
use Rattle.shared_unit.specs.Told.{known_of_book}
use Rattle.shared_unit.specs.Turn.{FindsCovered, Visits}
use Rattle.run_promise.specs.Call.{Begin}
use Rattle.law_workers.specs.Views.{entries_in, log_of}
use Rattle.run_promise.specs.Deed.{deed_of}
use Rattle.run_promise.specs.Words.{Kept, Tells, TellsKind}
use Rattle.run_promise.specs.OneLane.{now, AloneOpened, ServesKind, AloneServes}
use Rattle.law_workers.specs.InTurn.{IsClean, AllStand}
use Rattle.law_workers.specs.Began.{BeganWith}
use Rattle.law_calls.specs.Answering.{answer_of, fault_answer, opened_answer, AnsweredExactly}
use Rattle.law_calls.proofs.Behind.{lines_of, lines_entries}
use Rattle.law_calls.proofs.OneRecord.{Turned}
use Rattle.law_calls.proofs.Moving.{moves_none}
use Rattle.law_calls.proofs.Exactness.{AreDrawn, of_record, refused_exactly, told_exactly}
use Rattle.law_calls.proofs.InTurn.{Passes, Stands, clean_found, covers, given_as, given_entered, plain_uncounted}
use Rattle.law_calls.proofs.InTurn.{same_stands, served_clean, stands_found, takes_pass}
use Rattle.law_calls.proofs.Visit.{plan_is, turned}

module _ (told : Bool) (begin : Begin) (segment : ℕ) (task : Record)
    (v w : View) (found given : BookView) (began : BeganWith told begin v.turn.known.opening)
    (free : v.turn.holds ≡ false)
    (opens_it : task.kind ≡ Open) (numbers : w.numbers ≡ v.numbers) (visits : Visits told found given v.turn w.turn)
    (covered : FindsCovered told v w) where
  tells : (answer : Answer) → Tells begin.start (entries_in w) (deed_of segment task answer) Kept
  tells answer = subst (λ (k : RecordKind). TellsKind begin.start (entries_in w) k (deed_of segment task answer) Kept)
      (sym opens_it) refl

  by_lines : (es : List Entry) → given.log ≡ found.log ++ lines_of es → Turned found.log es v.turn w.turn
  by_lines es is = turned told begin found given v.turn w.turn began free visits es is

  none_left : given ≡ found → given.log ≡ found.log ++ lines_of []
  none_left same = ap (λ (b : BookView). b.log) same ∙ sym (append-nil found.log)

  of_frame : (reply : OpenReply) → AreDrawn (Kept ∷ []) (frame_entry found.plan found.state task.index reply ∷ [])
  of_frame reply = (of_record (Kept ∷ []) (frame_entry found.plan found.state task.index reply) task.index refl, tt)

  -- no number was spent, and those that were before lie below their marks
  passes : (es : List Entry) (is : given.log ≡ found.log ++ lines_of es)
      → Passes begin v w found.log es (by_lines es is) []
  passes es is = takes_pass told begin found given v.turn v w began free visits es (by_lines es is) []
      (ap (λ (k : Numbers). k.spent) numbers ∙ sym (append-nil v.numbers.spent))
      (covers told begin v v w began free refl (omega arith) refl refl (by_lines es is).earlier covered
      (places (length found.log) (length es)) (by_lines es is).made)

  -- the site had not failed when the book was found
  abbrev FoundClean : Type 0
  FoundClean = ¬ Rose found.opened.faults found.site.faults

  stands : FoundClean → Stands begin found
  stands clean = stands_found told begin found given v.turn v w began free visits clean

  was_clean : FoundClean → IsClean v
  was_clean clean = clean_found told begin found given v.turn v w began free visits refl clean

  -- all entries stand, where the book was given back as it was found
  all_given : FoundClean → given ≡ found → AllStand w
  all_given clean same = given_as told begin found given v.turn v w began free visits found same
      (visits.found_kept.whole clean)

  plan : found.plan ≡ begin.plan
  plan = plan_is told begin found given v.turn w.turn began free visits

  -- the entry of a reply, as the machine says it
  entry_is : (reply : OpenReply) → FoundClean
      → frame_entry found.plan found.state task.index reply ≡ frame_entry begin.plan (now begin (entries_of found.log))
      task.index reply
  entry_is reply clean = ap (λ (p : PlanLines). frame_entry p found.state task.index reply) plan
      ∙ ap (λ (s : State). frame_entry begin.plan s task.index reply) (stands clean)

  replies_there : (reply : OpenReply) (field : List ℕ) → FoundClean
      → IsOpenReply found.plan found.state task.link task.octets reply field
      → IsOpenReply begin.plan (now begin (entries_of found.log)) task.link task.octets reply field
  replies_there reply field clean h =
      subst (λ (s : State). IsOpenReply begin.plan s task.link task.octets reply field) (stands clean)
      (subst (λ (p : PlanLines). IsOpenReply p found.state task.link task.octets reply field) plan h)

  by_kind : (answer : Answer) (es : List Entry)
      → AloneOpened begin (entries_of found.log) task answer es Kept
      → AloneServes begin (entries_of found.log) task answer es Kept
  by_kind answer es h =
      inr (subst (λ (k : RecordKind). ServesKind begin (entries_of found.log) k task answer es Kept) (sym opens_it) h)

  refused : (es : List Entry) → given.log ≡ found.log ++ lines_of es → AreDrawn (Kept ∷ []) es
      → (fault : BookFault) (position : ℕ)
      → (((count : ℕ) → fault ≢ refusals.SiteFault count) → found.log ≡ log_of v → AllStand v → AllStand w)
      → (fault ≡ refusals.SessionFull → (length es ≤ 1) × IsClean v × AllStand w)
      → AnsweredExactly begin segment v w task (fault_answer fault position)
  refused es is drawn fault position stays few =
      refused_exactly begin segment task v w Kept (moves_none begin v w numbers) found.log es (by_lines es is) drawn []
      (passes es is) (λ _. refl) fault position stays few (λ _ _. refl)

  unstored : (reply : OpenReply) (fault : BookFault) (position : ℕ)
      → IsUnstored (frame_entry found.plan found.state task.index reply) found given fault
      → AnsweredExactly begin segment v w task (fault_answer fault position)
  unstored reply (refusals.SiteFault count) position h =
      refused (frame_entry found.plan found.state task.index reply ∷ []) (ap (λ (b : BookView). b.log) h.3)
      (of_frame reply) (refusals.SiteFault count) position
      (λ other. absurd (other count refl)) (λ same. absurd (let no = same in cc))
  unstored reply (refusals.Stopped count) position h = absurd h
  unstored reply refusals.SessionFull position h = absurd h
  unstored reply refusals.NoMemory position h = absurd h

  pub opens_exactly : (left : List ℕ) (result : Result (OpenReply × ℕ) (BookFault × ℕ))
      → WithPosition result (known_of_book given) (λ answer. MatchResult answer
      (λ told. OpensWithEntry task.index task.link task.octets (field_in told.0 left) found given told.0 told.1
      × LeavesOctets told.0 task.octets left)
      (RefusesFrame task.index task.link task.octets found given))
      → AnsweredExactly begin segment v w task (opened_answer result left)
  opens_exactly left (Ok (reply, position)) (opened, leaves) =
      let entry : Entry = frame_entry found.plan found.state task.index reply in
      let added : given.log ≡ found.log ++ lines_of (entry ∷ []) = ap (λ (b : BookView). b.log) opened.made.1.is in
      told_exactly begin segment task v w Kept (moves_none begin v w numbers) found.log
      (frame_entry found.plan found.state task.index reply ∷ [])
      (by_lines (frame_entry found.plan found.state task.index reply ∷ []) added) (of_frame reply) []
      (passes (frame_entry found.plan found.state task.index reply ∷ []) added)
      (answer_of (opened_told reply (field_in reply left)) position)
      (tells (answer_of (opened_told reply (field_in reply left)) position))
      (λ here level backed.
      let clean : FoundClean = opened.made.0.0 in
      served_clean begin v w found.log (frame_entry found.plan found.state task.index reply ∷ [])
      (by_lines (frame_entry found.plan found.state task.index reply ∷ []) added) segment task Kept []
      (passes (frame_entry found.plan found.state task.index reply ∷ []) added)
      (answer_of (opened_told reply (field_in reply left)) position) here
      (level.all (was_clean clean))
      (given_entered told begin found given v.turn v w began free visits found
      (frame_entry found.plan found.state task.index reply) position
      opened.made.1 (visits.found_kept.whole clean))
      (plain_uncounted task.kind Open _ opens_it refl)
      (by_kind (answer_of (opened_told reply (field_in reply left)) position)
      (frame_entry found.plan found.state task.index reply ∷ []) (record {
        reply = reply;
        field = field_in reply left;
        replies = replies_there reply (field_in reply left) clean opened.reply_is;
        told = refl;
        position_is =
            let log : entries_of given.log ≡ entries_of found.log ++ entry ∷ [] =
            ap entries_of added ∙ lines_entries found.log (entry ∷ []) in
            opened.made.1.position_is ∙ ap length log ∙ length-append (entries_of found.log) (entry ∷ []);
        own_is = ap (λ (e : Entry). e ∷ []) (entry_is reply clean);
        move_is = refl;
      })))
  opens_exactly left (Err (fault, position)) (inl (is_barred, same), at) = refused [] (none_left same) tt fault position
      (λ other here all. same_stands told begin found given v.turn v w began free visits same refl here all)
      (λ is. let full = subst (IsBarred found) is is_barred in (omega arith, was_clean full.0, all_given full.0 same))
  opens_exactly left (Err (fault, position)) (inr (can, (reply, field, replies, fails)), at) =
      unstored reply fault position fails
