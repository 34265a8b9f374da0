-- One segment read and served: the run goes on, or came to its end: for `serve_next`.
use Rattle.std.proofs.Common.{◌≡◌, ◌⊎◌, ℕ, ◌<◌, ◌≤◌, List, [], ◌∷◌, ◌++◌, length, Some, None, Ok, Err, refl, sym, ◌∙◌}
use Rattle.std.proofs.Common.{ap, subst, arith, inl, inr}
use Rattle.std.specs.Prelude.{IfNone, Option, Result}
use Rattle.std.proofs.lemmas.Option.{slice_get_within}
use Rattle.fsr_log.specs.Report.{Report, report_of}
use Rattle.counter_table.specs.declared.view.View.{View}
use Rattle.counter_table.specs.Whole.{IsWhole}
use Rattle.record_io.specs.declared.answers.Answer.{Answer}
use Rattle.record_io.specs.declared.reader.RecordKind.{RecordKind}
use Rattle.record_io.specs.declared.reader.RecordKind.TheVariants.{Monitor}
use Rattle.record_io.specs.declared.item_cursor.Record.{Record}
use Rattle.record_io.specs.declared.item_cursor.SegmentEnd.{SegmentEnd}
use Rattle.record_io.specs.declared.item_cursor.SegmentEnd.TheVariants as segments
use Rattle.record_io.specs.Input.{Item}
use Rattle.record_io.specs.Places.{Place, counted, first_count, places_of, records_of}
use Rattle.record_io.specs.Reading.{GoesOn, HasFaultCause, Loses, ReadsMonitor, ReadsTo, SourceSeen, Standing}
use Rattle.run_promise.specs.Account.{HandledRead}
use Rattle.run_promise.specs.Call.{Begin}
use Rattle.run_promise.specs.declared.end.RunEnd.{RunEnd}
use Rattle.run_promise.specs.declared.end.RunEnd.TheVariants as ends
use Rattle.law_runs.specs.Coming.{IsServed, notes_in}
use Rattle.law_runs.proofs.Looping.{Reads, badly, before_reads, comes, its_place, last_reads, monitor_reads, more_reads}
use Rattle.law_runs.proofs.Looping.{notes_next, serves_next, size_all, size_few, size_most, wants, wants_reading, well}
use Rattle.cli_run.specs.declared.serving.Stop.{Stop}
use Rattle.cli_run.specs.declared.serving.Stop.TheVariants as stops
use Rattle.cli_run.specs.Serving.{Comes, EndsAs, Goes, Leads, ServesSegment, came_after, end_of_stop}

abbrev pub reads_of : (start now : SourceSeen) (standing : Standing) (items : List Item) (records : List Record)
    (end : SegmentEnd)
    → ReadsTo start now standing items records end → (counted first_count items).inside ≡ 0
    → Reads start now items records
reads_of start now standing items records segments.More h begun = more_reads start now standing items records h begun
reads_of start now standing items records (segments.Monitor task) h begun =
    before_reads start now standing items records task h begun
reads_of start now standing items records segments.End h begun = last_reads start now items records h.0 begun
reads_of start now standing items records (segments.Malformed offset) h begun =
    last_reads start now items records h.0 begun
reads_of start now standing items records (segments.SourceFault count) h begun =
    last_reads start now items records h.0 begun

abbrev pub kind_first : List Record → RecordKind
kind_first [] = Monitor
kind_first (task ∷ tasks) = task.kind

-- the record that ended a segment, if one did, is a Monitor record
pub monitor_kind : (start now : SourceSeen) (standing : Standing) (items : List Item) (records : List Record)
    (end : SegmentEnd)
    → ReadsTo start now standing items records end → (task : Record) → end ≡ segments.Monitor task → task.kind ≡ Monitor
monitor_kind start now standing items records end h task is =
    of_task (subst (ReadsTo start now standing items records) is h)
  where
    of_task : ReadsMonitor start now standing items records task → task.kind ≡ Monitor
    of_task m = ap kind_first (m.task_is ∙ ap records_of (its_place start now standing items records task m))

-- ---- records that were read and served, behind items whose records were

module _ (start now : SourceSeen) (begin : Begin) (first v w : View) (items : List Item) (answers : List Answer)
    (way : IsServed begin first v first.turn.known.put_faults v.turn.known.put_faults v.turn.known.standing items
    answers) (records : List Record)
    (r : Reads start now items records) (whole : IsWhole begin.rows v) (old new : Report)
    (is : old ≡ report_of (notes_in items answers)) where
  -- all was put
  pub serves_on : (s : ServesSegment begin records (Ok tt) v w old new)
      → IsServed begin first w first.turn.known.put_faults w.turn.known.put_faults w.turn.known.standing
      (items ++ r.more) (answers ++ s.answers)
  serves_on s = serves_next start now begin first v first.turn.known.put_faults v.turn.known.put_faults
      v.turn.known.standing items answers way records r
      s.mid w s.answers w.turn.known.standing s.stands whole s.handles (s.reported (notes_in items answers) r.number is)
      w.turn.known.put_faults s.so.0 s.so.1

  pub notes_on : (s : ServesSegment begin records (Ok tt) v w old new)
      → new ≡ report_of (notes_in (items ++ r.more) (answers ++ s.answers))
  notes_on s = s.noted (notes_in items answers) r.number is
      ∙ ap report_of
      (sym (notes_next start now begin first v first.turn.known.put_faults v.turn.known.put_faults
      v.turn.known.standing items answers way records r
      s.mid w s.answers w.turn.known.standing s.stands whole s.handles
      (s.reported (notes_in items answers) r.number is)))

  -- no record was left out but a Monitor record that ended the segment
  all_read : (came told : RunEnd) (given : List Answer) (last : ℕ) → HandledRead (record {
    came = came;
    named = told;
    items = r.all;
    read = r.read;
    part = r.part;
    handled = places_of (items ++ r.more);
    answers = given;
    faults_when_put = last;
  })
  all_read came told given last = by_whole r.whole
    where
      by_whole : (places_of r.all ≡ places_of (items ++ r.more))
          ⊎ ((place : Place) × (place.task.kind ≡ Monitor) × (r.number ≤ place.segment)
          × (places_of r.all ≡ places_of (items ++ r.more) ++ place ∷ [])) → HandledRead (record {
            came = came;
            named = told;
            items = r.all;
            read = r.read;
            part = r.part;
            handled = places_of (items ++ r.more);
            answers = given;
            faults_when_put = last;
          })
      by_whole (inl same) = inl (sym same)
      by_whole (inr (place, kind, high, same)) = inr (place, kind, same)

  -- no more records are served
  pub stops_so : (stop : Stop) → ServesSegment begin records (Err stop) v w old new
      → Comes start now begin first w (end_of_stop stop)
  stops_so stops.NoMemory s =
      subst (λ (x : View). Comes start now begin first x ends.NoMemory) (sym s)
      (wants start now begin first v first.turn.known.put_faults v.turn.known.put_faults v.turn.known.standing items
      answers way records r)
  stops_so stops.Full s =
      let rep = s.reported (notes_in items answers) r.number is in
      comes start now begin first v first.turn.known.put_faults v.turn.known.put_faults v.turn.known.standing items
      answers way records
      r s.mid w s.answers w.turn.known.standing s.stands whole s.handles rep ends.SessionFull w.turn.known.put_faults tt
      (λ told last. (
        all_read ends.SessionFull told (answers ++ s.answers) last,
        size_few start now begin first v first.turn.known.put_faults v.turn.known.put_faults v.turn.known.standing items
            answers way records
            r s.mid w s.answers w.turn.known.standing s.stands whole s.handles rep
            (slice_get_within records (length s.answers) s.so.1.task s.so.1.first_without),
      ))
      (well start now begin first v first.turn.known.put_faults v.turn.known.put_faults v.turn.known.standing items
      answers way records
      r s.mid w s.answers w.turn.known.standing s.stands whole s.handles rep w.turn.known.put_faults s.so.0)
      (λ is. s.so.1)
  stops_so stops.PutFailed s =
      let rep = s.reported (notes_in items answers) r.number is in
      comes start now begin first v first.turn.known.put_faults v.turn.known.put_faults v.turn.known.standing items
      answers way records
      r s.mid w s.answers w.turn.known.standing s.stands whole s.handles rep ends.PutFailed w.turn.known.put_faults tt
      (λ told last. (
        all_read ends.PutFailed told (answers ++ s.answers) last,
        size_most start now begin first v first.turn.known.put_faults v.turn.known.put_faults v.turn.known.standing
            items answers way records
            r s.mid w s.answers w.turn.known.standing s.stands whole s.handles rep,
      ))
      (badly start now begin first v first.turn.known.put_faults v.turn.known.put_faults v.turn.known.standing items
      answers way records
      r s.mid w s.answers w.turn.known.standing s.stands whole s.handles rep w.turn.known.put_faults s.so)
      (λ is. absurd (let t : ends.PutFailed ≡ ends.SessionFull = is in cc))

-- ---- a segment

module _ (start before now : SourceSeen) (standing standing_now : Standing) (begin : Begin) (first v w : View)
    (old new : Report)
    (goes : Goes start before standing begin first v old) (records : List Record) (whole : IsWhole begin.rows v) where
  -- the records of the segment were served, with this end
  module _ (s : ServesSegment begin records (Ok tt) v w old new) where
    pub leads_on : (end : SegmentEnd) → ReadsTo start now standing_now goes.way.items records end
        → HasFaultCause before.faults now.faults end
        → (z : View) (last : Report) (came : Option RunEnd) → EndsAs begin end came w z new last
        → Leads start now standing_now begin first z last came
    leads_on segments.More h cause z last came e =
        let r : Reads start now goes.way.items records =
        more_reads start now standing_now goes.way.items records h goes.way.reading.closed in
        let here : Goes start now standing_now begin first w new = record {
          way = record {
            items = goes.way.items ++ h.more;
            read = h.read;
            answers = goes.way.answers ++ s.answers;
            reading = h.reading;
            stood = cause ∙ goes.way.stood;
            served = serves_on start now begin first v w goes.way.items goes.way.answers goes.way.served records
                (more_reads start now standing_now goes.way.items records h goes.way.reading.closed) whole old new
                goes.reports s;
          };
          reports = notes_on start now begin first v w goes.way.items goes.way.answers goes.way.served records
              (more_reads start now standing_now goes.way.items records h goes.way.reading.closed) whole old new
              goes.reports s;
        } in
        subst (λ (c : Option RunEnd). Leads start now standing_now begin first z last c) (sym e.0)
        (subst (λ (x : View). Goes start now standing_now begin first x last) (sym e.1)
        (subst (λ (x : Report). Goes start now standing_now begin first w x) (sym e.2) here))
    leads_on (segments.Monitor task) h cause z last came (result, came_is, t) =
        subst (λ (c : Option RunEnd). Leads start now standing_now begin first z last c) (sym came_is)
        (by_result result t)
      where
        begun : (counted first_count goes.way.items).inside ≡ 0
        begun = goes.way.reading.closed

        served : IsServed begin first w first.turn.known.put_faults w.turn.known.put_faults w.turn.known.standing
            (goes.way.items ++ h.more) (goes.way.answers ++ s.answers)
        served = serves_on start now begin first v w goes.way.items goes.way.answers goes.way.served records
            (before_reads start now standing_now goes.way.items records task h goes.way.reading.closed) whole old new
            goes.reports s

        notes : new ≡ report_of (notes_in (goes.way.items ++ h.more) (goes.way.answers ++ s.answers))
        notes = notes_on start now begin first v w goes.way.items goes.way.answers goes.way.served records
            (before_reads start now standing_now goes.way.items records task h goes.way.reading.closed) whole old new
            goes.reports s

        by_result : (result : Result (Unit {0}) Stop) → ServesSegment begin (task ∷ []) result w z new last
            → Leads start now standing_now begin first z last (came_after result)
        by_result (Ok done) t = record {
          way = record {
            items = (goes.way.items ++ h.more) ++ h.monitor ∷ [];
            read = h.read;
            answers = (goes.way.answers ++ s.answers) ++ t.answers;
            reading = h.reading;
            stood = cause ∙ goes.way.stood;
            served = serves_on start now begin first w z (goes.way.items ++ h.more) (goes.way.answers ++ s.answers)
                served (task ∷ [])
                (monitor_reads start now standing_now goes.way.items records task h) s.handles.whole new last notes t;
          };
          reports = notes_on start now begin first w z (goes.way.items ++ h.more) (goes.way.answers ++ s.answers) served
              (task ∷ [])
              (monitor_reads start now standing_now goes.way.items records task h) s.handles.whole new last notes t;
        }
        by_result (Err stop) t = stops_so start now begin first w z (goes.way.items ++ h.more)
            (goes.way.answers ++ s.answers) served (task ∷ [])
            (monitor_reads start now standing_now goes.way.items records task h) s.handles.whole new last notes stop t
    leads_on segments.End h cause z last came e =
        subst (λ (c : Option RunEnd). Leads start now standing_now begin first z last c) (sym e.0)
        (subst (λ (x : View). Comes start now begin first x ends.Ended) (sym e.1)
        (comes start now begin first v first.turn.known.put_faults v.turn.known.put_faults v.turn.known.standing
        goes.way.items goes.way.answers goes.way.served records
        (last_reads start now goes.way.items records h.0 goes.way.reading.closed) s.mid w s.answers
        w.turn.known.standing s.stands whole s.handles
        (s.reported (notes_in goes.way.items goes.way.answers) _ goes.reports) ends.Ended w.turn.known.put_faults
        (h.1, h.2, cause ∙ goes.way.stood)
        (λ told last. (
          refl,
          size_all start now begin first v first.turn.known.put_faults v.turn.known.put_faults v.turn.known.standing
              goes.way.items goes.way.answers goes.way.served records
              (last_reads start now goes.way.items records h.0 goes.way.reading.closed) s.mid w s.answers
              w.turn.known.standing s.stands whole s.handles
              (s.reported (notes_in goes.way.items goes.way.answers) _ goes.reports) s.so.1,
        ))
        (well start now begin first v first.turn.known.put_faults v.turn.known.put_faults v.turn.known.standing
        goes.way.items goes.way.answers goes.way.served records
        (last_reads start now goes.way.items records h.0 goes.way.reading.closed) s.mid w s.answers
        w.turn.known.standing s.stands whole s.handles
        (s.reported (notes_in goes.way.items goes.way.answers) _ goes.reports) w.turn.known.put_faults s.so.0)
        (λ is. absurd (let t : ends.Ended ≡ ends.SessionFull = is in cc))))
    leads_on (segments.Malformed offset) h cause z last came e =
        subst (λ (c : Option RunEnd). Leads start now standing_now begin first z last c) (sym e.0)
        (subst (λ (x : View). Comes start now begin first x (ends.Malformed offset)) (sym e.1)
        (comes start now begin first v first.turn.known.put_faults v.turn.known.put_faults v.turn.known.standing
        goes.way.items goes.way.answers goes.way.served records
        (last_reads start now goes.way.items records h.0 goes.way.reading.closed) s.mid w s.answers
        w.turn.known.standing s.stands whole s.handles
        (s.reported (notes_in goes.way.items goes.way.answers) _ goes.reports) (ends.Malformed offset)
        w.turn.known.put_faults
        (h.1, h.2, cause ∙ goes.way.stood)
        (λ told last. (
          refl,
          size_all start now begin first v first.turn.known.put_faults v.turn.known.put_faults v.turn.known.standing
              goes.way.items goes.way.answers goes.way.served records
              (last_reads start now goes.way.items records h.0 goes.way.reading.closed) s.mid w s.answers
              w.turn.known.standing s.stands whole s.handles
              (s.reported (notes_in goes.way.items goes.way.answers) _ goes.reports) s.so.1,
        ))
        (well start now begin first v first.turn.known.put_faults v.turn.known.put_faults v.turn.known.standing
        goes.way.items goes.way.answers goes.way.served records
        (last_reads start now goes.way.items records h.0 goes.way.reading.closed) s.mid w s.answers
        w.turn.known.standing s.stands whole s.handles
        (s.reported (notes_in goes.way.items goes.way.answers) _ goes.reports) w.turn.known.put_faults s.so.0)
        (λ is. absurd (let t : ends.Malformed offset ≡ ends.SessionFull = is in cc))))
    leads_on (segments.SourceFault count) h cause z last came e =
        subst (λ (c : Option RunEnd). Leads start now standing_now begin first z last c) (sym e.0)
        (subst (λ (x : View). Comes start now begin first x (ends.SourceFault count)) (sym e.1)
        (comes start now begin first v first.turn.known.put_faults v.turn.known.put_faults v.turn.known.standing
        goes.way.items goes.way.answers goes.way.served records
        (last_reads start now goes.way.items records h.0 goes.way.reading.closed) s.mid w s.answers
        w.turn.known.standing s.stands whole s.handles
        (s.reported (notes_in goes.way.items goes.way.answers) _ goes.reports) (ends.SourceFault count)
        w.turn.known.put_faults
        ((let a = cause.1 in let b = goes.way.stood in omega arith), cause.0)
        (λ told last. (
          refl,
          size_all start now begin first v first.turn.known.put_faults v.turn.known.put_faults v.turn.known.standing
              goes.way.items goes.way.answers goes.way.served records
              (last_reads start now goes.way.items records h.0 goes.way.reading.closed) s.mid w s.answers
              w.turn.known.standing s.stands whole s.handles
              (s.reported (notes_in goes.way.items goes.way.answers) _ goes.reports) s.so.1,
        ))
        (well start now begin first v first.turn.known.put_faults v.turn.known.put_faults v.turn.known.standing
        goes.way.items goes.way.answers goes.way.served records
        (last_reads start now goes.way.items records h.0 goes.way.reading.closed) s.mid w s.answers
        w.turn.known.standing s.stands whole s.handles
        (s.reported (notes_in goes.way.items goes.way.answers) _ goes.reports) w.turn.known.put_faults s.so.0)
        (λ is. absurd (let t : ends.SourceFault count ≡ ends.SessionFull = is in cc))))

  -- no more records are served
  pub leads_to_stop : (r : Reads start now goes.way.items records) (stop : Stop)
      → ServesSegment begin records (Err stop) v w old new
      → Comes start now begin first w (end_of_stop stop)
  leads_to_stop r stop s = stops_so start now begin first v w goes.way.items goes.way.answers goes.way.served records r
      whole old new goes.reports stop s

-- memory ran out while the segment was read
pub leads_unread : (start before now : SourceSeen) (standing : Standing) (begin : Begin) (first v : View)
    (report : Report)
    (goes : Goes start before standing begin first v report) → Loses start now goes.way.items
    → Comes start now begin first v ends.NoMemory
leads_unread start before now standing begin first v report goes l =
    wants_reading start before now standing begin first v first.turn.known.put_faults v.turn.known.put_faults
    v.turn.known.standing goes.way l

if_none : {T P : Type 0} (o : Option T) → P → IfNone o P
if_none None p = p
if_none (Some x) p = tt

-- where the input may go on, more of it was taken
pub forth_after : (begin : Begin) (end : SegmentEnd) (came : Option RunEnd) (w z : View) (new last : Report)
    (before now : ℕ) → (GoesOn end → before < now)
    → EndsAs begin end came w z new last → IfNone came (before < now)
forth_after begin segments.More came w z new last before now forth e = if_none came (forth tt)
forth_after begin (segments.Monitor task) came w z new last before now forth e = if_none came (forth tt)
forth_after begin segments.End came w z new last before now forth e =
    subst (λ (c : Option RunEnd). IfNone c (before < now)) (sym e.0) tt
forth_after begin (segments.Malformed offset) came w z new last before now forth e =
    subst (λ (c : Option RunEnd). IfNone c (before < now)) (sym e.0) tt
forth_after begin (segments.SourceFault count) came w z new last before now forth e =
    subst (λ (c : Option RunEnd). IfNone c (before < now)) (sym e.0) tt
