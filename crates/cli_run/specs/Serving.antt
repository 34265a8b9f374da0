-- What serving a segment does (profile).
use Rattle.std.specs.Prelude.{◌≡◌, ◌≤◌, Bool, true, false, List, [], ◌∷◌, length, Result, Ok, Err}
use Rattle.counter_table.specs.declared.view.View.{View}
use Rattle.record_io.specs.declared.answers.Answer.{Answer}
use Rattle.record_io.specs.declared.item_cursor.Record.{Record}
use Rattle.record_io.specs.declared.item_cursor.SegmentEnd.{SegmentEnd}
use Rattle.record_io.specs.declared.item_cursor.SegmentEnd.TheVariants as segments
use Rattle.record_io.specs.Reading.{SourceSeen, Standing}
use Rattle.std.specs.Prelude.{Option, Some, None}
use Rattle.run_promise.specs.Call.{Begin}
use Rattle.run_promise.specs.declared.end.RunEnd.{RunEnd}
use Rattle.run_promise.specs.declared.end.RunEnd.TheVariants as ends
use Rattle.fsr_log.specs.Report.{Report, report_of}
use Rattle.law_runs.specs.Coming.{HasCome, IsUnderWay, notes_in}
use Rattle.law_runs.specs.Segment.{HandlesAndPuts, IsFullSegment, PutsBadly, PutsWell}
use Rattle.cli_run.specs.Reporting.{NotesAll, ReportsAll}
use Rattle.cli_run.specs.declared.serving.Stop.{Stop}
use Rattle.cli_run.specs.declared.serving.Stop.TheVariants as stops

-- the records were handled, and the answers noted and put, with this put; the log reported so before and afterwards
pub record IsHandledAndPut (begin : Begin) (records : List Record) (v w : View) (old new : Report)
    (P : View → List Answer → Type 0) : Type 0 where
  pub mid : View
  pub answers : List Answer
  pub handles : HandlesAndPuts begin v mid w records answers w.turn.known.standing
  pub stands : v.turn.known.standing ≤ w.turn.known.standing
  pub noted : NotesAll records answers old new
  pub reported : ReportsAll records answers old
  pub so : P mid answers

-- Each record was answered, and all was put; or memory ran out, and nothing was done; or the history was full, and
-- the answers before were put; or a put failed.
abbrev pub ServesSegment : Begin → List Record → Result (Unit {0}) Stop → View → View → Report → Report → Type 0
ServesSegment begin records (Ok done) v w old new = IsHandledAndPut begin records v w old new (λ mid answers.
    PutsWell begin mid w answers v.turn.known.put_faults w.turn.known.put_faults × (length answers ≡ length records))
ServesSegment begin records (Err stops.NoMemory) v w old new = w ≡ v
ServesSegment begin records (Err stops.Full) v w old new = IsHandledAndPut begin records v w old new (λ mid answers.
    PutsWell begin mid w answers v.turn.known.put_faults w.turn.known.put_faults
    × IsFullSegment begin v mid w records answers)
ServesSegment begin records (Err stops.PutFailed) v w old new =
    IsHandledAndPut begin records v w old new (λ mid answers.
    PutsBadly begin mid w answers v.turn.known.put_faults w.turn.known.put_faults)

-- whether more records are served, by how the put of the answers ended, and by whether the history was full
abbrev pub served_as : {E : Type 0} → Result (Unit {0}) E → Bool → Result (Unit {0}) Stop
served_as (Ok done) true = Err stops.Full
served_as (Ok done) false = Ok tt
served_as (Err fault) full = Err stops.PutFailed

-- what the worker knows of the run so far, and what the log reports
pub record Goes (start source : SourceSeen) (standing : Standing) (begin : Begin) (first now : View)
    (report : Report) : Type 0 where
  pub way : IsUnderWay start source standing begin first now first.turn.known.put_faults now.turn.known.put_faults
      now.turn.known.standing
  pub reports : report ≡ report_of (notes_in way.items way.answers)

abbrev pub Comes : SourceSeen → SourceSeen → Begin → View → View → RunEnd → Type 0
Comes start source begin first now came =
    HasCome start source begin first now first.turn.known.put_faults now.turn.known.put_faults now.turn.known.standing
    came

abbrev pub end_of_stop : Stop → RunEnd
end_of_stop stops.NoMemory = ends.NoMemory
end_of_stop stops.Full = ends.SessionFull
end_of_stop stops.PutFailed = ends.PutFailed

-- one segment more: the run goes on, or came to its end
abbrev pub Leads : SourceSeen → SourceSeen → Standing → Begin → View → View → Report → Option RunEnd → Type 0
Leads start source standing begin first now report None = Goes start source standing begin first now report
Leads start source standing begin first now report (Some came) = Comes start source begin first now came

-- nothing, where the records were served and all was put
abbrev pub came_after : Result (Unit {0}) Stop → Option RunEnd
came_after (Ok done) = None
came_after (Err stop) = Some (end_of_stop stop)

-- what the end of a segment that was served says of the run: a Monitor record that ended it is answered
abbrev pub EndsAs : Begin → SegmentEnd → Option RunEnd → View → View → Report → Report → Type 0
EndsAs begin segments.More came v w old new = (came ≡ None) × (w ≡ v) × (new ≡ old)
EndsAs begin (segments.Monitor task) came v w old new = (result : Result (Unit {0}) Stop) × (came ≡ came_after result)
    × ServesSegment begin (task ∷ []) result v w old new
EndsAs begin segments.End came v w old new = (came ≡ Some ends.Ended) × (w ≡ v) × (new ≡ old)
EndsAs begin (segments.Malformed offset) came v w old new = (came ≡ Some (ends.Malformed offset)) × (w ≡ v)
    × (new ≡ old)
EndsAs begin (segments.SourceFault count) came v w old new = (came ≡ Some (ends.SourceFault count)) × (w ≡ v)
    × (new ≡ old)
