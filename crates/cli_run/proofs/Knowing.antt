-- Serving only adds to what the worker knows: for the clauses `kept`.
use Rattle.std.proofs.Common.{◌≡◌, [], ◌∷◌, List, Option, Ok, Err, Result, sym, subst}
use Rattle.counter_table.specs.declared.view.View.{View}
use Rattle.fsr_log.specs.Report.{Report}
use Rattle.record_io.specs.declared.answers.Answer.{Answer}
use Rattle.record_io.specs.declared.item_cursor.Record.{Record}
use Rattle.record_io.specs.declared.item_cursor.SegmentEnd.{SegmentEnd}
use Rattle.record_io.specs.declared.item_cursor.SegmentEnd.TheVariants as segments
use Rattle.run_promise.specs.Call.{Begin}
use Rattle.run_promise.specs.declared.end.RunEnd.{RunEnd}
use Rattle.law_workers.specs.Deeds.{Ascend}
use Rattle.law_workers.specs.Views.{KnowsMore}
use Rattle.law_workers.proofs.Joining.{grows_further, grows_itself}
use Rattle.cli_run.specs.declared.serving.Stop.{Stop}
use Rattle.cli_run.specs.declared.serving.Stop.TheVariants as stops
use Rattle.cli_run.specs.Serving.{EndsAs, IsHandledAndPut, ServesSegment}
use Rattle.cli_run.proofs.Lying.{own_layout, own_lies}
use Rattle.cli_run.proofs.Messages.{ascend_one}

-- the same is known
knows_same : (v w : View) → w ≡ v → KnowsMore v w
knows_same v w same = subst (KnowsMore v) (sym same) (grows_itself v)

handled_knows : (begin : Begin) (records : List Record) (v w : View) (old new : Report)
    (P : View → List Answer → Type 0) → Ascend records → IsHandledAndPut begin records v w old new P → KnowsMore v w
handled_knows begin records v w old new P up is = grows_further v is.mid w
    (is.handles.handled (own_layout 0 records) 0 (own_lies 0 records up)).does.grows is.handles.puts.does.grows

serves_knows : (begin : Begin) (records : List Record) (result : Result (Unit {0}) Stop) (v w : View) (old new : Report)
    → Ascend records → ServesSegment begin records result v w old new → KnowsMore v w
serves_knows begin records (Ok done) v w old new up is = handled_knows begin records v w old new _ up is
serves_knows begin records (Err stops.NoMemory) v w old new up is = knows_same v w is
serves_knows begin records (Err stops.Full) v w old new up is = handled_knows begin records v w old new _ up is
serves_knows begin records (Err stops.PutFailed) v w old new up is = handled_knows begin records v w old new _ up is

-- so does the end of a segment
pub ends_knowing : (begin : Begin) (end : SegmentEnd) (came : Option RunEnd) (v w : View) (old new : Report)
    → EndsAs begin end came v w old new → KnowsMore v w
ends_knowing begin segments.More came v w old new is = knows_same v w is.1
ends_knowing begin (segments.Monitor task) came v w old new (result, came_is, is) =
    serves_knows begin (task ∷ []) result v w old new (ascend_one task) is
ends_knowing begin segments.End came v w old new is = knows_same v w is.1
ends_knowing begin (segments.Malformed offset) came v w old new is = knows_same v w is.1
ends_knowing begin (segments.SourceFault count) came v w old new is = knows_same v w is.1
