use Rattle.std.proofs.Common.{◌<◌, ℕ, List, IfNone, sym, subst}
use Rattle.record_io.specs.declared.item_cursor.Record.{Record}
use Rattle.record_io.specs.Reading.{SourceSeen, Standing}
use Rattle.counter_table.specs.declared.view.View.{View}
use Rattle.counter_table.specs.Whole.{IsWhole}
use Rattle.counter_table.specs.Worker.{view}
use Rattle.law_workers.specs.Began.{BeganWith}
use Rattle.run_promise.specs.declared.end.RunEnd.{RunEnd}
use Rattle.law_runs.proofs.Looping.{reads_ascend, reads_lanes}
use Rattle.frame_workers.proofs.Kept.{kept_later}
use Rattle.cli_run.specs.Serving.{Comes, Leads}
use Rattle.cli_run.proofs.Knowing.{ends_knowing}
use Rattle.cli_run.proofs.Leading.{forth_after, leads_on, leads_to_stop, leads_unread, monitor_kind, reads_of}
use Rattle.cli_run.proofs.Served.{began_with, begin_with}
use Rattle.cli_run.proofs.serving.Session.serve_next.Goals as goal

pub serve_read-requires-clause-lanes : goal.serve_read-requires-clause-lanes
serve_read-requires-clause-lanes g c = λ lifetimes bounds.
    let now : SourceSeen =
    record {
      told = g.S.Source.told;
      left = g.S.Source.left c.next_segment.new.source;
      faults = g.S.Source.faults c.next_segment.new.source;
    } in
    let (start, items, read, reading) = c.requires.reading in
    reads_lanes start now items c.in-Ok.read.0.items
    (reads_of start now c.next_segment.new.self items c.in-Ok.read.0.items c.in-Ok.read.1
    (c.in-Ok.ensures.reads start items read reading) reading.closed)
    c.in-Ok.ensures.plain

pub serve_read-requires-clause-ascend : goal.serve_read-requires-clause-ascend
serve_read-requires-clause-ascend g c = λ lifetimes bounds.
    let now : SourceSeen =
    record {
      told = g.S.Source.told;
      left = g.S.Source.left c.next_segment.new.source;
      faults = g.S.Source.faults c.next_segment.new.source;
    } in
    let (start, items, read, reading) = c.requires.reading in
    reads_ascend start now items c.in-Ok.read.0.items
    (reads_of start now c.next_segment.new.self items c.in-Ok.read.0.items c.in-Ok.read.1
    (c.in-Ok.ensures.reads start items read reading) reading.closed)

pub end_segment-requires-clause-kind : goal.end_segment-requires-clause-kind
end_segment-requires-clause-kind g c = λ lifetimes bounds task is.
    let now : SourceSeen =
    record {
      told = g.S.Source.told;
      left = g.S.Source.left c.next_segment.new.source;
      faults = g.S.Source.faults c.next_segment.new.source;
    } in
    let (start, items, read, reading) = c.requires.reading in
    monitor_kind start now c.next_segment.new.self items c.in-Ok.read.0.items c.in-Ok.read.1
    (c.in-Ok.ensures.reads start items read reading) task is

pub returns-in-Err-clause-leads : goal.returns-in-Err-clause-leads
returns-in-Err-clause-leads g c = λ start begin first began way.
    let before : SourceSeen = record {
      told = g.S.Source.told;
      left = g.S.Source.left c.args.source.now;
      faults = g.S.Source.faults c.args.source.now;
    } in
    let now : SourceSeen =
    record {
      told = g.S.Source.told;
      left = g.S.Source.left c.next_segment.new.source;
      faults = g.S.Source.faults c.next_segment.new.source;
    } in
    leads_unread start before now c.args.reader.now begin first (view c.args.self.now.worker) c.args.self.now.log way
    (c.in-Err.ensures.loses start way.way.items way.way.read way.way.reading)

pub returns-in-Ok-serve_read-clause-forth : goal.returns-in-Ok-serve_read-clause-forth
returns-in-Ok-serve_read-clause-forth g c =
    let w : View = view c.serve_read.new.self.worker in
    subst (λ (reader : Standing). IfNone c.end_segment.result (c.args.reader.now.taken < reader.taken))
    (sym c.serve_read.ensures.read)
    (forth_after (begin_with g.O.Site.told w.turn.known.opening) c.in-Ok.read.1 c.end_segment.result w
    (view c.end_segment.new.self.worker)
    c.serve_read.new.self.log c.end_segment.new.self.log c.args.reader.now.taken c.next_segment.new.self.taken
    c.in-Ok.ensures.forth
    (c.end_segment.ensures.ends (begin_with g.O.Site.told w.turn.known.opening)
    (began_with g.O.Site.told w.turn.known.opening)))

pub returns-in-Ok-serve_read-clause-leads : goal.returns-in-Ok-serve_read-clause-leads
returns-in-Ok-serve_read-clause-leads g c = λ start begin first began way.
    let before : SourceSeen = record {
      told = g.S.Source.told;
      left = g.S.Source.left c.args.source.now;
      faults = g.S.Source.faults c.args.source.now;
    } in
    let now : SourceSeen =
    record {
      told = g.S.Source.told;
      left = g.S.Source.left c.next_segment.new.source;
      faults = g.S.Source.faults c.next_segment.new.source;
    } in
    let v : View = view c.args.self.now.worker in
    let w : View = view c.serve_read.new.self.worker in
    let z : View = view c.end_segment.new.self.worker in
    let records : List Record = c.in-Ok.read.0.items in
    subst (λ (reader : Standing). Leads start now reader begin first z c.end_segment.new.self.log c.end_segment.result)
    (sym c.serve_read.ensures.read)
    (leads_on start before now c.args.reader.now c.next_segment.new.self begin first v w c.args.self.now.log
    c.serve_read.new.self.log way records
    (subst (λ (rows : ℕ). IsWhole rows v) (sym began.rows) c.requires.alone.whole)
    (c.in-Ok-serve_read.ensures.serves begin began)
    c.in-Ok.read.1 (c.in-Ok.ensures.reads start way.way.items way.way.read way.way.reading) c.in-Ok.ensures.cause z
    c.end_segment.new.self.log c.end_segment.result
    (c.end_segment.ensures.ends begin
    (subst (BeganWith g.O.Site.told begin) (sym c.in-Ok-serve_read.ensures.opening) began)))

pub returns-in-Err-serve_read-clause-leads : goal.returns-in-Err-serve_read-clause-leads
returns-in-Err-serve_read-clause-leads g c = λ start begin first began way.
    let before : SourceSeen = record {
      told = g.S.Source.told;
      left = g.S.Source.left c.args.source.now;
      faults = g.S.Source.faults c.args.source.now;
    } in
    let now : SourceSeen =
    record {
      told = g.S.Source.told;
      left = g.S.Source.left c.next_segment.new.source;
      faults = g.S.Source.faults c.next_segment.new.source;
    } in
    let v : View = view c.args.self.now.worker in
    let w : View = view c.serve_read.new.self.worker in
    let records : List Record = c.in-Ok.read.0.items in
    subst (λ (e : RunEnd). Comes start now begin first w e) (sym c.end_of.ensures)
    (leads_to_stop start before now c.args.reader.now c.next_segment.new.self begin first v w c.args.self.now.log
    c.serve_read.new.self.log way records
    (subst (λ (rows : ℕ). IsWhole rows v) (sym began.rows) c.requires.alone.whole)
    (reads_of start now c.next_segment.new.self way.way.items records c.in-Ok.read.1
    (c.in-Ok.ensures.reads start way.way.items way.way.read way.way.reading) way.way.reading.closed)
    c.in-Err-serve_read.stop
    (c.in-Err-serve_read.ensures.serves begin began))

pub returns-in-Ok-serve_read-clause-kept : goal.returns-in-Ok-serve_read-clause-kept
returns-in-Ok-serve_read-clause-kept g c =
    let v : View = view c.serve_read.new.self.worker in
    let w : View = view c.end_segment.new.self.worker in
    kept_later v w (ends_knowing (begin_with g.O.Site.told v.turn.known.opening) c.in-Ok.read.1 c.end_segment.result v w
    c.serve_read.new.self.log c.end_segment.new.self.log
    (c.end_segment.ensures.ends (begin_with g.O.Site.told v.turn.known.opening)
    (began_with g.O.Site.told v.turn.known.opening))) c.serve_read.new.kept c.serve_read.ensures.kept
