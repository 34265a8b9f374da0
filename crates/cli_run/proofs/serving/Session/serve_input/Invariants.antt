use Rattle.std.proofs.Common.{◌≡◌, ◌-◌, ◌^◌}
use Rattle.counter_table.specs.Worker.{view}
use Rattle.run_promise.specs.Call.{Begin}
use Rattle.frame_workers.specs.Permits.{AreKept}
use Rattle.law_workers.specs.Began.{BeganWith}
use Rattle.cli_run.specs.Putting.{IsAlone}
use Rattle.cli_run.specs.Serving.{Goes}
use Rattle.cli_run.proofs.serving.Session.serve_input.Given as goal

abbrev pub invariant-segments : goal.invariant-segments
invariant-segments g l = record {
  alone : IsAlone l.self.unit.now.counters l.self.unit.now.plan l.self.worker;
  same : l.self.unit.now ≡ l.fn.self.unit.now;
  kept : AreKept l.kept (view l.self.worker).turn;
  opening : (view l.self.worker).turn.known.opening ≡ (view l.fn.self.worker).turn.known.opening;
  way : (begin : Begin) → BeganWith g.O.Site.told begin (view l.fn.self.worker).turn.known.opening
      → Goes (record {
        told = g.S.Source.told;
        left = g.S.Source.left l.fn.source;
        faults = g.S.Source.faults l.fn.source;
      })
      (record { told = g.S.Source.told; left = g.S.Source.left l.source; faults = g.S.Source.faults l.source })
      l.reader begin (view l.fn.self.worker) (view l.self.worker) l.self.log;
}

abbrev pub decreases-segments : goal.decreases-segments
decreases-segments g l = 2 ^ 64 - l.reader.taken
