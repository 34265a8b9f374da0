use Rattle.std.proofs.Common.{◌≡◌, take}
use Rattle.counter_table.specs.Worker.{view}
use Rattle.record_io.specs.Answers.{answers_octets}
use Rattle.cli_run.specs.Putting.{IsAlone, TakesSoFar}
use Rattle.cli_run.proofs.serving.Session.put_answers.Given as goal

abbrev pub invariant-loop-answer : goal.invariant-loop-answer
invariant-loop-answer g l = record {
  alone : IsAlone l.self.unit.now.counters l.self.unit.now.plan l.self.worker;
  same : l.self.unit.now ≡ l.initial.self.unit.now;
  logged : l.self.log ≡ l.initial.self.log;
  so_far : TakesSoFar g.O.Site.told (answers_octets (take l.answer-index l.answers)) l.self.piece.items
      (view l.initial.self.worker) (view l.self.worker);
}
