use Rattle.std.proofs.Common.{◌≡◌, false, length, ap, subst, arith}
use Rattle.std.specs.List.{All, list_any}
use Rattle.record_io.specs.Answers.{IsAnswer}
use Rattle.counter_table.specs.Worker.{view}
use Rattle.unit_drill.specs.UnitRun.{says_fault}
use Rattle.unit_drill.proofs.Served.{few_answers, served}
use Rattle.unit_drill.proofs.unit.DrillUnit.serve.Goals as goal

pub returns-clause-serves : goal.returns-clause-serves
returns-clause-serves g c =
    let same = c.deref.ensures.value in
    let test = c.if-has_fault.ensures in
    let quiet : list_any says_fault c.in_ok-segment.segment.answers.items ≡ false = cc in
    served (view c.args.self.now.worker) (view c.run_segment.new.worker) c.args.records.now
    c.in_ok-segment.segment.answers.items
    c.in_ok-segment.segment.full c.requires.lanes.0 c.requires.lanes.1 c.in_ok-segment.ensures.handled
    c.in_ok-segment.ensures.full quiet
    (subst (All IsAnswer) c.deref-2.ensures.value c.answers_have_widths.ensures)
    (c.in_ok-segment.ensures.whole c.requires.may.shares)

pub returns-clause-few : goal.returns-clause-few
returns-clause-few g c =
    let few = few_answers (view c.args.self.now.worker) (view c.run_segment.new.worker) c.args.records.now
    c.in_ok-segment.segment.answers.items c.in_ok-segment.segment.full c.in_ok-segment.ensures.full in
    let same = ap length c.deref.ensures.value in
    let many = c.deref.ensures.len in
    omega arith
