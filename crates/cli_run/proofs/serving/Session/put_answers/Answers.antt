use Rattle.std.proofs.Common.{◌≡◌, ◌<◌, List, ◌∙◌, length, take, subst, arith, refl}
use Rattle.std.proofs.lemmas.Grind.{common_steps}
use Rattle.record_io.specs.declared.answers.Answer.{Answer}
use Rattle.record_io.specs.Answers.{answers_octets}
use Rattle.counter_table.specs.Worker.{view}
use Rattle.cli_run.specs.Putting.{PutsOctets}
use Rattle.cli_run.proofs.Puts.{so_far_cut, so_far_last, so_far_next, so_far_none}
use Rattle.cli_run.proofs.serving.Session.put_answers.Goals as goal

pub loop-answer-init : goal.loop-answer-init
loop-answer-init g c = record {
  alone = c.requires.alone;
  same = refl;
  logged = refl;
  so_far = so_far_none g.O.Site.told c.clear.new.self.items (view c.args.self.now.worker) c.clear.ensures.items;
}

pub returns-in-Err-clause-puts : goal.returns-in-Err-clause-puts
returns-in-Err-clause-puts g c =
    so_far_cut g.O.Site.told c.args.answers.now c.loop-answer.answer-index c.answer-item.result
    c.loop-answer.self.piece.items c.take_answer.new.self.piece.items c.in-Err.fault
    (view c.args.self.now.worker) (view c.loop-answer.self.worker) (view c.take_answer.new.self.worker)
    (let low : c.loop-answer.answer-index < length c.args.answers.now = omega arith in
    low) c.answer-item.is c.loop-answer.invariant.so_far c.in-Err.ensures.takes

pub loop-answer-preserved : goal.loop-answer-preserved
loop-answer-preserved g c = record {
  alone = c.in-Ok.ensures.alone;
  same = c.in-Ok.ensures.same ∙ c.loop-answer.invariant.same;
  logged = c.in-Ok.ensures.logged ∙ c.loop-answer.invariant.logged;
  so_far = so_far_next g.O.Site.told c.args.answers.now c.loop-answer.answer-index c.answer-item.result
      c.loop-answer.self.piece.items c.take_answer.new.self.piece.items c.in-Ok.field-0
      (view c.args.self.now.worker) (view c.loop-answer.self.worker) (view c.take_answer.new.self.worker)
      (let low : c.loop-answer.answer-index < length c.args.answers.now = omega arith in
      low) c.answer-item.is c.loop-answer.invariant.so_far c.in-Ok.ensures.takes;
}

pub returns-clause-puts : goal.returns-clause-puts
returns-clause-puts g c =
    let all : take c.loop-answer.answer-index c.args.answers.now ≡ c.args.answers.now = grind (arith, common_steps) in
    subst (λ (l : List Answer). PutsOctets g.O.Site.told (answers_octets l) c.put_piece.result
    (view c.args.self.now.worker) (view c.put_piece.new.self.worker)) all
    (so_far_last g.O.Site.told (answers_octets (take c.loop-answer.answer-index c.args.answers.now))
    c.loop-answer.self.piece.items c.put_piece.result
    (view c.args.self.now.worker) (view c.loop-answer.self.worker) (view c.put_piece.new.self.worker)
    c.loop-answer.invariant.so_far c.put_piece.ensures.puts)
