use Rattle.std.proofs.Common.{ℕ, List, Some, refl, sym, subst, ◌∙◌}
use Rattle.counter_table.specs.declared.view.View.{View}
use Rattle.counter_table.specs.Worker.{view}
use Rattle.record_io.specs.declared.answers.Answer.{Answer}
use Rattle.record_io.specs.declared.item_cursor.Record.{Record}
use Rattle.law_workers.specs.Order.{Layout}
use Rattle.law_calls.specs.Answering.{Answered, AnsweredExactly}
use Rattle.shared_unit.specs.Protecting.{IsProtectStep}
use Rattle.law_calls.proofs.Protectings.{protecting_answers}
use Rattle.law_calls.proofs.ProtectsExactly.{covers_taken, protects_exactly}
use Rattle.law_calls.proofs.Unserved.{unserved, unserved_exactly}
use Rattle.shared_unit.proofs.Passing.{passes_grows, passes_none}
use Rattle.frame_workers.proofs.Bodies.{fits}
use Rattle.frame_workers.proofs.lane.protect.Goals as goal

pub protected_answer-requires-clause-fits : goal.protected_answer-requires-clause-fits
protected_answer-requires-clause-fits g c =
    let e = c.protect-protected.ensures.step in
    fits g.O.Site.told c.args.unit.now.plan c.args.task.now.link c.as_slice-clear.result.now c.protect-protected.new.out
    c.protect-protected.new.kept
    c.protect-protected.result (view c.args.worker.now) (view c.protect-protected.new.worker) _ _ e
    (c.protect-protected.auto.out ∙ c.requires.room)
    c.in-Ok.ensures.room

pub returns-clause-handles : goal.returns-clause-handles
returns-clause-handles g c = record {
  ready = c.protect-protected.ensures.ready;
  grows = passes_grows g.O.Site.told _ _ c.protect-protected.ensures.turn;
  shares = c.protect-protected.ensures.shares;
  answered = λ layout begin segment b.
      let v : View = view c.args.worker.now in let w : View = view c.protect-protected.new.worker in
      let task : Record = c.args.task.now in
      let out : List ℕ = c.protect-protected.new.out in
      let step = subst (λ (l : List ℕ). IsProtectStep g.O.Site.told c.args.unit.now.plan task.link l out
      c.protect-protected.new.kept c.protect-protected.result v w) c.as_slice-clear.ensures.octets
      c.protect-protected.ensures.step in
      subst (Answered layout begin segment v w task) (sym c.protected_answer.ensures)
      (protecting_answers g.O.Site.told begin layout segment task v w b c.requires.ready.free c.requires.kind
      c.args.unit.now.plan c.protect-protected.new.kept out c.protect-protected.result c.requires.ready.planned step);
  exactly = λ begin segment b.
      let v : View = view c.args.worker.now in let w : View = view c.protect-protected.new.worker in
      let task : Record = c.args.task.now in
      let apart : Layout = record { lane_of = λ i. 0; segment_of = λ i. 0 } in
      let out : List ℕ = c.protect-protected.new.out in
      let step = subst (λ (l : List ℕ). IsProtectStep g.O.Site.told c.args.unit.now.plan task.link l out
      c.protect-protected.new.kept c.protect-protected.result v w) c.as_slice-clear.ensures.octets
      c.protect-protected.ensures.step in
      subst (AnsweredExactly begin segment v w task) (sym c.protected_answer.ensures)
      (protects_exactly g.O.Site.told begin apart segment task v w b c.requires.ready.free c.requires.kind
      (covers_taken g.O.Site.told begin v w b c.requires.ready.free c.protect-protected.ensures.covered)
      c.args.unit.now.plan c.protect-protected.new.kept out c.protect-protected.result c.requires.ready.planned step);
}

pub returns-in_default-clause-handles : goal.returns-in_default-clause-handles
returns-in_default-clause-handles g c = record {
  ready = c.requires.ready;
  grows = passes_grows g.O.Site.told _ _ (passes_none g.O.Site.told _ _ refl);
  shares = refl;
  answered = λ layout begin segment b.
      subst (λ (a : Answer). Answered layout begin segment (view c.args.worker.now) (view c.args.worker.now)
      c.args.task.now (Some a))
      (sym c.answer_no_memory.ensures) (unserved begin layout segment (view c.args.worker.now) c.args.task.now);
  exactly = λ begin segment b.
      subst (λ (a : Answer). AnsweredExactly begin segment (view c.args.worker.now) (view c.args.worker.now)
      c.args.task.now (Some a))
      (sym c.answer_no_memory.ensures) (unserved_exactly begin segment (view c.args.worker.now) c.args.task.now);
}
