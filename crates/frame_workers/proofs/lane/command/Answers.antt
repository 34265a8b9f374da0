use Rattle.std.proofs.Common.{ℕ, List, sym, subst}
use Rattle.counter_table.specs.declared.view.View.{View}
use Rattle.counter_table.specs.Worker.{view}
use Rattle.record_io.specs.declared.item_cursor.Record.{Record}
use Rattle.shared_unit.specs.Calls.{WithPosition}
use Rattle.shared_unit.specs.Told.{known_of_book}
use Rattle.law_calls.specs.Answering.{Answered, AnsweredExactly}
use Rattle.shared_unit.specs.Commanding.{IsCommanded}
use Rattle.law_workers.specs.Order.{Layout}
use Rattle.law_calls.proofs.Commandings.{commanding_answers}
use Rattle.law_calls.proofs.CommandsExactly.{commanding_exactly}
use Rattle.shared_unit.proofs.Steps.{takes_grows}
use Rattle.frame_workers.proofs.lane.command.Goals as goal

pub returns : goal.returns
returns g c = record {
  ready = c.command-commanded.ensures.ready;
  grows =
      let (found, given, visits, told) = c.command-commanded.ensures.commanded in
      takes_grows _ _ _ _ visits.takes;
  shares = c.command-commanded.ensures.shares;
  answered = λ layout begin segment b.
      let v : View = view c.args.worker.now in let w : View = view c.command-commanded.new.worker in
      let task : Record = c.args.task.now in
      let (found, given, visits, told) = c.command-commanded.ensures.commanded in
      let handled = subst (λ (l : List ℕ). WithPosition c.command-commanded.result (known_of_book given)
      (λ answer. IsCommanded task.index l answer found given v.numbers w.numbers)) c.as_slice.ensures.octets told in
      subst (Answered layout begin segment v w task) (sym c.commanded_answer.ensures)
      (commanding_answers g.O.Site.told begin layout segment task v w found given b c.requires.ready.free
      c.requires.kind
      visits c.command-commanded.result handled);
  exactly = λ begin segment b.
      let v : View = view c.args.worker.now in let w : View = view c.command-commanded.new.worker in
      let task : Record = c.args.task.now in
      let apart : Layout = record { lane_of = λ i. 0; segment_of = λ i. 0 } in
      let (found, given, visits, told) = c.command-commanded.ensures.commanded in
      let handled = subst (λ (l : List ℕ). WithPosition c.command-commanded.result (known_of_book given)
      (λ answer. IsCommanded task.index l answer found given v.numbers w.numbers)) c.as_slice.ensures.octets told in
      subst (AnsweredExactly begin segment v w task) (sym c.commanded_answer.ensures)
      (commanding_exactly g.O.Site.told begin apart segment task v w found given b c.requires.ready.free c.requires.kind
      visits c.command-commanded.ensures.covered c.command-commanded.result handled);
}
