use Rattle.std.proofs.Common.{◌≡◌, ℕ, ◌++◌, List, length, take, drop, Some, refl, sym, subst, ap, ◌∙◌}
use Rattle.std.specs.Prelude.{MatchResult}
use Rattle.counter_table.specs.declared.view.View.{View}
use Rattle.counter_table.specs.Worker.{view}
use Rattle.record_io.specs.declared.answers.Answer.{Answer}
use Rattle.record_io.specs.declared.item_cursor.Record.{Record}
use Rattle.shared_unit.specs.Calls.{WithPosition}
use Rattle.shared_unit.specs.Told.{known_of_book}
use Rattle.law_calls.specs.Answering.{Answered, AnsweredExactly}
use Rattle.frame_checks.specs.Accepting.{LeavesOctets, field_in}
use Rattle.unit_book.specs.Records.{OpensWithEntry, RefusesFrame}
use Rattle.law_calls.specs.Answering.{opened_answer}
use Rattle.law_calls.proofs.Openings.{opening_answers}
use Rattle.law_calls.proofs.OpensExactly.{opens_exactly}
use Rattle.law_calls.proofs.Unserved.{unserved, unserved_exactly}
use Rattle.shared_unit.proofs.Passing.{passes_grows, passes_none}
use Rattle.shared_unit.proofs.Steps.{takes_grows}
use Rattle.frame_workers.proofs.Segments.{slice_whole}
use Rattle.frame_workers.proofs.lane.open.Goals as goal

pub returns-clause-handles : goal.returns-clause-handles
returns-clause-handles g c = record {
  ready = c.open_frame-opened.ensures.ready;
  grows =
      let (found, given, visits, told) = c.open_frame-opened.ensures.opened in
      takes_grows _ _ _ _ visits.takes;
  shares = ap (λ numbers. numbers.shares) c.open_frame-opened.ensures.numbers.1;
  answered = λ layout begin segment b.
      let v : View = view c.args.worker.now in let w : View = view c.open_frame-opened.new.worker in
      let task : Record = c.args.task.now in
      let left : List ℕ = c.open_frame-opened.new.frame in
      let (found, given, visits, told) = c.open_frame-opened.ensures.opened in
      let same : c.as_mut_slice.result.now ≡ task.octets =
      c.as_mut_slice.ensures.value ∙ (c.in-Ok.ensures.items ∙ c.as_slice-octets.ensures.octets) in
      let opened = subst (λ (l : List ℕ). WithPosition c.open_frame-opened.result (known_of_book given)
      (λ answer. MatchResult answer
      (λ told. OpensWithEntry task.index task.link l (field_in told.0 left) found given told.0 told.1
      × LeavesOctets told.0 l left)
      (RefusesFrame task.index task.link l found given))) same told in
      let long : length left ≡ length c.as_mut_slice.result.now = c.open_frame-opened.auto.frame in
      let size : length left ≡ length c.in-Ok.frame.items = long ∙ ap length c.as_mut_slice.ensures.value in
      let all : take c.in-Ok.frame.len (left ++ drop (length left) c.in-Ok.frame.items) ≡ left =
      slice_whole c.in-Ok.frame.len left c.in-Ok.frame.items size c.in-Ok.frame.ok.0 in
      subst (Answered layout begin segment v w task)
      (sym (c.opened_answer.ensures ∙ ap (opened_answer c.open_frame-opened.result) all))
      (opening_answers g.O.Site.told begin layout segment task v w found given b c.requires.ready.free c.requires.kind
      c.open_frame-opened.ensures.numbers.1 visits left c.open_frame-opened.result opened);
  exactly = λ begin segment b.
      let v : View = view c.args.worker.now in let w : View = view c.open_frame-opened.new.worker in
      let task : Record = c.args.task.now in
      let left : List ℕ = c.open_frame-opened.new.frame in
      let (found, given, visits, told) = c.open_frame-opened.ensures.opened in
      let same : c.as_mut_slice.result.now ≡ task.octets =
      c.as_mut_slice.ensures.value ∙ (c.in-Ok.ensures.items ∙ c.as_slice-octets.ensures.octets) in
      let opened = subst (λ (l : List ℕ). WithPosition c.open_frame-opened.result (known_of_book given)
      (λ answer. MatchResult answer
      (λ told. OpensWithEntry task.index task.link l (field_in told.0 left) found given told.0 told.1
      × LeavesOctets told.0 l left)
      (RefusesFrame task.index task.link l found given))) same told in
      let long : length left ≡ length c.as_mut_slice.result.now = c.open_frame-opened.auto.frame in
      let size : length left ≡ length c.in-Ok.frame.items = long ∙ ap length c.as_mut_slice.ensures.value in
      let all : take c.in-Ok.frame.len (left ++ drop (length left) c.in-Ok.frame.items) ≡ left =
      slice_whole c.in-Ok.frame.len left c.in-Ok.frame.items size c.in-Ok.frame.ok.0 in
      subst (AnsweredExactly begin segment v w task)
      (sym (c.opened_answer.ensures ∙ ap (opened_answer c.open_frame-opened.result) all))
      (opens_exactly g.O.Site.told begin segment task v w found given b c.requires.ready.free c.requires.kind
      c.open_frame-opened.ensures.numbers.1 visits c.open_frame-opened.ensures.covered left c.open_frame-opened.result
      opened);
}

pub returns-in_default-clause-handles : goal.returns-in_default-clause-handles
returns-in_default-clause-handles g c = record {
  ready = c.requires.ready;
  grows = passes_grows g.O.Site.told _ _ (passes_none g.O.Site.told _ _ refl);
  shares = refl;
  answered = λ layout begin segment b.
      subst (λ (a : Answer). Answered layout begin segment (view c.args.worker.now) (view c.args.worker.now)
      c.args.task.now (Some a))
      (sym c.answer_no_memory.ensures) (unserved begin layout segment (view c.args.worker.now) c.args.task.now);
  exactly = λ begin segment b.
      subst (λ (a : Answer). AnsweredExactly begin segment (view c.args.worker.now) (view c.args.worker.now)
      c.args.task.now (Some a))
      (sym c.answer_no_memory.ensures) (unserved_exactly begin segment (view c.args.worker.now) c.args.task.now);
}
