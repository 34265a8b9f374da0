use Rattle.std.proofs.Common.{◌≡◌, ◌*◌, ℕ, List, sym, ◌∙◌, ap, subst}
use Rattle.std.specs.List.{All}
use Rattle.record_io.specs.declared.answers.Answer.{Answer}
use Rattle.record_io.specs.declared.item_cursor.Record.{Record}
use Rattle.counter_table.specs.Worker.{view}
use Rattle.law_workers.specs.Deeds.{Ascend}
use Rattle.unit_drill.specs.Arriving.{arrived_frames, arrived_tasks, count_lost}
use Rattle.unit_drill.specs.Counting.{count_code, count_given}
use Rattle.unit_drill.specs.Chunks.{HandlesSegment}
use Rattle.unit_drill.proofs.Tasks.{IsPlain, OnLane, protect_ascends, protect_lanes, protect_plain}
use Rattle.unit_drill.proofs.ArrivedRecords.{arrived_ascends, arrived_lanes, arrived_plain}
use Rattle.unit_drill.proofs.chunk.Pair.serve_link_chunk.Goals as goal

pub serve-requires-clause-lanes : goal.serve-requires-clause-lanes
serve-requires-clause-lanes g c κs within = (
  0,
  subst (λ (l : List Record). All (OnLane 0) l) (sym (c.deref.ensures.value ∙ c.in_ok-tasks.ensures.items))
      (protect_lanes _ _),
)

pub serve-requires-clause-plain : goal.serve-requires-clause-plain
serve-requires-clause-plain g c κs within =
    subst (All IsPlain) (sym (c.deref.ensures.value ∙ c.in_ok-tasks.ensures.items)) (protect_plain _ _)

pub serve-requires-clause-ascend : goal.serve-requires-clause-ascend
serve-requires-clause-ascend g c κs within =
    subst Ascend (sym (c.deref.ensures.value ∙ c.in_ok-tasks.ensures.items)) (protect_ascends _ _)

pub serve-requires-2-clause-lanes : goal.serve-requires-2-clause-lanes
serve-requires-2-clause-lanes g c κs within = (
  0,
  subst (λ (l : List Record). All (OnLane 0) l) (sym (c.deref-5.ensures.value ∙ c.in_ok-received.ensures.items))
      (arrived_lanes _ _ _ _),
)

pub serve-requires-2-clause-plain : goal.serve-requires-2-clause-plain
serve-requires-2-clause-plain g c κs within =
    subst (All IsPlain) (sym (c.deref-5.ensures.value ∙ c.in_ok-received.ensures.items)) (arrived_plain _ _ _ _)

pub serve-requires-2-clause-ascend : goal.serve-requires-2-clause-ascend
serve-requires-2-clause-ascend g c κs within =
    subst Ascend (sym (c.deref-5.ensures.value ∙ c.in_ok-received.ensures.items)) (arrived_ascends _ _ _ _)

pub returns-clause-chunk : goal.returns-clause-chunk
returns-clause-chunk g c = λ one other began_one began_other.
    let sent : List Answer = c.in_ok-sent.sent.items in
    let opened : List Answer = c.in_ok-opened.opened.items in
    let first : ℕ = 256 * c.args.chunk in
    let place : ℕ = 1024 * c.args.chunk in
    let is_arrived : c.in_ok-arrived.arrived.items ≡ arrived_frames first sent =
    c.in_ok-arrived.ensures.frames ∙ ap (arrived_frames first) c.deref-2.ensures.value in
    let is_received : c.in_ok-received.received.items ≡ arrived_tasks place first sent (arrived_frames first sent) =
    c.in_ok-received.ensures.items ∙
    (ap (λ (l : List Answer). arrived_tasks place first l c.deref-4.result.now) c.deref-3.ensures.value
    ∙ ap (arrived_tasks place first sent) (c.deref-4.ensures.value ∙ is_arrived)) in
    let protects = c.in_ok-sent.ensures.serves one began_one in
    let opens = c.in_ok-opened.ensures.serves other began_other in (
      protects.1,
      opens.1,
      record {
        sent = sent;
        opened = opened;
        protects = subst (λ (l : List Record). HandlesSegment one (view c.args.self.now.sender.worker)
            (view c.serve.new.self.worker) l sent)
            (c.deref.ensures.value ∙ c.in_ok-tasks.ensures.items) protects.0;
        opens = subst (λ (l : List Record). HandlesSegment other (view c.args.self.now.receiver.worker)
            (view c.serve-2.new.self.worker) l opened)
            (c.deref-5.ensures.value ∙ is_received) opens.0;
        protected = c.count_code.ensures.count ∙ ap (count_code 0) c.deref-6.ensures.value;
        lost = c.count_lost.ensures.count ∙ ap count_lost c.deref-7.ensures.value;
        accepted = c.count_given.ensures.count
            ∙ (ap (λ (l : List ℕ). count_given l c.deref-9.result.now) (c.deref-8.ensures.value ∙ is_arrived)
            ∙ ap (count_given (arrived_frames first sent)) c.deref-9.ensures.value);
        rejected = c.count_code-2.ensures.count ∙ ap (count_code 23) c.deref-10.ensures.value;
      },
    )
