use Rattle.std.proofs.Common.{◌≡◌, ◌+◌, ◌*◌, ℕ, List, refl, sym, ◌∙◌, ap, subst}
use Rattle.std.specs.List.{All}
use Rattle.record_io.specs.declared.answers.Answer.{Answer}
use Rattle.record_io.specs.declared.item_cursor.Record.{Record}
use Rattle.counter_table.specs.Worker.{view}
use Rattle.law_workers.specs.Deeds.{Ascend}
use Rattle.unit_drill.specs.Counting.{count_accepted, count_code, count_fields}
use Rattle.unit_drill.specs.Frames.{open_tasks, replay_tasks}
use Rattle.unit_drill.specs.Chunks.{HandlesSegment}
use Rattle.unit_drill.proofs.Tasks.{IsPlain, OnLane, open_ascends, open_lanes, open_plain, protect_ascends}
use Rattle.unit_drill.proofs.Tasks.{protect_lanes, protect_plain, replay_lanes, replay_plain}
use Rattle.unit_drill.proofs.chunk.Pair.serve_chunk.Goals as goal

pub serve-requires-clause-lanes : goal.serve-requires-clause-lanes
serve-requires-clause-lanes g c κs within = (
  0,
  subst (λ (l : List Record). All (OnLane 0) l) (sym (c.deref.ensures.value ∙ c.in_ok-tasks.ensures.items))
      (protect_lanes _ _),
)

pub serve-requires-clause-plain : goal.serve-requires-clause-plain
serve-requires-clause-plain g c κs within =
    subst (All IsPlain) (sym (c.deref.ensures.value ∙ c.in_ok-tasks.ensures.items)) (protect_plain _ _)

pub serve-requires-clause-ascend : goal.serve-requires-clause-ascend
serve-requires-clause-ascend g c κs within =
    subst Ascend (sym (c.deref.ensures.value ∙ c.in_ok-tasks.ensures.items)) (protect_ascends _ _)

pub serve-requires-2-clause-lanes : goal.serve-requires-2-clause-lanes
serve-requires-2-clause-lanes g c κs within = (
  c.args.chunk,
  subst (λ (l : List Record). All (OnLane c.args.chunk) l)
      (sym (c.deref-3.ensures.value ∙ c.in_ok-received.ensures.items))
      (open_lanes c.args.chunk (256 * c.args.chunk) c.deref-2.result.now),
)

pub serve-requires-2-clause-plain : goal.serve-requires-2-clause-plain
serve-requires-2-clause-plain g c κs within =
    subst (All IsPlain) (sym (c.deref-3.ensures.value ∙ c.in_ok-received.ensures.items))
    (open_plain c.args.chunk (256 * c.args.chunk) c.deref-2.result.now)

pub serve-requires-2-clause-ascend : goal.serve-requires-2-clause-ascend
serve-requires-2-clause-ascend g c κs within =
    subst Ascend (sym (c.deref-3.ensures.value ∙ c.in_ok-received.ensures.items))
    (open_ascends c.args.chunk (256 * c.args.chunk) c.deref-2.result.now)

pub serve-requires-3-clause-lanes : goal.serve-requires-3-clause-lanes
serve-requires-3-clause-lanes g c κs within = (
  c.args.chunk,
  subst (λ (l : List Record). All (OnLane c.args.chunk) l)
      (sym (c.deref-5.ensures.value ∙ c.in_ok-again.ensures.items))
      (replay_lanes c.args.chunk (256 * c.args.chunk) c.deref-4.result.now),
)

pub serve-requires-3-clause-plain : goal.serve-requires-3-clause-plain
serve-requires-3-clause-plain g c κs within =
    subst (All IsPlain) (sym (c.deref-5.ensures.value ∙ c.in_ok-again.ensures.items))
    (replay_plain c.args.chunk (256 * c.args.chunk) c.deref-4.result.now)

pub returns-clause-chunk : goal.returns-clause-chunk
returns-clause-chunk g c = λ one other began_one began_other.
    let sent : List Answer = c.in_ok-sent.sent.items in
    let opened : List Answer = c.in_ok-opened.opened.items in
    let again : List Answer = c.in_ok-replayed.replayed.items in
    let first : ℕ = 256 * c.args.chunk in
    let is_received : c.in_ok-received.received.items ≡ open_tasks c.args.chunk first sent =
    c.in_ok-received.ensures.items ∙ ap (open_tasks c.args.chunk first) c.deref-2.ensures.value in
    let is_again : c.in_ok-again.again.items ≡ replay_tasks c.args.chunk first sent =
    c.in_ok-again.ensures.items ∙ ap (replay_tasks c.args.chunk first) c.deref-4.ensures.value in
    let protects = c.in_ok-sent.ensures.serves one began_one in
    let opens = c.in_ok-opened.ensures.serves other began_other in
    let replays = c.in_ok-replayed.ensures.serves other opens.1 in (
      protects.1,
      replays.1,
      record {
        sent = sent;
        opened = opened;
        again = again;
        mid = view c.serve-2.new.self.worker;
        protects = subst (λ (l : List Record). HandlesSegment one (view c.args.self.now.sender.worker)
            (view c.serve.new.self.worker) l sent)
            (c.deref.ensures.value ∙ c.in_ok-tasks.ensures.items) protects.0;
        opens = subst (λ (l : List Record). HandlesSegment other (view c.args.self.now.receiver.worker)
            (view c.serve-2.new.self.worker) l opened)
            (c.deref-3.ensures.value ∙ is_received) opens.0;
        replays = subst (λ (l : List Record). HandlesSegment other (view c.serve-2.new.self.worker)
            (view c.serve-3.new.self.worker) l again)
            (c.deref-5.ensures.value ∙ is_again) replays.0;
        protected = c.count_code-3.ensures.count ∙ ap (count_code 0) c.deref-11.ensures.value;
        lost = refl;
        accepted =
            ap (λ (n : ℕ). n + c.count_fields.result) (c.count_accepted.ensures.count
            ∙ (ap (λ (l : List Record). count_accepted c.args.chunk l c.deref-7.result.now)
            (c.deref-6.ensures.value ∙ is_received)
            ∙ ap (count_accepted c.args.chunk (open_tasks c.args.chunk first sent)) c.deref-7.ensures.value))
            ∙ ap (λ (n : ℕ). count_accepted c.args.chunk (open_tasks c.args.chunk first sent) opened + n)
            (c.count_fields.ensures.count ∙ ap (count_fields first) c.deref-8.ensures.value);
        rejected =
            ap (λ (n : ℕ). n + c.count_code-2.result)
            (c.count_code.ensures.count ∙ ap (count_code 23) c.deref-9.ensures.value)
            ∙ ap (λ (n : ℕ). count_code 23 opened + n)
            (c.count_code-2.ensures.count ∙ ap (count_code 23) c.deref-10.ensures.value);
      },
    )
