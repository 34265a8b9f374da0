use Rattle.std.proofs.Common.{◌≡◌, ℕ, List, length, suc, take, drop, false, true, [], ◌∷◌, ◌++◌, ◌+◌, refl, sym, ap}
use Rattle.std.proofs.Common.{subst, ◌∙◌, arith, length-append, Some, None}
use Rattle.std.specs.List.{slice_get}
use Rattle.std.proofs.lemmas.List.{take_all}
use Rattle.std.proofs.lemmas.Bool.Decides.{nat_tests}
use Rattle.counter_table.specs.declared.view.View.{View}
use Rattle.counter_table.specs.Worker.{view}
use Rattle.record_io.specs.declared.item_cursor.Record.{Record}
use Rattle.record_io.specs.declared.answers.Answer.{Answer}
use Rattle.law_workers.specs.Deeds.{deeds_of}
use Rattle.law_workers.specs.Order.{Layout, Handled}
use Rattle.law_workers.specs.Lanes.{is_of_lane, of_lane}
use Rattle.law_workers.proofs.Joining.{grows_itself}
use Rattle.law_workers.proofs.Handling.{handled_nothing}
use Rattle.law_workers.specs.Alone.{MovedInTurn}
use Rattle.law_workers.proofs.Alone.{turns_nothing}
use Rattle.law_calls.specs.Answering.{Answered, AnsweredExactly}
use Rattle.law_workers.specs.Began.{BeganWith}
use Rattle.law_workers.specs.Ends.{EndsSegment}
use Rattle.frame_workers.proofs.Steps.{lane_own, lane_other, lane_short, lane_whole, lane_next, lane_first, lane_step}
use Rattle.frame_workers.proofs.Steps.{lane_stop}
use Rattle.frame_workers.proofs.Exactly.{next_exactly, stop_exactly}
use Rattle.frame_workers.proofs.Fulls.{full_stays, none_before}
use Rattle.frame_workers.proofs.lane.run_lane.Goals as goal

pub loop-task-init : goal.loop-task-init
loop-task-init g c =
    let can = c.requires.can in
    record {
      number = refl;
      is_ready = can.is_ready;
      kept = can.kept;
      shares = refl;
      going = can.going;
      room = can.room;
      ascend = c.requires.ascend;
      count = ap length can.empty;
      handled = λ begin layout s b. handled_nothing layout begin (view c.args.lane.now.worker) [];
      exactly = λ begin s b. turns_nothing begin (view c.args.lane.now.worker);
    }

pub loop-task-preserved-then-task-lane : goal.loop-task-preserved-then-task-lane
loop-task-preserved-then-task-lane g c =
    let inv = c.loop-task.invariant in
    let n : ℕ = c.args.lane.now.number in let rs : List Record = c.args.records.now in
    let k : ℕ = c.loop-task.task-index in
    let r : Record = c.task-item.result in let xs : List Answer = c.loop-task.lane.answers.items in
    let differs = c.if-task-lane.true in
    let same = inv.number in
    let other : is_of_lane n r ≡ false = grind (arith, nat_tests) in
    let taken = lane_other n rs k r c.task-item.is c.loop-task-test.true other in
    record {
      number = inv.number;
      is_ready = inv.is_ready;
      kept = inv.kept;
      shares = inv.shares;
      going = inv.going;
      room = inv.room;
      ascend = inv.ascend;
      count = inv.count ∙ ap length (sym taken);
      handled = λ begin layout s b.
          subst (λ (l : List Record). Handled layout begin (view c.args.lane.now.worker) (view c.loop-task.lane.worker)
          l (deeds_of s l xs))
          (sym taken) (inv.handled begin layout s b);
      exactly = λ begin s b.
          subst (λ (l : List Record). MovedInTurn begin (view c.args.lane.now.worker) (view c.loop-task.lane.worker)
          (length l) (deeds_of s l xs))
          (sym taken) (inv.exactly begin s b);
    }

pub push_reserved-requires : goal.push_reserved-requires
push_reserved-requires g c =
    let inv = c.loop-task.invariant in
    let n : ℕ = c.args.lane.now.number in let rs : List Record = c.args.records.now in
    let k : ℕ = c.loop-task.task-index in
    let r : Record = c.task-item.result in
    let equal = c.if-task-lane.false in
    let same = inv.number in
    let own : is_of_lane n r ≡ true = grind (arith, nat_tests) in
    let short = lane_short n rs k r c.task-item.is c.loop-task-test.true own in
    let count = inv.count in let room = inv.room in let size = c.loop-task.lane.answers.ok in omega arith

pub returns-in-None : goal.returns-in-None
returns-in-None g c =
    let inv = c.loop-task.invariant in
    let n : ℕ = c.args.lane.now.number in let rs : List Record = c.args.records.now in
    let k : ℕ = c.loop-task.task-index in
    let r : Record = c.task-item.result in let xs : List Answer = c.loop-task.lane.answers.items in
    let u : View = view c.args.lane.now.worker in let v : View = view c.loop-task.lane.worker in
    let w : View = view c.handle-answer.new.worker in
    let within = c.loop-task-test.true in
    let equal = c.if-task-lane.false in
    let same = inv.number in
    let own : is_of_lane n r ≡ true = grind (arith, nat_tests) in
    record {
      ran = record {
        number = inv.number;
        is_ready = c.handle-answer.ensures.handles.ready;
        kept = c.handle-answer.ensures.kept;
        shares = c.handle-answer.ensures.handles.shares ∙ inv.shares;
        handled = λ begin layout s b.
            let x = inv.handled begin layout s b in
            let b' : BeganWith g.O.Site.told begin v.turn.known.opening =
            subst (BeganWith g.O.Site.told begin) (sym x.does.grows.opening) b in
            let y : Answered layout begin s v w r None =
            subst (Answered layout begin s v w r) c.in-None.is
            (c.handle-answer.ensures.handles.answered layout begin s b') in
            lane_stop n rs k r c.task-item.is within layout begin u v w s xs own inv.ascend inv.count x y.0;
        ends = λ begin b.
            let layout : Layout = record { lane_of = λ i. 0; segment_of = λ i. 0 } in
            let x = inv.handled begin layout 0 b in
            let b' : BeganWith g.O.Site.told begin v.turn.known.opening =
            subst (BeganWith g.O.Site.told begin) (sym x.does.grows.opening) b in
            let y : Answered layout begin 0 v w r None =
            subst (Answered layout begin 0 v w r) c.in-None.is
            (c.handle-answer.ensures.handles.answered layout begin 0 b') in (
              r,
              subst (λ (m : ℕ). slice_get (of_lane n rs) m ≡ Some r) (sym inv.count)
                  (lane_next n rs k r c.task-item.is within own),
              full_stays begin u v w w r x.does.grows (grows_itself w) y.1
                  (none_before begin u v w (of_lane n (take k rs)) (deeds_of 0 (of_lane n (take k rs)) xs) r.index
                  x.does y.0.does.grows
                  y.0.does.gains.made y.0.does.gained.made (lane_first n rs k r c.task-item.is within inv.ascend own)
                  (y.1.unmade y.0.does.gains.made y.0.does.gained.made)),
            );
        exactly = λ begin s b.
            let layout : Layout = record { lane_of = λ i. 0; segment_of = λ i. 0 } in
            let x = inv.handled begin layout s b in
            let b' : BeganWith g.O.Site.told begin v.turn.known.opening =
            subst (BeganWith g.O.Site.told begin) (sym x.does.grows.opening) b in
            let y : Answered layout begin s v w r None =
            subst (Answered layout begin s v w r) c.in-None.is
            (c.handle-answer.ensures.handles.answered layout begin s b') in
            let z : AnsweredExactly begin s v w r None =
            subst (AnsweredExactly begin s v w r) c.in-None.is
            (c.handle-answer.ensures.handles.exactly begin s b') in
            subst (λ (l : List Record). MovedInTurn begin u w (length l) (deeds_of s l xs))
            (sym (lane_whole n rs k r c.task-item.is within own))
            (stop_exactly begin s u v w (of_lane n (take k rs)) xs inv.count x.does y.0.does.grows
            (inv.exactly begin s b) (of_lane n (drop (suc k) rs)) r z);
      };
    }

pub loop-task-preserved : goal.loop-task-preserved
loop-task-preserved g c =
    let inv = c.loop-task.invariant in
    let n : ℕ = c.args.lane.now.number in let rs : List Record = c.args.records.now in
    let k : ℕ = c.loop-task.task-index in
    let r : Record = c.task-item.result in let xs : List Answer = c.loop-task.lane.answers.items in
    let u : View = view c.args.lane.now.worker in let v : View = view c.loop-task.lane.worker in
    let w : View = view c.handle-answer.new.worker in
    let within = c.loop-task-test.true in
    let equal = c.if-task-lane.false in
    let same = inv.number in
    let own : is_of_lane n r ≡ true = grind (arith, nat_tests) in
    let pushed = c.push_reserved.ensures in
    let taken = lane_own n rs k r c.task-item.is within own in
    record {
      number = inv.number;
      is_ready = c.handle-answer.ensures.handles.ready;
      kept = c.handle-answer.ensures.kept;
      shares = c.handle-answer.ensures.handles.shares ∙ inv.shares;
      going = inv.going;
      room = let a = pushed.capacity in let z = inv.room in omega arith;
      ascend = inv.ascend;
      count = ap length pushed.items ∙ (length-append xs (c.in-Some.answer ∷ []) ∙ (ap (λ (m : ℕ). m + 1) inv.count
          ∙ (sym (length-append (of_lane n (take k rs)) (r ∷ [])) ∙ ap length (sym taken))));
      handled = λ begin layout s b.
          let x = inv.handled begin layout s b in
          let b' : BeganWith g.O.Site.told begin v.turn.known.opening =
          subst (BeganWith g.O.Site.told begin) (sym x.does.grows.opening) b in
          let y : Answered layout begin s v w r (Some c.in-Some.answer) =
          subst (Answered layout begin s v w r) c.in-Some.is
          (c.handle-answer.ensures.handles.answered layout begin s b') in
          subst (λ (l : List Answer). Handled layout begin u w (of_lane n (take (k + 1) rs))
          (deeds_of s (of_lane n (take (k + 1) rs)) l)) (sym pushed.items)
          (lane_step n rs k r c.task-item.is within layout begin u v w s xs own inv.ascend inv.count c.in-Some.answer x
          y.0);
      exactly = λ begin s b.
          let layout : Layout = record { lane_of = λ i. 0; segment_of = λ i. 0 } in
          let x = inv.handled begin layout s b in
          let b' : BeganWith g.O.Site.told begin v.turn.known.opening =
          subst (BeganWith g.O.Site.told begin) (sym x.does.grows.opening) b in
          let y : Answered layout begin s v w r (Some c.in-Some.answer) =
          subst (Answered layout begin s v w r) c.in-Some.is
          (c.handle-answer.ensures.handles.answered layout begin s b') in
          let z : AnsweredExactly begin s v w r (Some c.in-Some.answer) =
          subst (AnsweredExactly begin s v w r) c.in-Some.is (c.handle-answer.ensures.handles.exactly begin s b') in
          subst (λ (l : List Answer). MovedInTurn begin u w (length (of_lane n (take (k + 1) rs)))
          (deeds_of s (of_lane n (take (k + 1) rs)) l)) (sym pushed.items)
          (subst (λ (l : List Record). MovedInTurn begin u w (length l) (deeds_of s l (xs ++ c.in-Some.answer ∷ [])))
          (sym taken)
          (next_exactly begin s u v w (of_lane n (take k rs)) xs inv.count x.does y.0.does.grows (inv.exactly begin s b)
          r c.in-Some.answer z));
    }

pub returns : goal.returns
returns g c =
    let inv = c.loop-task.invariant in
    let n : ℕ = c.args.lane.now.number in let rs : List Record = c.args.records.now in
    let k : ℕ = c.loop-task.task-index in
    let xs : List Answer = c.loop-task.lane.answers.items in
    let u : View = view c.args.lane.now.worker in let v : View = view c.loop-task.lane.worker in
    let whole : take k rs ≡ rs = take_all k rs (omega arith) in
    record {
      ran = record {
        number = inv.number;
        is_ready = inv.is_ready;
        kept = inv.kept;
        shares = inv.shares;
        handled = λ begin layout s b.
            subst (λ (l : List Record). Handled layout begin u v (of_lane n l) (deeds_of s (of_lane n l) xs)) whole
            (inv.handled begin layout s b);
        exactly = λ begin s b.
            subst (λ (l : List Record). MovedInTurn begin u v (length (of_lane n l)) (deeds_of s (of_lane n l) xs))
            whole (inv.exactly begin s b);
        ends = λ begin b. subst (EndsSegment begin u v (of_lane n rs) xs) (sym inv.going)
            (inv.count ∙ ap (λ (l : List Record). length (of_lane n l)) whole);
      };
    }
