use Rattle.std.proofs.Common.{◌≡◌, ◌≢◌, ℕ, ◌+◌, ◌<◌, List, [], ◌∷◌, ◌++◌, length, take, drop, slice_set, slice_index_or}
use Rattle.std.proofs.Common.{Some, sym, ◌∙◌, ap, subst, arith, add-one, append_assoc, length-append}
use Rattle.std.specs.List.{All, Contains, slice_get}
use Rattle.std.specs.Vec.Iter.{into_iter_items}
use Rattle.std.proofs.lemmas.List.{take_all, take-append-drop, length-take, length-set}
use Rattle.record_io.specs.declared.item_cursor.Record.{Record}
use Rattle.record_io.specs.declared.answers.Answer.{Answer}
use Rattle.record_io.specs.declared.reader.TheConstants.{LANES}
use Rattle.law_workers.specs.Deeds.{deeds_of}
use Rattle.law_workers.specs.Lanes.{of_lane}
use Rattle.frame_workers.specs.Lanes.{AreAmong, left_at}
use Rattle.frame_workers.proofs.Steps.{deeds_short}
use Rattle.frame_workers.proofs.Places.{left_here, left_other, next_own, left_next, given_next, placed_next, got}
use Rattle.frame_workers.proofs.answering.place_answers.Goals as goal

pub returns-in-None-clause-placed : goal.returns-in-None-clause-placed
returns-in-None-clause-placed c deeds s h =
    let inv = c.loop-task.invariant in
    let rs : List Record = c.args.records.now in let k : ℕ = c.loop-task.task-index in
    let xs : List Answer = c.loop-task.answers.items in
    let size = length-take k rs in
    let within = c.loop-task-test.true in
    let short : deeds_of s (take k rs ++ drop k rs) xs ≡ deeds_of s (take k rs) xs =
    deeds_short s (take k rs) (drop k rs) xs (let n = inv.count in omega arith) in
    let whole : deeds_of s rs xs ≡ deeds_of s (take k rs) xs =
    sym (ap (λ (l : List Record). deeds_of s l xs) (take-append-drop k rs)) ∙ short in
    subst (All (Contains deeds)) (sym whole) (inv.left deeds s h).1

pub returns-in-None-clause-stops : goal.returns-in-None-clause-stops
returns-in-None-clause-stops c is =
    let inv = c.loop-task.invariant in
    let rs : List Record = c.args.records.now in let k : ℕ = c.loop-task.task-index in
    let r : Record = c.task-item.result in
    let within = c.loop-task-test.true in
    let fits : r.lane < LANES = subst (λ (t : Record). t.lane < LANES) (sym c.task-item.is) (inv.lanes k r within) in
    let lane : c.from.result ≡ r.lane = c.from.ensures in
    let many = inv.many in
    let low : c.from.result < length c.loop-task.parts = omega arith in
    let none = c.in-None.ensures.cases.0 in
    let ok = (slice_index_or c.loop-task.parts c.from.result c.index-parts-from.result).rest.ok.0 in
    let empty : length (into_iter_items (slice_index_or c.loop-task.parts c.from.result c.index-parts-from.result))
    ≡ 0 = omega arith in
    let size : length (left_at c.from.result c.loop-task.parts) ≡ 0 =
    ap length (left_here c.loop-task.parts c.from.result c.index-parts-from.result low) ∙ empty in
    let at_lane : length (left_at r.lane c.loop-task.parts) ≡ 0 =
    subst (λ (n : ℕ). length (left_at n c.loop-task.parts) ≡ 0) lane size in
    let given = inv.given r.lane in
    record {
      task = r;
      there = subst (λ (n : ℕ). slice_get rs n ≡ Some r) (sym inv.count) (got rs k r within c.task-item.is);
      none_left = subst (λ (n : ℕ). length (left_at r.lane c.args.parts.now) ≡ length (of_lane r.lane (take n rs)))
          (sym inv.count) (omega arith);
    }

pub loop-task-preserved : goal.loop-task-preserved
loop-task-preserved c =
    let inv = c.loop-task.invariant in
    let rs : List Record = c.args.records.now in let k : ℕ = c.loop-task.task-index in
    let r : Record = c.task-item.result in
    let a : Answer = c.in-Some.answer in
    let old = c.loop-task.parts in let new = slice_set c.loop-task.parts c.from.result c.next.new.self in
    let within = c.loop-task-test.true in
    let fits : r.lane < LANES = subst (λ (t : Record). t.lane < LANES) (sym c.task-item.is) (inv.lanes k r within) in
    let lane : c.from.result ≡ r.lane = c.from.ensures in
    let many = inv.many in
    let low : c.from.result < length old = omega arith in
    let own : left_at r.lane old ≡ a ∷ left_at r.lane new =
    subst (λ (n : ℕ). left_at n old ≡ a ∷ left_at n new) lane
    (next_own old c.from.result c.index-parts-from.result c.next.new.self a low c.in-Some.ensures.cases.0) in
    let others : (n : ℕ) → n ≢ r.lane → left_at n new ≡ left_at n old =
    λ n off. left_other old c.from.result n c.next.new.self (λ e. off (e ∙ lane)) in
    let pushed = c.push_reserved.ensures in
    record {
      many = length-set old c.from.result c.next.new.self ∙ inv.many;
      lanes = inv.lanes;
      room = let x = pushed.capacity in let y = inv.room in omega arith;
      count = ap length pushed.items
          ∙ (length-append c.loop-task.answers.items (a ∷ []) ∙ ap (λ (n : ℕ). n + 1) inv.count);
      left = λ deeds s h.
          let before = inv.left deeds s h in
          let next = left_next deeds s rs k r c.task-item.is within (λ n. left_at n old) (λ n. left_at n new) a own
          others before.0 in (
            subst (λ (m : ℕ). (n : ℕ) → AreAmong deeds s n (drop m rs) (left_at n new)) (sym (add-one k)) next.1,
            subst (λ (l : List Answer). All (Contains deeds) (deeds_of s (take (k + 1) rs) l)) (sym pushed.items)
                (placed_next deeds s rs k r c.task-item.is within c.loop-task.answers.items a inv.count before.1
                next.0),
          );
      in_turn = λ lane all.
          let same : r.lane ≡ lane = subst (λ (t : Record). t.lane ≡ lane) (sym c.task-item.is) (all k r within) in
          let own_lane : left_at lane old ≡ a ∷ left_at lane new =
          subst (λ (m : ℕ). left_at m old ≡ a ∷ left_at m new) same own in
          ap (λ (l : List Answer). l ++ left_at lane new) pushed.items
          ∙ (append_assoc c.loop-task.answers.items (a ∷ []) (left_at lane new)
          ∙ (ap (λ (l : List Answer). c.loop-task.answers.items ++ l) (sym own_lane) ∙ inv.in_turn lane all));
      given = λ n. given_next rs k r c.task-item.is within n (left_at n old) (left_at n new) a
          (λ same. subst (λ (m : ℕ). left_at m old ≡ a ∷ left_at m new) same own) (λ off. others n off) _ (inv.given n);
    }

pub returns-clause-placed : goal.returns-clause-placed
returns-clause-placed c deeds s h =
    let inv = c.loop-task.invariant in
    let rs : List Record = c.args.records.now in let k : ℕ = c.loop-task.task-index in
    let whole : take k rs ≡ rs = take_all k rs (omega arith) in
    subst (λ (l : List Record). All (Contains deeds) (deeds_of s l c.loop-task.answers.items)) whole
    (inv.left deeds s h).1

pub returns-in-None-clause-in_turn : goal.returns-in-None-clause-in_turn
returns-in-None-clause-in_turn c lane all = (left_at lane c.loop-task.parts, c.loop-task.invariant.in_turn lane all)

pub returns-clause-in_turn : goal.returns-clause-in_turn
returns-clause-in_turn c lane all = (left_at lane c.loop-task.parts, c.loop-task.invariant.in_turn lane all)
