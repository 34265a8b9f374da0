use Rattle.std.proofs.Common.{◌≡◌, ◌+◌, [], ◌∷◌, length, sym, ap, subst, ◌∙◌, arith, length-append}
use Rattle.frame_workers.specs.Lanes.{left_at}
use Rattle.frame_workers.proofs.Places.{left_push}
use Rattle.frame_workers.proofs.segment.no_answers.Goals as goal

pub parts-preserved : goal.parts-preserved
parts-preserved c =
    let inv = c.parts.invariant in
    let pushed = c.push_reserved.ensures in
    let size : length c.push_reserved.new.self.items ≡ length c.parts.parts.items + 1 =
    ap length pushed.items ∙ length-append c.parts.parts.items (c.into_iter.result ∷ []) in
    let test = c.parts-test.true in let len = c.len.ensures in let most = c.from-in-parts.ensures in
    let ok = c.parts.parts.ok in
    record {
      many = omega arith;
      room = let a = pushed.capacity in let b = inv.room in omega arith;
      empty = λ n. subst (λ l. left_at n l ≡ []) (sym pushed.items)
          (left_push c.parts.parts.items c.into_iter.result inv.empty (c.into_iter.ensures.rest ∙ c.new.ensures.items)
          n);
    }
