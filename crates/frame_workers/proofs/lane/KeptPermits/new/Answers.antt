use Rattle.std.proofs.Common.{◌≡◌, ◌+◌, [], ◌∷◌, length, sym, ap, subst, ◌∙◌, arith, length-append}
use Rattle.std.specs.List.{All}
use Rattle.std.proofs.lemmas.List.Elements.{All-push}
use Rattle.frame_workers.proofs.lane.KeptPermits.new.Goals as goal

pub lanes-preserved : goal.lanes-preserved
lanes-preserved c =
    let inv = c.lanes.invariant in
    let pushed = c.push_reserved.ensures in
    let size : length c.push_reserved.new.self.items ≡ length c.lanes.lanes.items + 1 =
    ap length pushed.items ∙ length-append c.lanes.lanes.items (c.new.result ∷ []) in
    let test = c.lanes-test.true in let len = c.len.ensures in let most = c.from-in-lanes.ensures in
    let ok = c.lanes.lanes.ok in
    record {
      many = omega arith;
      room = let a = pushed.capacity in let b = inv.room in omega arith;
      none = subst (λ l. All (λ places. places.items ≡ []) l) (sym pushed.items)
          (All-push (λ places. places.items ≡ []) c.lanes.lanes.items c.new.result inv.none c.new.ensures.items);
    }
