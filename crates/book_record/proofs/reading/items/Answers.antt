use Rattle.std.proofs.Common.{◌≡◌, ℕ, suc, ◌+◌, ◌-◌, ◌≤◌, ◌∷◌, ◌++◌, [], length, sym, ap, ◌∙◌, subst, arith}
use Rattle.std.specs.Prelude.{◌↔◌}
use Rattle.std.proofs.lemmas.Result.{err_from_is_err_and}
use Rattle.sdls_base.specs.declared.key_id.KeyItem.{KeyItem}
use Rattle.sdls_base.specs.Places.{octet_at}
use Rattle.book_record.specs.Reading.{item_at, behind_item, items_in, AreItems}
use Rattle.book_record.proofs.Lists.{fails, items_read, items_may, items_head, item_end, item_length}
use Rattle.book_record.proofs.reading.items.Goals as goal

pub returns-in_err-item : goal.returns-in_err-item
returns-in_err-item c =
    let p = err_from_is_err_and c.from_residual.result c.from_residual.ensures.1 in
    let left = c.args.count - c.loop.counter in
    let after = c.args.count - (c.loop.counter + 1) in
    let one : left ≡ suc after = omega (arith, c.loop-test.true) in
    rw (p.1, p.2)
    (fails c.in_err-item.field-0.0
    (λ are. items_head left after c.loop.at c.args.body.now one (c.loop.invariant.may.1 are)) c.in_err-item.ensures)

pub loop-preserved : goal.loop-preserved
loop-preserved c =
    let body = c.args.body.now in
    let at = c.loop.at in
    let left = c.args.count - c.loop.counter in
    let after = c.args.count - (c.loop.counter + 1) in
    let one : left ≡ suc after = omega (arith, c.loop-test.true) in
    let is = c.in_ok-item.ensures.0 in
    let room : at + 35 ≤ length body =
    omega (arith, c.loop.invariant.place, c.loop-test.true, c.requires.room, c.requires.count) in
    let size : length c.as_slice.result.now ≡ octet_at (at + 2) body =
    ap length c.as_slice.ensures ∙ ap (λ (item : KeyItem). length item.bytes) c.in_ok-item.ensures.1
    ∙ item_length at body is room in
    let next : at + (3 + length c.as_slice.result.now) ≡ behind_item at body = omega (arith, size) in
    let pushed : c.push.new.self.items ≡ c.loop.items.items ++ item_at at body ∷ [] =
    rw (c.in_ok-push.ensures.items, c.in_ok-item.ensures.1) in
    record {
      place = omega (arith, next, item_end at body is, c.loop.invariant.place);
      may = subst (λ (k : ℕ). AreItems after k body ↔ AreItems c.args.count 4 body) (sym next)
          (items_may left after at body (AreItems c.args.count 4 body) one is c.loop.invariant.may);
      read = ap (λ items. items ++ items_in after (at + (3 + length c.as_slice.result.now)) body) pushed
          ∙ ap (λ (k : ℕ). (c.loop.items.items ++ item_at at body ∷ []) ++ items_in after k body) next
          ∙ items_read c.loop.items.items left after at body one ∙ c.loop.invariant.read;
    }
