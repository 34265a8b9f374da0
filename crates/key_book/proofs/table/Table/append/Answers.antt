use Rattle.std.proofs.Common.{◌≡◌, ◌+◌, ◌-◌, ◌++◌, ◌∷◌, [], ℕ, List, length, ap, ◌∙◌, subst, arith}
use Rattle.key_book.specs.declared.key_row.KeyRow.{KeyRow}
use Rattle.key_book.specs.Table.{HasRoom}
use Rattle.key_book.proofs.Rows.{loaded_row}
use Rattle.key_book.proofs.table.Table.append.Goals as goal

pub loop-item-preserved : goal.loop-item-preserved
loop-item-preserved c =
    let rows : List KeyRow = c.loop-item.self.rows.items in
    let left : length c.args.items.now - c.loop-item.item-index ≡ length c.args.items.now - (c.loop-item.item-index + 1)
    + 1 = omega (arith, c.loop-item-test.true) in
    record {
      rows = c.push_reserved.ensures.rows ∙ ap (λ (row : KeyRow). rows ++ row ∷ []) c.loaded.ensures
          ∙ loaded_row _ rows c.args.items.now c.loop-item.item-index c.item-item.result c.loop-item-test.true
          c.item-item.is c.loop-item.invariant.rows;
      indexed = c.push_reserved.ensures.indexed;
      room = c.push_reserved.ensures.room
          _ (subst (λ (n : ℕ). HasRoom n c.loop-item.self) left c.loop-item.invariant.room);
    }
