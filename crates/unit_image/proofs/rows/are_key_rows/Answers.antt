use Rattle.std.proofs.Common.{refl}
use Rattle.key_book.specs.KeyRow.{IsKeyRow}
use Rattle.unit_image.proofs.Lists.{all_more, all_done}
use Rattle.unit_image.proofs.rows.are_key_rows.Goals as goal

pub loop-row-preserved : goal.loop-row-preserved
loop-row-preserved c =
    all_more IsKeyRow c.args.rows.now c.loop-row.row-index c.row-item.result c.row-item.is c.loop-row-test.true
    c.loop-row.invariant (c.is_key_row.ensures.0 c.if-not-is_key_row.false)

pub returns : goal.returns
returns c = (
  λ t. all_done IsKeyRow c.args.rows.now c.loop-row.row-index c.loop-row-test.false c.loop-row.invariant,
  λ all. refl,
)
