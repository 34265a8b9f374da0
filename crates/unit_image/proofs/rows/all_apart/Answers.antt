use Rattle.std.proofs.Common.{refl}
use Rattle.sa_book.specs.declared.sa_book.SaRow.{SaRow}
use Rattle.sa_book.specs.SaBook.{RowsAreApart}
use Rattle.unit_image.proofs.Lists.{all_more, all_done}
use Rattle.unit_image.proofs.rows.all_apart.Goals as goal

pub loop-other-preserved : goal.loop-other-preserved
loop-other-preserved c =
    all_more (λ (other : SaRow). RowsAreApart other c.args.row.now) c.args.rows.now c.loop-other.other-index
    c.other-item.result
    c.other-item.is c.loop-other-test.true c.loop-other.invariant (c.are_apart.ensures.0 c.if-not-are_apart.false)

pub returns : goal.returns
returns c = (
  λ t. all_done (λ (other : SaRow). RowsAreApart other c.args.row.now) c.args.rows.now c.loop-other.other-index
      c.loop-other-test.false c.loop-other.invariant,
  λ all. refl,
)
