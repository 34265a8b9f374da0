use Rattle.key_book.proofs.Lacking.{no_key, key_nowhere, none_if, true_if}
use Rattle.key_book.proofs.key_book.lacks.Goals as goal

pub returns : goal.returns
returns c = (
  λ t. no_key c.args.book.now c.args.id (none_if _ c.find.result _ _ c.find.ensures.row c.is_none.ensures t),
  λ all. true_if _ c.find.result _ _ c.find.ensures.row c.is_none.ensures (key_nowhere c.args.book.now c.args.id all),
)
