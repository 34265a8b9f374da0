use Rattle.key_book.proofs.Rows.{IsKeyBook-push}
use Rattle.key_book.proofs.key_book.KeyBook.add_row.Goals as goal

pub invariant_of-self-2 : goal.invariant_of-self-2
invariant_of-self-2 c = (
  rw c.in_ok-push.ensures.pushed (IsKeyBook-push _ _ c.self.invariant.0 (rw c.self.view_is c.requires)),
  c.in_ok-push.ensures.indexed,
)
