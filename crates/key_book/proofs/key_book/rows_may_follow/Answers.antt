use Rattle.key_book.proofs.Rows.{may_follow}
use Rattle.key_book.proofs.key_book.rows_may_follow.Goals as goal

pub returns : goal.returns
returns c = may_follow
