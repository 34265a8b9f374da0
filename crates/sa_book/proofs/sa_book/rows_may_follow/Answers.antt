use Rattle.sa_book.proofs.Rows.{may_follow}
use Rattle.sa_book.proofs.sa_book.rows_may_follow.Goals as goal

pub returns : goal.returns
returns c = may_follow
