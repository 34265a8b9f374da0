use Rattle.book_record.proofs.Again.{one_change}
use Rattle.book_record.proofs.laws.one_change.Goals as goal

pub returns : goal.returns
returns c = one_change
