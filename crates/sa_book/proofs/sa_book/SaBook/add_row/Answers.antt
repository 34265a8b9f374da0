use Rattle.sa_book.proofs.Rows.{IsSaBook-push}
use Rattle.sa_book.proofs.sa_book.SaBook.add_row.Goals as goal

pub invariant_of-self-2 : goal.invariant_of-self-2
invariant_of-self-2 c =
    rw c.in_ok-push.ensures.items
    (IsSaBook-push c.self.inside.rows.items c.args.row c.self.invariant (rw (← c.self.view_is) at c.requires))
