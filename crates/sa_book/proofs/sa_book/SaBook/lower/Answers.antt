use Rattle.sa_book.proofs.HighRules.{IsSaBook-lowered}
use Rattle.sa_book.proofs.sa_book.SaBook.lower.Goals as goal

pub invariant_of-self : goal.invariant_of-self
invariant_of-self c =
    rw c.lower.ensures (IsSaBook-lowered c.self.inside.rows.items c.args.key c.args.floor c.self.invariant)
