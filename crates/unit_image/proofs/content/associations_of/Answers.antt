use Rattle.std.proofs.Common.{◌++◌, ◌∙◌, List, sym, ap}
use Rattle.sa_book.specs.declared.sa_book.SaRow.{SaRow}
use Rattle.sa_book.specs.SaBook.{MayFollow}
use Rattle.key_book.proofs.Lacking.{next_follows}
use Rattle.unit_image.proofs.content.associations_of.Goals as goal

pub returns-then-not-may_follow_associations : goal.returns-then-not-may_follow_associations
returns-then-not-may_follow_associations c = λ is.
    let split = ap (λ (rest : List SaRow). c.loop-row.book ++ rest) (sym c.in-Some.ensures.steps.0)
    ∙ c.loop-row.invariant.all in
    let told = c.may_follow_associations.ensures.1
    (next_follows MayFollow c.loop-row.book c.next.new.self.rest.items c.args.rows.items c.in-Some.row split
    (λ i d inside. c.rows_may_follow.ensures c.args.rows.items i d is inside)) in
    let not = c.if-not-may_follow_associations.true in
    absurd cc
