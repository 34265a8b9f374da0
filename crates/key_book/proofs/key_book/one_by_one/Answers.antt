use Rattle.std.proofs.Common.{◌++◌, ◌∙◌, List, sym, ap}
use Rattle.key_book.specs.declared.key_row.KeyRow.{KeyRow}
use Rattle.key_book.specs.KeyBook.{MayFollow}
use Rattle.key_book.proofs.Lacking.{next_follows}
use Rattle.key_book.proofs.key_book.one_by_one.Goals as goal

pub returns-then-not-is_apart : goal.returns-then-not-is_apart
returns-then-not-is_apart c = λ is.
    let split = ap (λ (rest : List KeyRow). c.loop-row.book ++ rest) (sym c.in-Some.ensures.steps.0)
    ∙ c.loop-row.invariant.all in
    let may = next_follows MayFollow c.loop-row.book c.next.new.self.rest.items c.args.rows.items c.in-Some.row split
    (λ i d inside. c.rows_may_follow.ensures c.args.rows.items i d is inside) in
    let told = c.is_apart.ensures.1 (may.identifier, may.digest) in
    let not = c.if-not-is_apart.true in
    absurd cc
