use Rattle.std.proofs.Common.{◌≡◌, ◌<◌, List, length, get_or, take, sym, ap, ◌∙◌, subst}
use Rattle.key_book.specs.declared.key_row.KeyRow.{KeyRow}
use Rattle.key_book.specs.KeyBook.{MayFollow}
use Rattle.cases_books.proofs.keys.made_again.Goals as goal

pub add_row-requires : goal.add_row-requires
add_row-requires c =
    let within : c.loop-row.row-index < length c.args.book.now =
    subst (λ (rows : List KeyRow). c.loop-row.row-index < length rows) c.rows-row-items.ensures.rows
    c.loop-row-test.true in
    let here : c.row-item.result ≡ get_or c.args.book.now c.loop-row.row-index c.row-item.result =
    c.row-item.is ∙ ap (λ (rows : List KeyRow). get_or rows c.loop-row.row-index c.row-item.result)
    c.rows-row-items.ensures.rows in
    rw (c.loop-row.invariant) (subst (λ (row : KeyRow). MayFollow (take c.loop-row.row-index c.args.book.now) row)
    (sym here)
    (c.rows_may_follow.ensures c.args.book.now c.loop-row.row-index c.row-item.result c.rows-row-items.ensures.rules
    within))
