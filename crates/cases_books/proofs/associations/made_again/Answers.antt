use Rattle.std.proofs.Common.{rules, ◌≡◌, ◌<◌, List, length, get_or, take, sym, ap, ◌∙◌, subst}
use Rattle.sa_book.specs.declared.sa_book.SaRow.{SaRow}
use Rattle.sa_book.specs.SaBook.{MayFollow}
use Rattle.cases_books.proofs.associations.made_again.Goals as goal

pub add_row-requires : goal.add_row-requires
add_row-requires c =
    let same : c.in_ok-clone.field-0 ≡ c.row-item.result = search rules in
    let within : c.loop-row.row-index < length c.args.book.now =
    subst (λ (rows : List SaRow). c.loop-row.row-index < length rows) c.rows-row-items.ensures.rows
    c.loop-row-test.true in
    let here : c.row-item.result ≡ get_or c.args.book.now c.loop-row.row-index c.row-item.result =
    c.row-item.is ∙ ap (λ (rows : List SaRow). get_or rows c.loop-row.row-index c.row-item.result)
    c.rows-row-items.ensures.rows in
    rw (c.loop-row.invariant) (subst (λ (row : SaRow). MayFollow (take c.loop-row.row-index c.args.book.now) row)
    (sym (same ∙ here))
    (c.rows_may_follow.ensures c.args.book.now c.loop-row.row-index c.row-item.result c.rows-row-items.ensures.rules
    within))
