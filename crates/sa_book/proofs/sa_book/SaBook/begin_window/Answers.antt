use Rattle.std.proofs.Common.{◌<◌, length}
use Rattle.sa_book.specs.SaRow.{HasHigh}
use Rattle.sa_book.specs.declared.sa_book.SaRow.{SaRow}
use Rattle.sa_book.proofs.Changes.{IsSaBook-begin}
use Rattle.sa_book.proofs.sa_book.SaBook.begin_window.Goals as goal

pub invariant_of-self : goal.invariant_of-self
invariant_of-self c =
    let row : SaRow = c.index_mut-row.result.now in
    let there : c.args.place < length c.self.inside.rows.items = rw (← c.self.view_is) at c.requires.there in
    let has : HasHigh row.direction row.key c.args.high =
    (rw (← c.self.view_is) at c.requires.high) row c.index_mut-row.ensures.value in
    rw c.begin_at.ensures
    (IsSaBook-begin c.self.inside.rows.items c.args.place row c.args.high c.self.invariant there
    c.index_mut-row.ensures.value has)
