use Rattle.std.proofs.Common.{rules, ◌≡◌, Some, None}
use Rattle.sa_book.specs.SaBook.{place_of, row_of}
use Rattle.sa_book.proofs.Rows.{row_of_placed, nowhere_row}
use Rattle.sa_book.proofs.sa_book.SaBook.status.Goals as goal

pub returns-in_err-i-clause-unknown : goal.returns-in_err-i-clause-unknown
returns-in_err-i-clause-unknown c =
    let nowhere : row_of c.self.inside.rows.items c.args.spi ≡ None =
    nowhere_row c.self.inside.rows.items c.args.spi (rw c.deref.ensures.value at c.in_err-i.ensures.1) in
    let unknown = c.in_err-i.ensures.0 in
    rw (← c.self.view_is, nowhere) (search rules)

pub returns-clause-row : goal.returns-clause-row
returns-clause-row c =
    let place : place_of c.self.inside.rows.items c.args.spi ≡ Some c.in_ok-i.i =
    rw c.deref.ensures.value at c.in_ok-i.ensures in
    rw (← c.self.view_is) (row_of_placed c.self.inside.rows.items c.args.spi c.in_ok-i.i c.index.result.now place
    c.index.ensures)
