use Rattle.std.proofs.Common.{◌≡◌, nat_eq, get_or, Some, None, sym, ap, ◌∙◌, subst}
use Rattle.std.proofs.lemmas.List.Quantifiers.{position-Some}
use Rattle.sdls_base.proofs.Searches.{find_placed, find_nowhere}
use Rattle.key_book.specs.declared.key_row.KeyRow.{KeyRow}
use Rattle.key_book.specs.KeyRow.{IsKeyRow}
use Rattle.key_book.specs.KeyBook.{place_of}
use Rattle.key_book.proofs.key_book.KeyBook.find.Goals as goal

pub returns-in_err-i-clause-row : goal.returns-in_err-i-clause-row
returns-in_err-i-clause-row c =
    let nowhere : place_of c.args.self.now c.args.id ≡ None = cc (c.in_err-i.was, c.place.ensures, c.self.view_is) in
    rw c.from_residual.ensures (sym (find_nowhere (λ (row : KeyRow). nat_eq row.id c.args.id) c.args.self.now nowhere))

pub returns-clause-row : goal.returns-clause-row
returns-clause-row c =
    let placed : place_of c.args.self.now c.args.id ≡ Some c.in_ok-i.i =
    cc (c.in_ok-i.was, c.place.ensures, c.self.view_is) in
    let read : c.index.result.now ≡ get_or c.args.self.now c.in_ok-i.i c.index.result.now =
    cc (c.index.ensures, c.self.view_is) in
    ap Some read ∙ sym (find_placed (λ (row : KeyRow). nat_eq row.id c.args.id) c.args.self.now c.in_ok-i.i
    c.index.result.now placed)

pub returns-clause-rules : goal.returns-clause-rules
returns-clause-rules c =
    let rows = c.self.inside.table.rows.items in
    let placed : place_of rows c.args.id ≡ Some c.in_ok-i.i = cc (c.in_ok-i.was, c.place.ensures) in
    subst IsKeyRow (sym c.index.ensures)
    (c.self.invariant.0.rules.each c.in_ok-i.i c.index.result.now
    (position-Some (λ (row : KeyRow). nat_eq row.id c.args.id) rows c.in_ok-i.i c.index.result.now placed).0)
