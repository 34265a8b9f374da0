use Rattle.std.proofs.Common.{rules, ◌≡◌, Some, None, sym, ap, ◌∙◌}
use Rattle.sa_book.specs.declared.refusals.SaRefusal.{SaRefusal}
use Rattle.sa_book.specs.SaBook.{place_of}
use Rattle.sa_book.specs.SaRefusal.{delete_refusal}
use Rattle.sa_book.proofs.Rows.{on_place, on_nowhere, within_place, remove-without, IsSaBook-remove}
use Rattle.sa_book.proofs.sa_book.SaBook.delete.Goals as goal

pub returns-in_err-i-clause-refused : goal.returns-in_err-i-clause-refused
returns-in_err-i-clause-refused c =
    let nowhere : place_of c.self.inside.rows.items c.args.spi ≡ None =
    rw c.deref.ensures.value at c.in_err-i.ensures.1 in
    let first : delete_refusal c.self.inside.rows.items c.args.spi ≡ Some c.in_err-i.field-0.0 =
    on_nowhere c.self.inside.rows.items c.args.spi _ nowhere ∙ ap (λ (r : SaRefusal). Some r)
    (sym c.in_err-i.ensures.0) in
    rw (← c.self.view_is, first) (search rules)

pub returns-in_err-check_unkeyed-clause-refused : goal.returns-in_err-check_unkeyed-clause-refused
returns-in_err-check_unkeyed-clause-refused c =
    let place : place_of c.self.inside.rows.items c.args.spi ≡ Some c.in_ok-i.i =
    rw c.deref.ensures.value at c.in_ok-i.ensures in
    let first : delete_refusal c.self.inside.rows.items c.args.spi ≡ Some c.in_err-check_unkeyed.field-0.0 =
    on_place c.self.inside.rows.items c.args.spi c.in_ok-i.i c.index.result.now _ place c.index.ensures
    ∙ sym c.in_err-check_unkeyed.ensures in
    rw (← c.self.view_is, first) (search rules)

pub returns-clause-refused : goal.returns-clause-refused
returns-clause-refused c =
    let place : place_of c.self.inside.rows.items c.args.spi ≡ Some c.in_ok-i.i =
    rw c.deref.ensures.value at c.in_ok-i.ensures in
    let first : delete_refusal c.self.inside.rows.items c.args.spi ≡ None =
    on_place c.self.inside.rows.items c.args.spi c.in_ok-i.i c.index.result.now _ place c.index.ensures
    ∙ sym c.in_ok-check_unkeyed.ensures in
    rw (← c.self.view_is) (sym first)

pub invariant_of-self : goal.invariant_of-self
invariant_of-self c =
    let place : place_of c.self.inside.rows.items c.args.spi ≡ Some c.in_ok-i.i =
    rw c.deref.ensures.value at c.in_ok-i.ensures in
    rw c.remove.ensures.items (IsSaBook-remove c.self.inside.rows.items c.in_ok-i.i c.self.invariant
    (within_place c.self.inside.rows.items c.args.spi c.in_ok-i.i c.index.result.now place))

pub returns-clause-deleted : goal.returns-clause-deleted
returns-clause-deleted c =
    let place : place_of c.self.inside.rows.items c.args.spi ≡ Some c.in_ok-i.i =
    rw c.deref.ensures.value at c.in_ok-i.ensures in
    c.remove.ensures.items ∙ rw (← c.self.view_is)
    (remove-without c.self.inside.rows.items c.args.spi c.in_ok-i.i c.index.result.now c.self.invariant place
    c.index.ensures)
