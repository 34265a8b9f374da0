use Rattle.std.proofs.Common.{rules, ◌≡◌, Some, None, sym, ap, ◌∙◌}
use Rattle.sa_book.specs.declared.refusals.SaRefusal.{SaRefusal}
use Rattle.sa_book.specs.SaBook.{place_of}
use Rattle.sa_book.specs.SaRefusal.{read_number_refusal}
use Rattle.sa_book.proofs.Rows.{row_of_placed, on_place, on_nowhere, within_place}
use Rattle.sa_book.proofs.Changes.{next_fits}
use Rattle.sa_book.proofs.sa_book.SaBook.read_number.Goals as goal

pub returns-in_err-i-clause-refused : goal.returns-in_err-i-clause-refused
returns-in_err-i-clause-refused c =
    let nowhere : place_of c.self.inside.rows.items c.args.spi ≡ None =
    rw c.deref.ensures.value at c.in_err-i.ensures.1 in
    let first : read_number_refusal c.self.inside.rows.items c.args.spi ≡ Some c.in_err-i.field-0.0 =
    on_nowhere c.self.inside.rows.items c.args.spi _ nowhere ∙ ap (λ (r : SaRefusal). Some r)
    (sym c.in_err-i.ensures.0) in
    rw (← c.self.view_is, first) (search rules)

pub next_number-requires : goal.next_number-requires
next_number-requires c =
    let place : place_of c.self.inside.rows.items c.args.spi ≡ Some c.in_ok-i.i =
    rw c.deref.ensures.value at c.in_ok-i.ensures in
    next_fits c.self.inside.rows.items c.in_ok-i.i c.index.result.now c.self.invariant
    (within_place c.self.inside.rows.items c.args.spi c.in_ok-i.i c.index.result.now place) c.index.ensures

pub returns-clause-number : goal.returns-clause-number
returns-clause-number c =
    let place : place_of c.self.inside.rows.items c.args.spi ≡ Some c.in_ok-i.i =
    rw c.deref.ensures.value at c.in_ok-i.ensures in
    rw (
      ← c.self.view_is,
      row_of_placed c.self.inside.rows.items c.args.spi c.in_ok-i.i c.index.result.now place
          c.index.ensures,
    ) c.next_number.ensures.number

pub returns-clause-refused : goal.returns-clause-refused
returns-clause-refused c =
    let place : place_of c.self.inside.rows.items c.args.spi ≡ Some c.in_ok-i.i =
    rw c.deref.ensures.value at c.in_ok-i.ensures in
    rw (← c.self.view_is)
    (c.next_number.ensures.refused
    ∙ sym (on_place c.self.inside.rows.items c.args.spi c.in_ok-i.i c.index.result.now _ place c.index.ensures))
