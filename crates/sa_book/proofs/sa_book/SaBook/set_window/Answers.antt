use Rattle.std.proofs.Common.{rules, ◌≡◌, ◌<◌, length, Some, None, sym, ap, ◌∙◌}
use Rattle.replay_window.specs.Window.{with_field}
use Rattle.sa_book.specs.declared.sa_book.SaRow.{SaRow}
use Rattle.sa_book.specs.declared.refusals.SaRefusal.{SaRefusal}
use Rattle.sa_book.specs.SaBook.{place_of}
use Rattle.sa_book.specs.SaRefusal.{set_window_refusal}
use Rattle.sa_book.proofs.Rows.{on_place, on_nowhere, within_place, set-changed}
use Rattle.sa_book.proofs.Changes.{IsSaBook-set_window}
use Rattle.sa_book.proofs.sa_book.SaBook.set_window.Goals as goal

pub returns-in_err-i-clause-refused : goal.returns-in_err-i-clause-refused
returns-in_err-i-clause-refused c =
    let nowhere : place_of c.self.inside.rows.items c.args.spi ≡ None =
    rw c.deref.ensures.value at c.in_err-i.ensures.1 in
    let first : set_window_refusal c.self.inside.rows.items c.args.spi ≡ Some c.in_err-i.field-0.0 =
    on_nowhere c.self.inside.rows.items c.args.spi _ nowhere ∙ ap (λ (r : SaRefusal). Some r)
    (sym c.in_err-i.ensures.0) in
    rw (← c.self.view_is, first) (search rules)

pub returns-clause-refused : goal.returns-clause-refused
returns-clause-refused c =
    let place : place_of c.self.inside.rows.items c.args.spi ≡ Some c.in_ok-i.i =
    rw c.deref.ensures.value at c.in_ok-i.ensures in
    rw (← c.self.view_is)
    (sym (on_place c.self.inside.rows.items c.args.spi c.in_ok-i.i c.index_mut-row.result.now _ place
    c.index_mut-row.ensures.value))

pub invariant_of-self : goal.invariant_of-self
invariant_of-self c =
    let place : place_of c.self.inside.rows.items c.args.spi ≡ Some c.in_ok-i.i =
    rw c.deref.ensures.value at c.in_ok-i.ensures in
    let within : c.in_ok-i.i < length c.self.inside.rows.items =
    within_place c.self.inside.rows.items c.args.spi c.in_ok-i.i c.index_mut-row.result.now place in
    rw c.set_field.ensures (IsSaBook-set_window c.self.inside.rows.items c.in_ok-i.i c.index_mut-row.result.now
    c.args.window c.self.invariant within c.index_mut-row.ensures.value c.requires)

pub returns-clause-set : goal.returns-clause-set
returns-clause-set c =
    let place : place_of c.self.inside.rows.items c.args.spi ≡ Some c.in_ok-i.i =
    rw c.deref.ensures.value at c.in_ok-i.ensures in
    rw (← c.self.view_is, c.set_field.ensures)
    ((set-changed c.self.inside.rows.items c.args.spi c.in_ok-i.i
    (λ (row : SaRow). record row { window = with_field c.args.window row.window }) c.index_mut-row.result.now
    c.self.invariant place c.index_mut-row.ensures.value))
