use Rattle.std.proofs.Common.{rules, ◌≡◌, ◌<◌, length, Some, None, sym, ap, ◌∙◌, subst}
use Rattle.sa_book.specs.declared.sa_book.SaRow.{SaRow}
use Rattle.sa_book.specs.declared.refusals.SaRefusal.{SaRefusal}
use Rattle.sa_book.specs.SaRow.{without_key}
use Rattle.sa_book.specs.SaBook.{place_of}
use Rattle.sa_book.specs.SaRefusal.{unless_keyed, expire_refusal}
use Rattle.sa_book.proofs.Rows.{on_place, on_nowhere, within_place, same_read, set-changed}
use Rattle.sa_book.proofs.Changes.{IsSaBook-expire}
use Rattle.sa_book.proofs.sa_book.SaBook.expire.Goals as goal

pub returns-in_err-i-clause-refused : goal.returns-in_err-i-clause-refused
returns-in_err-i-clause-refused c =
    let nowhere : place_of c.self.inside.rows.items c.args.spi ≡ None =
    rw c.deref.ensures.value at c.in_err-i.ensures.1 in
    let first : expire_refusal c.self.inside.rows.items c.args.spi ≡ Some c.in_err-i.field-0.0 =
    on_nowhere c.self.inside.rows.items c.args.spi _ nowhere ∙ ap (λ (r : SaRefusal). Some r)
    (sym c.in_err-i.ensures.0) in
    rw (← c.self.view_is, first) (search rules)

pub returns-in_err-check_keyed-clause-refused : goal.returns-in_err-check_keyed-clause-refused
returns-in_err-check_keyed-clause-refused c =
    let place : place_of c.self.inside.rows.items c.args.spi ≡ Some c.in_ok-i.i =
    rw c.deref.ensures.value at c.in_ok-i.ensures in
    let first : expire_refusal c.self.inside.rows.items c.args.spi ≡ Some c.in_err-check_keyed.field-0.0 =
    on_place c.self.inside.rows.items c.args.spi c.in_ok-i.i c.index.result.now _ place c.index.ensures
    ∙ sym c.in_err-check_keyed.ensures in
    rw (← c.self.view_is, first) (search rules)

pub returns-clause-refused : goal.returns-clause-refused
returns-clause-refused c =
    let place : place_of c.self.inside.rows.items c.args.spi ≡ Some c.in_ok-i.i =
    rw c.deref.ensures.value at c.in_ok-i.ensures in
    let first : expire_refusal c.self.inside.rows.items c.args.spi ≡ None =
    on_place c.self.inside.rows.items c.args.spi c.in_ok-i.i c.index.result.now _ place c.index.ensures
    ∙ sym c.in_ok-check_keyed.ensures in
    rw (← c.self.view_is) (sym first)

pub invariant_of-self : goal.invariant_of-self
invariant_of-self c =
    let place : place_of c.self.inside.rows.items c.args.spi ≡ Some c.in_ok-i.i =
    rw c.deref.ensures.value at c.in_ok-i.ensures in
    let within : c.in_ok-i.i < length c.self.inside.rows.items =
    within_place c.self.inside.rows.items c.args.spi c.in_ok-i.i c.index_mut-row.result.now place in
    let same : c.index.result.now ≡ c.index_mut-row.result.now =
    same_read c.self.inside.rows.items c.in_ok-i.i c.index.result.now c.index_mut-row.result.now within
    c.index.ensures c.index_mut-row.ensures.value in
    let free : unless_keyed c.index_mut-row.result.now.state ≡ None =
    subst (λ (r : SaRow). unless_keyed r.state ≡ None) same (sym c.in_ok-check_keyed.ensures) in
    rw c.begin_at.ensures (IsSaBook-expire c.self.inside.rows.items c.in_ok-i.i c.index_mut-row.result.now
    c.self.invariant within c.index_mut-row.ensures.value)

pub returns-clause-expired : goal.returns-clause-expired
returns-clause-expired c =
    let place : place_of c.self.inside.rows.items c.args.spi ≡ Some c.in_ok-i.i =
    rw c.deref.ensures.value at c.in_ok-i.ensures in
    rw (← c.self.view_is, c.begin_at.ensures)
    ((set-changed c.self.inside.rows.items c.args.spi c.in_ok-i.i without_key c.index_mut-row.result.now
    c.self.invariant place c.index_mut-row.ensures.value))
