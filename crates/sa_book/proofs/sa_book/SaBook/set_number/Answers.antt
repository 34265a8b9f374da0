use Rattle.std.proofs.Common.{rules, ◌≡◌, ◌<◌, [], ◌∷◌, length, Some, None, sym, ap, ◌∙◌, subst}
use Rattle.sa_book.specs.declared.sa_book.SaRow.{SaRow}
use Rattle.sa_book.specs.declared.refusals.SaRefusal.{SaRefusal}
use Rattle.sa_book.specs.SaRow.{following}
use Rattle.sa_book.specs.SaBook.{place_of}
use Rattle.sdls_base.specs.FirstFailing.{first_told}
use Rattle.sa_book.specs.SaRefusal.{if_unkeyed, number_refusal_of, set_number_refusal}
use Rattle.sa_book.proofs.Rows.{on_place, on_nowhere, within_place, same_read, set-changed}
use Rattle.sa_book.proofs.Changes.{IsSaBook-set_number}
use Rattle.sa_book.proofs.sa_book.SaBook.set_number.Goals as goal

pub returns-in_err-i-clause-refused : goal.returns-in_err-i-clause-refused
returns-in_err-i-clause-refused c =
    let nowhere : place_of c.self.inside.rows.items c.args.spi ≡ None =
    rw c.deref.ensures.value at c.in_err-i.ensures.1 in
    let first : set_number_refusal c.self.inside.rows.items c.args.spi c.args.number c.args.floor
    ≡ Some c.in_err-i.field-0.0 =
    on_nowhere c.self.inside.rows.items c.args.spi _ nowhere ∙ ap (λ (r : SaRefusal). Some r)
    (sym c.in_err-i.ensures.0) in
    rw (← c.self.view_is, first) (search rules)

pub returns-in_err-judge_set_number-clause-refused : goal.returns-in_err-judge_set_number-clause-refused
returns-in_err-judge_set_number-clause-refused c =
    let place : place_of c.self.inside.rows.items c.args.spi ≡ Some c.in_ok-i.i =
    rw c.deref.ensures.value at c.in_ok-i.ensures in
    let first : set_number_refusal c.self.inside.rows.items c.args.spi c.args.number c.args.floor
    ≡ Some c.in_err-judge_set_number.field-0.0 =
    on_place c.self.inside.rows.items c.args.spi c.in_ok-i.i c.index.result.now _ place c.index.ensures
    ∙ sym c.in_err-judge_set_number.ensures in
    rw (← c.self.view_is, first) (search rules)

pub returns-clause-refused : goal.returns-clause-refused
returns-clause-refused c =
    let place : place_of c.self.inside.rows.items c.args.spi ≡ Some c.in_ok-i.i =
    rw c.deref.ensures.value at c.in_ok-i.ensures in
    let first : set_number_refusal c.self.inside.rows.items c.args.spi c.args.number c.args.floor ≡ None =
    on_place c.self.inside.rows.items c.args.spi c.in_ok-i.i c.index.result.now _ place c.index.ensures
    ∙ sym c.in_ok-judge_set_number.ensures in
    rw (← c.self.view_is) (sym first)

pub invariant_of-self : goal.invariant_of-self
invariant_of-self c =
    let place : place_of c.self.inside.rows.items c.args.spi ≡ Some c.in_ok-i.i =
    rw c.deref.ensures.value at c.in_ok-i.ensures in
    let within : c.in_ok-i.i < length c.self.inside.rows.items =
    within_place c.self.inside.rows.items c.args.spi c.in_ok-i.i c.index_mut-row.result.now place in
    let same : c.index.result.now ≡ c.index_mut-row.result.now =
    same_read c.self.inside.rows.items c.in_ok-i.i c.index.result.now c.index_mut-row.result.now within
    c.index.ensures c.index_mut-row.ensures.value in
    let free : first_told (if_unkeyed c.index_mut-row.result.now.state ∷ number_refusal_of
    c.index_mut-row.result.now.key c.args.number c.args.floor ∷ []) ≡ None =
    subst (λ (r : SaRow).
    first_told (if_unkeyed r.state ∷ number_refusal_of r.key c.args.number c.args.floor ∷ []) ≡ None) same
    (sym c.in_ok-judge_set_number.ensures) in
    rw c.follow.ensures (IsSaBook-set_number c.self.inside.rows.items c.in_ok-i.i c.index_mut-row.result.now
    c.args.number c.args.floor c.self.invariant within c.index_mut-row.ensures.value free)

pub returns-clause-set : goal.returns-clause-set
returns-clause-set c =
    let place : place_of c.self.inside.rows.items c.args.spi ≡ Some c.in_ok-i.i =
    rw c.deref.ensures.value at c.in_ok-i.ensures in
    rw (← c.self.view_is)
    (rw c.follow.ensures (set-changed c.self.inside.rows.items c.args.spi c.in_ok-i.i
    (λ (row : SaRow). record row { window = following row.direction c.args.number row.window })
    c.index_mut-row.result.now c.self.invariant place c.index_mut-row.ensures.value))
