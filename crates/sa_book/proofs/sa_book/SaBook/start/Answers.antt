use Rattle.std.proofs.Common.{rules, ◌≡◌, ◌<◌, [], ◌∷◌, length, Some, None, sym, ap, ◌∙◌, subst}
use Rattle.sdls_base.specs.declared.states.SaState.TheVariants.{Operational}
use Rattle.sa_book.specs.declared.sa_book.SaRow.{SaRow}
use Rattle.sa_book.specs.declared.refusals.SaRefusal.{SaRefusal}
use Rattle.sa_book.specs.SaBook.{place_of}
use Rattle.sdls_base.specs.FirstFailing.{first_told}
use Rattle.sa_book.specs.SaRefusal.{unless_keyed, rival_of, taken_channel, start_refusal}
use Rattle.sa_book.proofs.Rows.{on_place, on_nowhere, within_place, same_read, set-changed}
use Rattle.sa_book.proofs.Changes.{IsSaBook-start}
use Rattle.sa_book.proofs.sa_book.SaBook.start.Goals as goal

pub returns-in_err-i-clause-refused : goal.returns-in_err-i-clause-refused
returns-in_err-i-clause-refused c =
    let nowhere : place_of c.self.inside.rows.items c.args.spi ≡ None =
    rw c.deref.ensures.value at c.in_err-i.ensures.1 in
    let first : start_refusal c.self.inside.rows.items c.args.spi ≡ Some c.in_err-i.field-0.0 =
    on_nowhere c.self.inside.rows.items c.args.spi _ nowhere ∙ ap (λ (r : SaRefusal). Some r)
    (sym c.in_err-i.ensures.0) in
    rw (← c.self.view_is, first) (search rules)

pub returns-in_err-judge_start-clause-refused : goal.returns-in_err-judge_start-clause-refused
returns-in_err-judge_start-clause-refused c =
    let place : place_of c.self.inside.rows.items c.args.spi ≡ Some c.in_ok-i.i =
    rw c.deref.ensures.value at c.in_ok-i.ensures in
    let first : start_refusal c.self.inside.rows.items c.args.spi ≡ Some c.in_err-judge_start.field-0.0 =
    on_place c.self.inside.rows.items c.args.spi c.in_ok-i.i c.index.result.now _ place c.index.ensures
    ∙ sym (rw c.deref-2.ensures.value at c.in_err-judge_start.ensures) in
    rw (← c.self.view_is, first) (search rules)

pub returns-clause-refused : goal.returns-clause-refused
returns-clause-refused c =
    let place : place_of c.self.inside.rows.items c.args.spi ≡ Some c.in_ok-i.i =
    rw c.deref.ensures.value at c.in_ok-i.ensures in
    let first : start_refusal c.self.inside.rows.items c.args.spi ≡ None =
    on_place c.self.inside.rows.items c.args.spi c.in_ok-i.i c.index.result.now _ place c.index.ensures
    ∙ sym (rw c.deref-2.ensures.value at c.in_ok-judge_start.ensures) in
    rw (← c.self.view_is) (sym first)

pub invariant_of-self : goal.invariant_of-self
invariant_of-self c =
    let place : place_of c.self.inside.rows.items c.args.spi ≡ Some c.in_ok-i.i =
    rw c.deref.ensures.value at c.in_ok-i.ensures in
    let within : c.in_ok-i.i < length c.self.inside.rows.items =
    within_place c.self.inside.rows.items c.args.spi c.in_ok-i.i c.index_mut-row.result.now place in
    let same : c.index.result.now ≡ c.index_mut-row.result.now =
    same_read c.self.inside.rows.items c.in_ok-i.i c.index.result.now c.index_mut-row.result.now within
    c.index.ensures c.index_mut-row.ensures.value in
    let free : first_told (unless_keyed c.index_mut-row.result.now.state
    ∷ taken_channel (rival_of c.self.inside.rows.items c.index_mut-row.result.now) ∷ []) ≡ None =
    subst (λ (r : SaRow).
    first_told (unless_keyed r.state ∷ taken_channel (rival_of c.self.inside.rows.items r) ∷ []) ≡ None)
    same (sym (rw c.deref-2.ensures.value at c.in_ok-judge_start.ensures)) in
    (IsSaBook-start c.self.inside.rows.items c.in_ok-i.i c.index_mut-row.result.now c.self.invariant within
    c.index_mut-row.ensures.value free)

pub returns-clause-started : goal.returns-clause-started
returns-clause-started c =
    let place : place_of c.self.inside.rows.items c.args.spi ≡ Some c.in_ok-i.i =
    rw c.deref.ensures.value at c.in_ok-i.ensures in
    rw (← c.self.view_is)
    ((set-changed c.self.inside.rows.items c.args.spi c.in_ok-i.i
    (λ (row : SaRow). record row { state = Operational }) c.index_mut-row.result.now c.self.invariant place
    c.index_mut-row.ensures.value))
