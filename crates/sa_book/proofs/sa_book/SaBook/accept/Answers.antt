use Rattle.std.proofs.Common.{◌≡◌, Option, Some, subst}
use Rattle.sdls_base.specs.KeyId.{end_of}
use Rattle.sa_book.specs.declared.sa_book.SaRow.{SaRow}
use Rattle.replay_window.specs.Window.{accepted}
use Rattle.sa_book.specs.SaRow.{MayAccept}
use Rattle.sa_book.specs.SaBook.{place_of}
use Rattle.sa_book.proofs.Rows.{within_place, set-changed}
use Rattle.sa_book.proofs.Changes.{IsSaBook-accept}
use Rattle.std.proofs.Common.{IsSomeAnd}
use Rattle.sa_book.proofs.Rows.{row_of_placed, rules_at}
use Rattle.sa_book.proofs.sa_book.SaBook.accept.Goals as goal

pub accept-requires : goal.accept-requires
accept-requires c =
    let place : place_of c.self.inside.rows.items c.args.spi ≡ Some c.known_place-i.result =
    rw c.deref.ensures.value at c.known_place-i.ensures in
    let here = row_of_placed c.self.inside.rows.items c.args.spi c.known_place-i.result c.index_mut-row.result.now place
    c.index_mut-row.ensures.value in
    let may : MayAccept c.index_mut-row.result.now c.args.number =
    subst (λ (o : Option SaRow). IsSomeAnd o (λ (row : SaRow). MayAccept row c.args.number)) here
    (rw (← c.self.view_is) at c.requires) in
    let within = within_place c.self.inside.rows.items c.args.spi c.known_place-i.result c.index_mut-row.result.now
    place in
    let row = rules_at c.self.inside.rows.items c.known_place-i.result c.index_mut-row.result.now c.self.invariant
    within c.index_mut-row.ensures.value in
    record { back = row.back; fresh = (end_of may.key, may.fresh) }

pub invariant_of-self : goal.invariant_of-self
invariant_of-self c =
    let place : place_of c.self.inside.rows.items c.args.spi ≡ Some c.known_place-i.result =
    rw c.deref.ensures.value at c.known_place-i.ensures in
    let here = row_of_placed c.self.inside.rows.items c.args.spi c.known_place-i.result c.index_mut-row.result.now place
    c.index_mut-row.ensures.value in
    let may : MayAccept c.index_mut-row.result.now c.args.number =
    subst (λ (o : Option SaRow). IsSomeAnd o (λ (row : SaRow). MayAccept row c.args.number)) here
    (rw (← c.self.view_is) at c.requires) in
    rw c.accept.ensures (IsSaBook-accept c.self.inside.rows.items c.known_place-i.result c.index_mut-row.result.now
    c.args.number c.self.invariant
    (within_place c.self.inside.rows.items c.args.spi c.known_place-i.result c.index_mut-row.result.now place)
    c.index_mut-row.ensures.value may)

pub returns : goal.returns
returns c =
    let place : place_of c.self.inside.rows.items c.args.spi ≡ Some c.known_place-i.result =
    rw c.deref.ensures.value at c.known_place-i.ensures in
    rw (← c.self.view_is, c.accept.ensures)
    (set-changed c.self.inside.rows.items c.args.spi c.known_place-i.result
    (λ (row : SaRow). record row { window = accepted c.args.number row.window }) c.index_mut-row.result.now
    c.self.invariant place c.index_mut-row.ensures.value)
