use Rattle.std.proofs.Common.{arith, ◌≡◌, ◌≤◌, nat_lt, length, None, sym, ap, ◌∙◌}
use Rattle.std.specs.List.{insert, position_or_len}
use Rattle.sa_book.specs.declared.sa_book.SaRow.{SaRow}
use Rattle.sa_book.specs.SaRow.{new_row}
use Rattle.sa_book.specs.SaBook.{with_row}
use Rattle.sa_book.specs.SaRefusal.{create_refusal}
use Rattle.sa_book.proofs.Rows.{fits_place}
use Rattle.sa_book.proofs.Changes.{IsSaBook-create}
use Rattle.sa_book.proofs.sa_book.SaBook.create.Goals as goal

pub insert-requires : goal.insert-requires
insert-requires c =
    let fits : c.place_for-place.result ≤ length c.self.inside.rows.items =
    rw (c.place_for-place.ensures, c.deref-2.ensures.value)
    (fits_place c.self.inside.rows.items c.args.new.now.spi) in
    omega (arith, c.self.inside.rows.ok.0)

pub invariant_of-self-2 : goal.invariant_of-self-2
invariant_of-self-2 c =
    let free : create_refusal c.self.inside.rows.items c.args.new.now c.args.known.now ≡ None =
    sym (rw c.deref.ensures.value at c.in_ok-judge_create.ensures) in
    let place : c.place_for-place.result ≡ position_or_len (λ (other : SaRow). nat_lt c.args.new.now.spi other.spi)
    c.self.inside.rows.items = rw c.deref-2.ensures.value at c.place_for-place.ensures in
    let items : c.insert.new.self.items ≡ with_row c.self.inside.rows.items (new_row c.args.new.now) =
    c.in_ok-insert.ensures.items ∙ ap (λ n. insert c.self.inside.rows.items n c.in_ok-row.row) place
    ∙ ap (λ (row : SaRow).
    insert c.self.inside.rows.items
    (position_or_len (λ (other : SaRow). nat_lt c.args.new.now.spi other.spi) c.self.inside.rows.items) row)
    c.in_ok-row.ensures in
    rw items (IsSaBook-create c.self.inside.rows.items c.args.new.now c.args.known.now c.self.invariant
    c.requires.window c.requires.channels free)
