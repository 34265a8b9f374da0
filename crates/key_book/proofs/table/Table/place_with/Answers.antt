use Rattle.std.proofs.Common.{◌≡◌, nat_eq, get_or, true, Some, None, sym, ap, ◌∙◌}
use Rattle.std.specs.Str.{bytes_eq}
use Rattle.std.specs.List.{position}
use Rattle.key_book.specs.declared.key_row.KeyRow.{KeyRow}
use Rattle.key_book.specs.Index.{place_in}
use Rattle.key_book.specs.Table.{front}
use Rattle.key_book.proofs.Tabled.{digest-nowhere, digest-placed}
use Rattle.key_book.proofs.table.Table.place_with.Goals as goal

pub returns-in_err-i : goal.returns-in_err-i
returns-in_err-i c =
    let nowhere : position (λ (row : KeyRow). nat_eq (front row.digest) (front c.args.digest.now))
    c.args.self.now.rows.items ≡ None =
    sym (c.requires.fronts.places (front c.args.digest.now))
    ∙ ap (place_in c.args.self.now.by_front.entries.items) (sym c.front.ensures) ∙ sym c.place.ensures
    ∙ c.in_err-i.was in
    c.from_residual.ensures ∙ sym (digest-nowhere c.args.self.now.rows.items c.args.digest.now nowhere)

pub returns-then-eq : goal.returns-then-eq
returns-then-eq c =
    let placed : position (λ (row : KeyRow). nat_eq (front row.digest) (front c.args.digest.now))
    c.args.self.now.rows.items ≡ Some c.in_ok-i.i =
    sym (c.requires.fronts.places (front c.args.digest.now))
    ∙ ap (place_in c.args.self.now.by_front.entries.items) (sym c.front.ensures) ∙ sym c.place.ensures
    ∙ c.in_ok-i.was in
    let same : bytes_eq (get_or c.args.self.now.rows.items c.in_ok-i.i c.index.result.now).digest c.args.digest.now
    ≡ true = ap (λ (row : KeyRow). bytes_eq row.digest c.args.digest.now) (sym c.index.ensures) ∙ sym c.eq.ensures
    ∙ c.if-eq.true in
    sym (digest-placed c.args.self.now.rows.items c.args.digest.now c.in_ok-i.i c.index.result.now placed same)
