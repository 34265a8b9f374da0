use Rattle.std.proofs.Common.{sym, ap, subst, ◌∙◌, length}
use Rattle.std.proofs.lemmas.Result.{err_from_is_err_and}
use Rattle.key_book.specs.declared.key_row.KeyRow.{KeyRow}
use Rattle.book_record.specs.KeyParts.{key_row_octets, IsRowKeyLength}
use Rattle.book_record.proofs.Again.{unequal, wants_memory}
use Rattle.book_record.proofs.Rows.{key_row_says, row_bytes_fit}
use Rattle.book_record.proofs.key_rows.read_key_row.Goals as goal

pub returns-in_err-parts-clause-only : goal.returns-in_err-parts-clause-only
returns-in_err-parts-clause-only c =
    let p = err_from_is_err_and c.from_residual.result c.from_residual.ensures.1 in
    λ parts is.
    rw (p.1, p.2) (wants_memory c.in_err-parts.field-0.0 c.in_err-parts.ensures
    (key_row_says parts c.args.row.now is).may)

pub returns-then-eq-clause-only : goal.returns-then-eq-clause-only
returns-then-eq-clause-only c = λ parts is. c.in_ok-parts.ensures.1 ∙ (key_row_says parts c.args.row.now is).value

pub returns-else-eq-clause-only : goal.returns-else-eq-clause-only
returns-else-eq-clause-only c =
    λ parts is.
    let same = c.of.ensures ∙ c.in_ok-parts.ensures.1 ∙ (key_row_says parts c.args.row.now is).value in
    absurd (unequal c.write_key_row.result c.args.row.now c.if-eq.ensures
    (c.write_key_row.ensures.spelled ∙ ap key_row_octets same ∙ sym is.spelled))

pub write_key_row-requires : goal.write_key_row-requires
write_key_row-requires c =
    subst (λ (parts : KeyRow). IsRowKeyLength (length parts.bytes)) (sym (c.of.ensures ∙ c.in_ok-parts.ensures.1))
    (row_bytes_fit c.args.row.now c.told-row c.in_ok-parts.ensures.0)
