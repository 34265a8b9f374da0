use Rattle.std.proofs.Common.{sym, ap, ◌∙◌}
use Rattle.std.proofs.lemmas.Result.{err_from_is_err_and}
use Rattle.book_record.specs.SaParts.{sa_parts, sa_row_octets}
use Rattle.sa_book.specs.declared.sa_book.SaRow.{SaRow}
use Rattle.book_record.proofs.Again.{unequal}
use Rattle.book_record.proofs.Lists.{follows}
use Rattle.book_record.proofs.Rows.{sa_row_says}
use Rattle.book_record.proofs.sa_rows.read_association.Goals as goal

pub returns-in_err-association-clause-malformed : goal.returns-in_err-association-clause-malformed
returns-in_err-association-clause-malformed c =
    let p = err_from_is_err_and c.from_residual.result c.from_residual.ensures.1 in
    rw (p.1, p.2) (follows c.in_err-association.field-0.0
    (λ not parts is. not (sa_row_says parts c.args.row.now is).may) c.in_err-association.ensures)

pub returns-else-eq-clause-malformed : goal.returns-else-eq-clause-malformed
returns-else-eq-clause-malformed c =
    λ parts is.
    let same = c.of.ensures ∙ ap (λ (row : SaRow). sa_parts row) c.in_ok-association.ensures.1
    ∙ (sa_row_says parts c.args.row.now is).value in
    unequal c.write_sa_row.result c.args.row.now c.if-eq.ensures
    (c.write_sa_row.ensures.spelled ∙ ap sa_row_octets same ∙ sym is.spelled)
