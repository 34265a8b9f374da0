use Rattle.std.proofs.Common.{◌∙◌}
use Rattle.book_record.specs.SaParts.{sa_parts}
use Rattle.book_record.proofs.Rows.{one_sa_row}
use Rattle.book_record.proofs.sa_rows.read_sa_row.Goals as goal

pub returns-clause-only : goal.returns-clause-only
returns-clause-only c =
    λ parts is. c.of.ensures
    ∙ one_sa_row (sa_parts c.in_ok-association.association) parts c.args.row.now c.in_ok-association.ensures.found is
