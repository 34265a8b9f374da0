use Rattle.std.proofs.Common.{ap, ◌∙◌, nat_lt, length}
use Rattle.std.specs.Option.{unwrap_or}
use Rattle.sa_book.specs.declared.sa_book.SaRow.{SaRow}
use Rattle.sa_book.proofs.Rows.{or_end}
use Rattle.sa_book.proofs.judging.place_for.Goals as goal

pub returns : goal.returns
returns c =
    c.unwrap_or.ensures ∙ ap (λ o. unwrap_or o (length c.args.rows.now)) c.higher.ensures
    ∙ or_end (λ (other : SaRow). nat_lt c.args.spi other.spi) c.args.rows.now
