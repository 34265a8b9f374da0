use Rattle.std.proofs.Common.{take, ap, ◌∙◌, arith}
use Rattle.book_record.specs.Padded.{padded}
use Rattle.book_record.proofs.Rows.{row_put}
use Rattle.book_record.proofs.data.Data.row.Goals as goal

pub returns : goal.returns
returns g c =
    let filled = take c.self.inside.end c.self.inside.octets in
    row_put g.row.N c.put.result filled c.put.new.out (omega (arith, c.put.ensures.place)) c.put.ensures.written
    c.put.ensures.rest
    ∙ ap (padded g.row.N) c.self.view_is
