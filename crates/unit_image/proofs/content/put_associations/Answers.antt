use Rattle.std.proofs.Common.{◌≡◌, ℕ, ◌++◌, ◌*◌, ◌-◌, List, length, take, replicate, ap, ◌∙◌, arith}
use Rattle.sa_book.specs.declared.sa_book.SaRow.{SaRow}
use Rattle.book_record.specs.Padded.{padded}
use Rattle.unit_image.specs.Content.{sa_rows, sa_room_of}
use Rattle.unit_image.proofs.Fields.{put_width, padded_put}
use Rattle.unit_image.proofs.content.put_associations.Goals as goal

pub returns-clause-written : goal.returns-clause-written
returns-clause-written c =
    let rows = c.rows-rows.result.now in
    let front = take c.args.at c.args.out.now in
    let same = ap length c.rows-rows.ensures.rows in
    let put = c.put_sa_rows-end.ensures in
    let size : length (sa_rows rows) ≡ 32 * length rows =
    put_width c.args.out.now c.put_sa_rows-end.new.out (sa_rows rows) c.args.at c.put_sa_rows-end.result
    (32 * length rows) put.place (omega arith) (omega (arith, put.place, same, c.requires.fits)) put.written in
    padded_put front (sa_rows rows) (take c.put_sa_rows-end.result c.put_sa_rows-end.new.out)
    (take c.put_zeros.result c.put_zeros.new.out)
    (sa_room_of c.args.version) (32 * length rows) size put.written
    (c.put_zeros.ensures.written ∙ ap (λ (width : ℕ). take c.put_sa_rows-end.result c.put_sa_rows-end.new.out
    ++ replicate (width - 32 * length rows) 0) c.sa_room.ensures)
    ∙ ap (λ (own : List SaRow). front ++ padded (sa_room_of c.args.version) (sa_rows own)) c.rows-rows.ensures.rows
