use Rattle.std.proofs.Common.{◌≡◌, ℕ, ◌++◌, ◌*◌, ◌-◌, List, length, take, replicate, ap, ◌∙◌, arith}
use Rattle.key_book.specs.declared.key_row.KeyRow.{KeyRow}
use Rattle.book_record.specs.Padded.{padded}
use Rattle.unit_image.specs.Content.{key_rows, key_room_of}
use Rattle.unit_image.proofs.Fields.{put_width, padded_put}
use Rattle.unit_image.proofs.content.put_keys.Goals as goal

pub returns-clause-written : goal.returns-clause-written
returns-clause-written c =
    let rows = c.rows-rows.result.now in
    let front = take c.args.at c.args.out.now in
    let same = ap length c.rows-rows.ensures.rows in
    let put = c.put_key_rows-end.ensures in
    let size : length (key_rows rows) ≡ 96 * length rows =
    put_width c.args.out.now c.put_key_rows-end.new.out (key_rows rows) c.args.at c.put_key_rows-end.result
    (96 * length rows) put.place (omega arith) (omega (arith, put.place, same, c.requires.fits)) put.written in
    padded_put front (key_rows rows) (take c.put_key_rows-end.result c.put_key_rows-end.new.out)
    (take c.put_zeros.result c.put_zeros.new.out)
    (key_room_of c.args.version) (96 * length rows) size put.written
    (c.put_zeros.ensures.written ∙ ap (λ (width : ℕ). take c.put_key_rows-end.result c.put_key_rows-end.new.out
    ++ replicate (width - 96 * length rows) 0) c.key_room.ensures)
    ∙ ap (λ (own : List KeyRow). front ++ padded (key_room_of c.args.version) (key_rows own)) c.rows-rows.ensures.rows
