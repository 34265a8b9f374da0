use Rattle.std.proofs.Common.{take, All}
use Rattle.key_book.specs.KeyRow.{IsKeyRow}
use Rattle.unit_image.proofs.rows.are_key_rows.Given as goal

abbrev pub invariant-loop-row : goal.invariant-loop-row
invariant-loop-row l = All IsKeyRow (take l.row-index l.rows)
