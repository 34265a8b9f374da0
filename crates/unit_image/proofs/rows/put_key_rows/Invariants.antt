use Rattle.std.proofs.Common.{◌≡◌, ◌+◌, ◌*◌, ◌++◌, take, All}
use Rattle.unit_image.specs.Content.{key_rows}
use Rattle.unit_image.specs.ContentReading.{IsTypedKey}
use Rattle.book_record.specs.declared.data.TheConstants.{KEY_ROW_LENGTH}
use Rattle.unit_image.proofs.rows.put_key_rows.Given as goal

abbrev pub invariant-loop-row : goal.invariant-loop-row
invariant-loop-row l = record {
  place : l.end ≡ l.at + KEY_ROW_LENGTH * l.row-index;
  written : take l.end l.out ≡ take l.at l.fn.out ++ key_rows (take l.row-index l.rows);
  types : All IsTypedKey (take l.row-index l.rows);
}
