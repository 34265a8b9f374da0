use Rattle.std.proofs.Common.{◌≡◌, ◌+◌, ◌*◌, ◌++◌, take, All}
use Rattle.unit_image.specs.Content.{sa_rows}
use Rattle.unit_image.specs.ContentReading.{IsTypedSa}
use Rattle.book_record.specs.declared.data.TheConstants.{SA_ROW_LENGTH}
use Rattle.unit_image.proofs.rows.put_sa_rows.Given as goal

abbrev pub invariant-loop-row : goal.invariant-loop-row
invariant-loop-row l = record {
  place : l.end ≡ l.at + SA_ROW_LENGTH * l.row-index;
  written : take l.end l.out ≡ take l.at l.fn.out ++ sa_rows (take l.row-index l.rows);
  types : All IsTypedSa (take l.row-index l.rows);
}
