use Rattle.std.proofs.Common.{◌≡◌, ℕ, ◌*◌, ◌++◌, List, All, length}
use Rattle.key_book.specs.declared.key_row.KeyRow.{KeyRow}
use Rattle.unit_image.specs.Content.{key_rows}
use Rattle.unit_image.specs.ContentReading.{AreKeyRows, IsTypedKey}
use Rattle.unit_image.proofs.RowsRead.{SplitAt}
use Rattle.unit_image.proofs.rows.key_rows.Given as goal

abbrev pub decreases-loop-rest : goal.decreases-loop-rest
decreases-loop-rest l = length l.rest

abbrev pub invariant-loop-rest : goal.invariant-loop-rest
invariant-loop-rest l = record {
  each : All IsTypedKey l.rows.items;
  put : key_rows l.rows.items ++ l.rest ≡ l.octets;
  only : (all : List KeyRow) → AreKeyRows all l.octets → SplitAt (λ others. AreKeyRows others l.rest) l.rows.items all;
  whole : (count : ℕ) × (length l.rest ≡ 96 * count);
}
