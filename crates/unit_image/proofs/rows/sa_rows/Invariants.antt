use Rattle.std.proofs.Common.{◌≡◌, ℕ, ◌*◌, ◌++◌, List, All, length}
use Rattle.sa_book.specs.declared.sa_book.SaRow.{SaRow}
use Rattle.unit_image.specs.Content.{sa_rows}
use Rattle.unit_image.specs.ContentReading.{IsRestartedRow, AreSaRows}
use Rattle.unit_image.proofs.RowsRead.{sa_octets, SplitAt}
use Rattle.unit_image.proofs.rows.sa_rows.Given as goal

abbrev pub decreases-loop-rest : goal.decreases-loop-rest
decreases-loop-rest l = length l.rest

abbrev pub invariant-loop-rest : goal.invariant-loop-rest
invariant-loop-rest l = record {
  each : All (λ (row : SaRow). (IsRestartedRow l.keys) row (sa_octets row)) l.rows.items;
  put : sa_rows l.rows.items ++ l.rest ≡ l.octets;
  only : (all : List SaRow) → AreSaRows l.keys all l.octets
      → SplitAt (λ others. AreSaRows l.keys others l.rest) l.rows.items all;
  whole : (count : ℕ) × (length l.rest ≡ 32 * count);
}
