use Rattle.std.proofs.Common.{◌≡◌, ℕ, ◌<◌, [], length, get_or}
use Rattle.gcm.specs.Rows.{IsRow}
use Rattle.gcm.proofs.table.rows_of.Given as goal

-- the rows so far
abbrev pub invariant-rows : goal.invariant-rows
invariant-rows l = record {
  long : length l.rows ≡ 16;
  made : (i : ℕ) → i < l.place → IsRow l.v i (get_or l.rows i []);
}
