use Rattle.std.proofs.Common.{◌≡◌, ◌++◌, ◌<◌, drop, take, map}
use Rattle.std.specs.List.{All}
use Rattle.status_text.specs.Text.{key_lines}
use Rattle.status_text.proofs.text.put_key_lines.Given as goal

-- the lines put, and those of the rows that are left, are all lines
abbrev pub invariant-loop-row : goal.invariant-loop-row
invariant-loop-row l = record {
  put : l.text.items ++ key_lines (map (λ row. row.now) (drop l.row-index l.rows)) ≡ l.initial.text.items ++ key_lines
      (map (λ row. row.now) l.rows);
  numbered : All (λ row. (0 < row.now.id) × (row.now.id < 65536)) (take l.row-index l.rows);
}
