use Rattle.std.proofs.Common.{◌≡◌, ◌++◌, drop}
use Rattle.status_text.specs.Text.{associations_text}
use Rattle.status_text.proofs.text.put_associations.Given as goal

-- the lines put, and those of the rows that are left, are all lines
abbrev pub invariant-loop-row : goal.invariant-loop-row
invariant-loop-row l = l.text.items ++ associations_text (drop l.row-index l.rows)
    ≡ l.initial.text.items ++ associations_text l.rows
