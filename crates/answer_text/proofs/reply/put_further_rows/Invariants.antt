use Rattle.std.proofs.Common.{◌≡◌, ◌++◌, drop}
use Rattle.std.specs.List.{flat_map}
use Rattle.answer_text.specs.Part.{further_row}
use Rattle.answer_text.proofs.reply.put_further_rows.Given as goal

-- the rows put, and those that are left, are all rows
abbrev pub invariant-loop-row : goal.invariant-loop-row
invariant-loop-row l = l.text.items ++ flat_map further_row (drop l.row-index l.rows)
    ≡ l.initial.text.items ++ flat_map further_row l.rows
