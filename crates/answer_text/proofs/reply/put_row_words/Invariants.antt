use Rattle.std.proofs.Common.{◌≡◌, ◌++◌, drop}
use Rattle.std.specs.List.{flat_map}
use Rattle.answer_text.specs.Part.{row_words}
use Rattle.answer_text.proofs.reply.put_row_words.Given as goal

-- the rows put, and those that are left, are all rows
abbrev pub invariant-loop-row : goal.invariant-loop-row
invariant-loop-row l = l.text.items ++ flat_map row_words (drop l.row-index l.rows)
    ≡ l.initial.text.items ++ flat_map row_words l.rows
