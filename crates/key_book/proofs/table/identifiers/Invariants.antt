use Rattle.key_book.specs.declared.key_row.KeyRow.{KeyRow}
use Rattle.key_book.proofs.Sorted.{AreNumbersTo}
use Rattle.key_book.proofs.table.identifiers.Given as goal

abbrev pub invariant-loop-i : goal.invariant-loop-i
invariant-loop-i l = AreNumbersTo (λ (row : KeyRow). row.id) l.rows l.entries.items l.i
