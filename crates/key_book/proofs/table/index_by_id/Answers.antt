use Rattle.key_book.specs.declared.key_row.KeyRow.{KeyRow}
use Rattle.key_book.proofs.Sorted.{index_found}
use Rattle.key_book.proofs.table.index_by_id.Goals as goal

pub returns : goal.returns
returns c =
    index_found (λ (row : KeyRow). row.id) c.args.rows.now c.in_ok-entries.entries.items c.sorted.result
    c.in_ok-entries.ensures c.sorted.ensures.same c.sorted.ensures.ascending
