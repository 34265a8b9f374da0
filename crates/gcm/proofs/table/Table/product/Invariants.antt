use Rattle.std.proofs.Common.{◌≡◌}
use Rattle.gcm.specs.Rows.{sum_of}
use Rattle.gcm.proofs.PairFacts.{rows_down}
use Rattle.gcm.proofs.table.Table.product.Given as goal

-- the rows so far
abbrev pub invariant-rows : goal.invariant-rows
invariant-rows l = sum_of l.high l.middle l.low ≡ rows_down l.a l.self l.i
