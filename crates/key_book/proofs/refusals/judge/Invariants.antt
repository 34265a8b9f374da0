use Rattle.std.proofs.Common.{◌≡◌, take, drop}
use Rattle.key_book.specs.Moves.{moved, moves_refusal}
use Rattle.key_book.proofs.refusals.judge.Given as goal

abbrev pub invariant-loop-i : goal.invariant-loop-i
invariant-loop-i l =
    moves_refusal l.table.rows.items l.ids l.to l.in_use
    ≡ moves_refusal (moved l.table.rows.items (take l.i l.ids) l.to) (drop l.i l.ids) l.to l.in_use
