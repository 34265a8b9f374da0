use Rattle.std.proofs.Common.{map}
use Rattle.sdls_outside.specs.Undo.{range_of}
use Rattle.sdls_outside.proofs.Ranges.{IsFilledBelow}
use Rattle.sdls_outside.proofs.mem_site.fill.Given as goal

abbrev pub invariant-loop-i : goal.invariant-loop-i
invariant-loop-i l = IsFilledBelow l.i l.octet (map range_of l.undos.items) l.initial.image l.image
