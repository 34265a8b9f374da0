use Rattle.std.proofs.Common.{◌≡◌, take}
use Rattle.key_book.specs.Moves.{lowest_holder}
use Rattle.key_book.proofs.refusals.lowest_holder.Given as goal

abbrev pub invariant-loop-pair : goal.invariant-loop-pair
invariant-loop-pair l = l.lowest ≡ lowest_holder (take l.pair-index l.in_use) l.id
