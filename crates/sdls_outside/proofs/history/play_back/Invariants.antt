-- What is left to be undone leads to what all leads to.
use Rattle.std.proofs.Common.{◌≡◌, length}
use Rattle.sdls_outside.specs.Undo.{CanPlayBack, played_back}
use Rattle.sdls_outside.proofs.history.play_back.Given as goal

abbrev pub decreases-loop-undo : goal.decreases-loop-undo
decreases-loop-undo l = length l.undos.items

abbrev pub invariant-loop-undo : goal.invariant-loop-undo
invariant-loop-undo l = record {
  can : CanPlayBack l.undos.items l.image.items;
  same : played_back l.undos.items l.image.items ≡ played_back l.initial.undos.items l.initial.image.items;
}
