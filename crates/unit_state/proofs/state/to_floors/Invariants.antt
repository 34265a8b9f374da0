use Rattle.std.proofs.Common.{◌≡◌, ◌++◌, length, map, take, drop}
use Rattle.sa_book.specs.SaBook.{IsSaBook}
use Rattle.unit_state.specs.Restart.{restarted_row}
use Rattle.unit_state.proofs.state.to_floors.Given as goal

abbrev pub invariant-loop-place : goal.invariant-loop-place
invariant-loop-place l = record {
  set : l.associations ≡ map (restarted_row l.keys) (take l.place l.initial.associations)
      ++ drop l.place l.initial.associations;
  many : length l.associations ≡ length l.initial.associations;
  rules : IsSaBook l.initial.associations → IsSaBook l.associations;
}
