use Rattle.std.proofs.Common.{[]}
use Rattle.counter_table.proofs.counters.Counters.arm.Given as goal

abbrev pub ghosts-load_to_arm : goal.ghosts-load_to_arm
ghosts-load_to_arm g a = record { of_row = a.row; number = a.end; marks = [] }
