use Rattle.std.proofs.Common.{[]}
use Rattle.counter_table.proofs.counters.Counters.join.Given as goal

abbrev pub ghosts-look : goal.ghosts-look
ghosts-look g a = record { of_row = 0; number = a.rows; marks = [] }
