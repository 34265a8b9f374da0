use Rattle.std.proofs.Common.{[]}
use Rattle.counter_table.proofs.counters.Counters.raise_next.Given as goal

abbrev pub ghosts-max_to_raise : goal.ghosts-max_to_raise
ghosts-max_to_raise g a = record { of_row = a.row; number = a.number; marks = [] }
