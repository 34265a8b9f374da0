use Rattle.std.proofs.Common.{[]}
use Rattle.counter_table.proofs.counters.Counters.draw.Given as goal

abbrev pub ghosts-add_to_draw : goal.ghosts-add_to_draw
ghosts-add_to_draw g a = record { of_row = a.row; number = 0; marks = [] }
