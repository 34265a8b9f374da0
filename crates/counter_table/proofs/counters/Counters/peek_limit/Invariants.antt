use Rattle.std.proofs.Common.{[]}
use Rattle.counter_table.proofs.counters.Counters.peek_limit.Given as goal

abbrev pub ghosts-load_to_peek : goal.ghosts-load_to_peek
ghosts-load_to_peek g a = record { of_row = a.row; number = a.number; marks = [] }
