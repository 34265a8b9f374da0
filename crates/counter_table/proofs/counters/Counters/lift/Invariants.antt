use Rattle.counter_table.proofs.counters.Counters.lift.Given as goal

abbrev pub ghosts-max_to_lift : goal.ghosts-max_to_lift
ghosts-max_to_lift g a = record { of_row = a.row; number = a.mark; marks = (g.B.Counted.told a.held.now.book).marks }
