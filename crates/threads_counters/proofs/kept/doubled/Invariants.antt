use Rattle.threads_counters.proofs.kept.doubled.Given as goal

abbrev pub ghosts-doubles_there : goal.ghosts-doubles_there
ghosts-doubles_there g a = record { book = a.fresh }
