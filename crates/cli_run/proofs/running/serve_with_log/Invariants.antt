use Rattle.cli_run.proofs.running.serve_with_log.Given as goal

abbrev pub ghosts-serve_by_crew : goal.ghosts-serve_by_crew
ghosts-serve_by_crew g a = record { book = a.fresh }
