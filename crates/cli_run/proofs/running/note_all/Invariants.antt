use Rattle.std.proofs.Common.{◌≡◌, ℕ, List, ◌++◌, take}
use Rattle.std.specs.Prelude.{map}
use Rattle.fsr_log.specs.Noted.{Noted}
use Rattle.fsr_log.specs.Report.{report_of}
use Rattle.run_promise.specs.Sound.{noted_of}
use Rattle.law_workers.specs.Deeds.{deeds_of}
use Rattle.cli_run.proofs.running.note_all.Given as goal

abbrev pub invariant-loop-place : goal.invariant-loop-place
invariant-loop-place l = (notes : List Noted) (number : ℕ) → l.initial.log ≡ report_of notes
    → l.log ≡ report_of (notes ++ map noted_of (deeds_of number l.records (take l.place l.answers)))
