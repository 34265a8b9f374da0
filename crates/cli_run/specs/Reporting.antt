-- The log of a run, as a session keeps it (profile).
use Rattle.std.specs.Prelude.{◌≡◌, ◌⊎◌, ℕ, List, ◌++◌, map, Result}
use Rattle.fsr_log.specs.Noted.{Noted}
use Rattle.fsr_log.specs.Reply.{Answers}
use Rattle.fsr_log.specs.Report.{Report, report_of}
use Rattle.record_io.specs.declared.answers.Answer.{Answer}
use Rattle.record_io.specs.declared.item_cursor.Record.{Record}
use Rattle.run_promise.specs.Answers.{monitored_told, told_by}
use Rattle.run_promise.specs.Fits.{IsWanting}
use Rattle.run_promise.specs.Sound.{AreReported, noted_of}
use Rattle.law_workers.specs.Deeds.{deeds_of}

-- the answer to a monitoring message, by what the log reports, when the run has so many entries; or memory ran out
abbrev pub LogAnswers : Report → List ℕ → ℕ → Answer → Type 0
LogAnswers report octets entries answer = IsWanting answer
    ⊎ ((said : Result (List ℕ) ℕ) × Answers report octets said × (told_by answer ≡ monitored_told said)
    × (answer.position ≡ entries))

-- the answers to the records were noted behind those before, in their order
abbrev pub NotesAll : List Record → List Answer → Report → Report → Type 0
NotesAll records answers old new = (notes : List Noted) (number : ℕ) → old ≡ report_of notes
    → new ≡ report_of (notes ++ map noted_of (deeds_of number records answers))

-- each monitoring message among them has the answer of the log of the answers before it
abbrev pub ReportsAll : List Record → List Answer → Report → Type 0
ReportsAll records answers old = (notes : List Noted) (number : ℕ) → old ≡ report_of notes
    → AreReported notes (deeds_of number records answers)
