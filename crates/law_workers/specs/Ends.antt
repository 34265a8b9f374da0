-- How the records of a segment, or of a lane, are answered (profile).
use Rattle.std.specs.Prelude.{◌≡◌, ℕ, Bool, true, false, List, ◌++◌, length, slice_get, Some, ◌≢◌, ◌⊎◌, ◌≤◌}
use Rattle.counter_table.specs.declared.view.View.{View}
use Rattle.record_io.specs.declared.item_cursor.Record.{Record}
use Rattle.record_io.specs.declared.answers.Answer.{Answer}
use Rattle.run_promise.specs.Call.{Begin}
use Rattle.record_io.specs.declared.reader.RecordKind.TheVariants.{Protect}
use Rattle.sdls_outside.specs.Faults.{Rose}
use Rattle.law_workers.specs.Counts.{is_of_record, count_at}
use Rattle.run_promise.specs.Fits.{MayAppend}
use Rattle.run_promise.specs.declared.end.TheConstants.{MOST_ENTRIES}
use Rattle.law_workers.specs.Views.{IsBetween, log_of, entries_in}
use Rattle.law_workers.specs.Deeds.{course_in}

-- Why a record has no answer: the run has as many entries as it may, which all stand, the site had not failed, and the
-- record is of a kind that always makes one, or may need one. None of the lines that the worker made since is an entry
-- of the record.
pub record IsFullFor (begin : Begin) (old new : View) (task : Record) : Type 0 where
  pub full : MOST_ENTRIES ≤ length (entries_in new)
  pub stood : MOST_ENTRIES ≤ new.turn.known.standing
  pub not_failed : ¬ Rose old.turn.known.opening.faults old.turn.known.faults
  pub due : (task.kind ≢ Protect) ⊎ MayAppend (IsBetween begin old new) (course_in begin new) MOST_ENTRIES task
  pub unmade : (made : List ℕ) → new.turn.made ≡ old.turn.made ++ made
      → count_at (is_of_record task.index) (log_of new) made ≡ 0

-- all records are answered, or those before one for which the history is full
abbrev pub EndsSegment : Begin → View → View → List Record → List Answer → Bool → Type 0
EndsSegment begin old new tasks answers false = length answers ≡ length tasks
EndsSegment begin old new tasks answers true =
    (task : Record) × (slice_get tasks (length answers) ≡ Some task) × IsFullFor begin old new task
