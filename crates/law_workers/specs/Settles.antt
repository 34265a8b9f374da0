-- What a worker knows of the book at the first put behind a segment (profile).
use Rattle.std.specs.Prelude.{◌≡◌, ℕ, ◌<◌, ◌≤◌, length, take}
use Rattle.sdls_base.specs.Numbers.{tally}
use Rattle.counter_table.specs.declared.view.View.{View}
use Rattle.sdls_outside.specs.Faults.{Rose}
use Rattle.counter_table.specs.Turn.{epoch_seen}
use Rattle.unit_state.specs.History.{after_first, epoch_after}
use Rattle.run_promise.specs.Log.{entries_of}
use Rattle.run_promise.specs.Numbers.{mark_of}
use Rattle.run_promise.specs.Call.{Begin}
use Rattle.law_workers.specs.Views.{log_of, entries_in, IsRow}

-- What the first put behind a segment shows of the book that it found: so many lines and entries stood there, so many
-- of the entries were stored, whose epoch is not below the one that the worker had seen, and whose marks are above each
-- number that the worker has spent on a row of the table. No fewer stood than the worker knew of, and no more once the
-- site had failed.
pub record SettlesAt (begin : Begin) (old new : View) (stored entries lines : ℕ) : Type 0 where
  pub within : lines ≤ length (log_of new)
  pub low : entries ≤ length (entries_of (take lines (log_of new)))
  pub is_stored : entries ≤ stored
  pub epoch : epoch_seen old.turn ≤ epoch_after (take entries (entries_in new))
  pub marks : (key row number : ℕ) → row < begin.rows → IsRow begin new key row → 0 < tally row number old.numbers.spent
      → number < mark_of (after_first begin.start (entries_in new) entries) key
  pub standing : old.turn.known.standing ≤ entries
  pub stopped : Rose old.turn.known.opening.faults old.turn.known.faults → entries ≡ old.turn.known.standing
  -- where the site did not fail, all entries stood
  pub stood : ¬ Rose new.turn.known.opening.faults new.turn.known.faults → entries ≡ length (entries_in new)
