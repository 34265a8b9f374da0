-- How a book goes on while a worker holds it (profile).
use Rattle.std.specs.Prelude.{◌+◌, ◌≤◌}
use Rattle.counter_table.specs.Known.{pieces}
use Rattle.unit_book.specs.Marks.{KeepsMarks}
use Rattle.unit_book.specs.LeavesBook.{LeavesBook, IsCalm}
use Rattle.unit_book.specs.Book.{BookView}

-- The book goes on, and no mark fell. No more puts failed than pieces were put, and no fault came where none did and
-- all
-- entries stand.
pub record GoesUp (old new : BookView) : Type 0 where
  pub goes : LeavesBook old new
  pub marks : KeepsMarks old.state new.state
  pub puts_later : old.site.put_faults ≤ new.site.put_faults
  pub sparing : new.site.put_faults + pieces old.log ≤ old.site.put_faults + pieces new.log
  pub calm : new.site.put_faults ≤ old.site.put_faults → IsCalm old new
