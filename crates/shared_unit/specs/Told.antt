-- What a book shows the counters, and what can be read of it (profile).
use Rattle.std.specs.Prelude.{ℕ, length}
use Rattle.unit_state.specs.declared.state.State.{State}
use Rattle.unit_state.specs.History.{at_epoch}
use Rattle.counter_table.specs.declared.view.Known.{Known}
use Rattle.unit_book.specs.Book.{BookView}
use Rattle.run_promise.specs.Numbers.{marks_of}
use Rattle.run_promise.specs.Log.{entries_of}

abbrev pub known_of_book : BookView → Known
known_of_book book = record {
  marks = marks_of book.state;
  log = book.log;
  changes = book.changes;
  faults = book.site.faults;
  standing = book.standing;
  put_faults = book.site.put_faults;
  opening = record {
    image = book.image;
    plan = book.plan;
    start = book.start;
    trail = book.opened.trace;
    faults =
        book.opened.faults;
  };
}

-- the state that an epoch began with, by the log that is known
abbrev pub state_at : Known → ℕ → State
state_at known epoch = at_epoch known.opening.start (entries_of known.log) epoch

-- how many entries are known
abbrev pub entry_count : Known → ℕ
entry_count known = length (entries_of known.log)
