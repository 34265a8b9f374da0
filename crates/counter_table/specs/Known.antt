-- Profile: what a book shows, and how a later book follows an earlier one.
use Rattle.std.specs.Prelude.{◌≡◌, ℕ, ◌+◌, ◌≤◌, max, nat_lt, Bool, true, false, List, [], ◌∷◌, ◌++◌, length}
use Rattle.std.specs.Prelude.{slice_index_or, if◌then◌else◌}
use Rattle.sdls_base.specs.declared.entry.Logged.{Logged}
use Rattle.sdls_base.specs.declared.entry.Logged.TheVariants.{Entry, Piece}
use Rattle.sdls_outside.specs.Faults.{Rose}
use Rattle.unit_plan.specs.PlanLines.{no_lines}
use Rattle.unit_state.specs.Initial.{bare}
use Rattle.counter_table.specs.declared.view.Opening.{Opening}
use Rattle.counter_table.specs.Trail.{no_trace}
use Rattle.counter_table.specs.declared.view.Known.{Known}

-- a row that the book lacks has mark 1
abbrev pub known_mark : Known → ℕ → ℕ
known_mark book row = slice_index_or book.marks row 1

abbrev pub is_entry : Logged → Bool
is_entry (Entry e) = true
is_entry (Piece p) = false

-- how many lines of the log are entries
abbrev pub entries : List Logged → ℕ
entries [] = 0
entries (line ∷ log) = (if is_entry line then 1 else 0) + entries log

-- how many lines of the log are pieces
abbrev pub pieces : List Logged → ℕ
pieces [] = 0
pieces (line ∷ log) = (if is_entry line then 0 else 1) + pieces log

-- the one is the other at an earlier time. Once the count of faults had risen since the opening, no entry was added,
-- and
-- none stands that did not
pub record Earlier (one other : Known) : Type 0 where
  pub log : (rest : List Logged) × (other.log ≡ one.log ++ rest)
  pub changes : one.changes ≤ other.changes
  pub faults : one.faults ≤ other.faults
  pub standing : one.standing ≤ other.standing
  pub put_faults : one.put_faults ≤ other.put_faults
  pub stopped : Rose other.opening.faults one.faults → entries other.log ≡ entries one.log
  pub stood : Rose other.opening.faults one.faults → other.standing ≡ one.standing

-- from the one to the other no fault came, where no put failed and all entries stand
abbrev pub RiseHasCause : Known → Known → Type 0
RiseHasCause one other = Rose other.opening.faults other.faults → other.put_faults ≤ one.put_faults
    → entries other.log ≤ other.standing → Rose other.opening.faults one.faults

-- from the one to the other no more puts failed than pieces were put, and only so, or by an entry that was left out,
-- did
-- a fault come
abbrev pub IsSparing : Known → Known → Type 0
IsSparing one other = (other.put_faults + pieces one.log ≤ one.put_faults + pieces other.log) × RiseHasCause one other

-- no mark fell
abbrev pub LowersNoMark : Known → Known → Type 0
LowersNoMark one other = (row : ℕ) → known_mark one row ≤ known_mark other row

-- a held book may be given back by a worker that knew this of it last
pub record MayGive (known held : Known) : Type 0 where
  pub marks : LowersNoMark known held
  pub earlier : Earlier known held
  pub sparing : IsSparing known held
  pub opening : held.opening ≡ known.opening
  pub changes : held.changes ≡ known.changes

-- a first book may be filled in
pub record MayFill (book : Known) : Type 0 where
  pub marks : (row : ℕ) → 1 ≤ known_mark book row
  pub changes : book.changes ≡ 0

-- before a book was filled
abbrev pub unopened : Opening
unopened = record { image = []; plan = no_lines; start = bare no_lines; trail = no_trace; faults = 0 }

abbrev pub unknown : Known
unknown = record { marks = []; log = []; changes = 0; faults = 0; standing = 0; put_faults = 0; opening = unopened }

abbrev pub longer : List Logged → List Logged → List Logged
longer one other = if nat_lt (length one) (length other) then other else one

-- what two workers know together
abbrev pub later : Opening → Known → Known → Known
later opening one other =
    record {
      marks = one.marks;
      log = longer one.log other.log;
      changes = max one.changes other.changes;
      faults = max one.faults other.faults;
      standing = max one.standing other.standing;
      put_faults = max one.put_faults other.put_faults;
      opening = opening;
    }
