-- Entries of any kind, where they stand, and what more of them makes (profile).
use Rattle.std.specs.Prelude.{◌≡◌, ⊤, ℕ, ◌+◌, ◌⊎◌, List, take, slice_get, Contains, Some, ◌++◌}
use Rattle.sdls_base.specs.declared.entry.Entry.{Entry}
use Rattle.sdls_base.specs.declared.entry.Logged.{Logged}
use Rattle.sdls_base.specs.declared.entry.Logged.TheVariants as logged
use Rattle.unit_plan.specs.PlanLines.{PlanLines}
use Rattle.key_book.specs.declared.key_row.KeyRow.{KeyRow}
use Rattle.unit_state.specs.declared.state.State.{State}
use Rattle.unit_state.specs.History.{after_all}
use Rattle.record_io.specs.declared.item_cursor.Record.{Record}
use Rattle.record_io.specs.Places.{Place, records_of}
use Rattle.run_promise.specs.Log.{entries_of}
use Rattle.run_promise.specs.History.{IsLegal, IsRelease}
use Rattle.run_promise.specs.Fits.{Course}

-- every word and number is near: where nothing is asked of what was seen
abbrev pub anywhere : ℕ → ℕ → Type 0
anywhere key number = ⊤

-- the words are near, each for the key at its place, counted from a place on
abbrev pub AreNear : (ℕ → ℕ → Type 0) → List KeyRow → ℕ → List ℕ → Type 0
AreNear near keys from words = (i word : ℕ) (held : KeyRow) → slice_get words i ≡ Some word
    → slice_get keys (from + i) ≡ Some held → near held.id word

-- an entry of any kind
abbrev pub IsEntry : (ℕ → ℕ → Type 0) → PlanLines → State → List Record → Entry → Type 0
IsEntry near plan state records entry = IsLegal near plan state records entry ⊎ IsRelease near state entry

-- the entry at this place of the log, if the line is one, is legal in the state before it
abbrev pub IsLegalAt : (ℕ → ℕ → Type 0) → PlanLines → State → List Record → List Logged → ℕ → Type 0
IsLegalAt near plan start records log place = (entry : Entry) → slice_get log place ≡ Some (logged.Entry entry)
    → IsLegal near plan (after_all start (entries_of (take place log))) records entry

-- more entries are known, and a later count of faults
abbrev pub grown : Course → List Entry → ℕ → Course
grown course more faults = record course { entries = course.entries ++ more; faults = faults }

-- the record is one of those of these places, and the only one with its number
pub record IsOneOf (places : List Place) (task : Record) : Type 0 where
  pub there : Contains (records_of places) task
  pub only : (other : Record) → Contains (records_of places) other → other.index ≡ task.index → other ≡ task
