-- The releases at the end of a run, behind the entries of the lanes (profile).
use Rattle.std.specs.Prelude.{◌≡◌, ℕ, ◌≤◌, List, ◌++◌, length, slice_get, Some}
use Rattle.sdls_base.specs.declared.entry.Entry.{Entry}
use Rattle.key_book.specs.declared.key_row.KeyRow.{KeyRow}
use Rattle.key_book.specs.KeyBook.{place_of}
use Rattle.unit_state.specs.declared.state.State.{State}
use Rattle.unit_state.specs.State.{key_row}
use Rattle.unit_state.specs.History.{after_all, after_first}
use Rattle.run_promise.specs.Numbers.{release_of}

-- The entry releases a key in the state before it, by the word of the key's row, which it had at the end of the lanes.
pub record ReleasesKey (words : ℕ → ℕ) (at_end state : State) (entry : Entry) : Type 0 where
  pub held : KeyRow
  pub row : ℕ
  pub row_is : place_of at_end.keys held.id ≡ Some row
  pub there : key_row state held.id ≡ Some held
  pub releases : release_of state (words row) held ≡ Some entry

-- behind the entries of the lanes each entry is such a release
abbrev pub AreReleases : (ℕ → ℕ) → State → List Entry → List Entry → Type 0
AreReleases words start entries releases = (p : ℕ) (entry : Entry) → length entries ≤ p
    → slice_get (entries ++ releases) p ≡ Some entry
    → ReleasesKey words (after_all start entries) (after_first start (entries ++ releases) p) entry
