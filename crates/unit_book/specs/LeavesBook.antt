-- What every call on a book leaves.
use Rattle.std.specs.Prelude.{◌≡◌, ⊤, ℕ, ◌≤◌, Bool, IsTrue, false, List, [], ◌++◌, length, Result, IfErr, MatchResult}
use Rattle.std.specs.Prelude.{OnOk}
use Rattle.sdls_base.specs.declared.entry.Entry.{Entry}
use Rattle.sdls_base.specs.declared.entry.Logged.{Logged}
use Rattle.sdls_outside.specs.Faults.{Rose}
use Rattle.unit_state.specs.Laws.{KeepsPlaces}
use Rattle.unit_book.specs.declared.fault.BookFault.{BookFault}
use Rattle.unit_book.specs.declared.fault.BookFault.TheVariants.{SiteFault, Stopped, SessionFull, NoMemory}
use Rattle.run_promise.specs.Log.{entries_of}
use Rattle.unit_image.specs.Storing.{Destroys}
use Rattle.unit_book.specs.Marks.{HasNoRelease, KeepsMarks, is_release}
use Rattle.unit_book.specs.Book.{BookView, Enters, IsKept, IsUnstored, LeavesStateAlone}

-- The opening stands: what was read, its plan and state, and the site as it was then. The log goes on by the lines
-- that the call added. Neither the count of faults nor that of changes falls; once the first had risen, no entry
-- is added, and none stands that did not. Keys keep their places, and their marks do not fall but by a release.
pub record LeavesBook (old new : BookView) : Type 0 where
  pub opened : new.opened ≡ old.opened
  pub image : new.image ≡ old.image
  pub plan : new.plan ≡ old.plan
  pub start : new.start ≡ old.start
  pub added : List Logged
  pub log : new.log ≡ old.log ++ added
  pub later : old.site.faults ≤ new.site.faults
  pub standing : old.standing ≤ new.standing
  pub changes : old.changes ≤ new.changes
  pub stopped : Rose old.opened.faults old.site.faults → entries_of added ≡ []
  pub stood : Rose old.opened.faults old.site.faults → new.standing ≡ old.standing
  pub places : KeepsPlaces old.state new.state
  pub marks : HasNoRelease (entries_of added) → KeepsMarks old.state new.state

-- No fault came in the call, where all entries stand: the count of faults had risen before if it has now.
abbrev pub IsCalm : BookView → BookView → Type 0
IsCalm old new = Rose new.opened.faults new.site.faults → length (entries_of new.log) ≤ new.standing
    → Rose old.opened.faults old.site.faults

-- the count that a refusal has is that of the site, and had risen since the opening
abbrev pub TellsRise : BookView → BookFault → Type 0
TellsRise book (SiteFault count) = Rose book.opened.faults book.site.faults × (count ≡ book.site.faults)
TellsRise book (Stopped count) = Rose book.opened.faults book.site.faults × (count ≡ book.site.faults)
TellsRise book SessionFull = ⊤
TellsRise book NoMemory = ⊤

-- What a call leaves that makes an entry, and its change with it.
pub record MakesEntry (told : Bool) (entry : Entry) (result : Result ℕ BookFault) (old new : BookView) : Type 0 where
  pub kept : IsKept told new
  pub made : MatchResult result (Enters entry old new) (IsUnstored entry old new)
  -- once a change has taken away the octets of keys, no image that a crash may leave holds them
  pub gone : IsTrue told → OnOk result (Destroys entry.change → LeavesStateAlone new)
  pub goes_on : LeavesBook old new
  pub marks : is_release entry ≡ false → KeepsMarks old.state new.state
  pub risen : IfErr result (TellsRise new)
  pub calm : IsCalm old new
  -- nothing is put
  pub sunk : IsTrue told → new.site.trace.now.sunk ≡ old.site.trace.now.sunk
  pub puts : new.site.put_faults ≡ old.site.put_faults
  pub later : old.site.faults ≤ new.site.faults
