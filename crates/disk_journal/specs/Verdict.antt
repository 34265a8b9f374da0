-- What the checks of an image come to (profile).
use Rattle.std.specs.Prelude.{◌≡◌, ℕ, List, Some}
use Rattle.disk_journal.specs.declared.opening_image.Verdict.{Verdict}
use Rattle.disk_journal.specs.declared.opening_image.Verdict.TheVariants.{Opens, Fails}
use Rattle.disk_journal.specs.Fault.{image_fault}
use Rattle.disk_journal.specs.Journal.{IsJournalOf}

-- the journal of an image that opens, or the offset that the image is refused with
abbrev pub IsVerdict : List ℕ → Verdict → Type 0
IsVerdict image (Opens journal) = IsJournalOf image journal
IsVerdict image (Fails offset) = image_fault image ≡ Some offset
