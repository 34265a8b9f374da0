-- What an image holds, for all that lies above (profile): the definitions of its journal, passed on.
use Rattle.std.specs.Prelude.{◌≡◌, ℕ, List, length}
use Rattle.sdls_base.specs.declared.version.Version.{Version}
use Rattle.sdls_base.specs.declared.version.Version.TheVariants.{One, Two}
use Rattle.sdls_base.specs.declared.version.TheConstants.{CONTENT_LENGTH_TWO}
use Rattle.disk_journal.specs.Banks.{version_of}
pub use Rattle.disk_journal.specs.Image.{Held, held, grown, turned, migrated, version_in, IsAtRest, IsClosedGate}
pub use Rattle.disk_journal.specs.Image.{IsOpenedForm}
unfoldable pub use Rattle.disk_journal.specs.Image.{records}
pub use Rattle.disk_journal.specs.Forms.{Becomes, HasOneClosed, Holds, Settles, StaysWithin}
pub use Rattle.disk_journal.specs.Journal.{IsJournalOf, IsSettled, IsSettledImage, JournalView}
pub use Rattle.disk_journal.specs.Moments.{EachImage, OnlySyncs}
pub use Rattle.disk_journal.specs.Initial.{created_image}
pub use Rattle.disk_journal.specs.Changes.{KeepsBeside}

-- how many slots of the current bank hold records
abbrev pub used_of : List ℕ → ℕ
used_of image = length (records image)

-- the same once the image is opened: a migration from version 1 leaves none
abbrev pub used_by : Version → List ℕ → ℕ
used_by One image = 0
used_by Two image = used_of image

abbrev pub used_next : List ℕ → ℕ
used_next image = used_by (version_in image) image

-- the journal is that of an image of version 2, whose contents have so many octets
pub record IsOfTwo (journal : JournalView) : Type 0 where
  pub version : version_of journal.layout.form ≡ Two
  pub sized : journal.layout.content_length ≡ CONTENT_LENGTH_TWO
