-- What is read of a content (profile).
use Rattle.std.specs.Prelude.{◌≡◌, ℕ, ◌+◌, ◌-◌, ◌*◌, ◌≤◌, List, length, take, drop, replicate, All}
use Rattle.sdls_base.specs.Version.{most_keys_of, most_associations_of, content_length_of}
use Rattle.sdls_base.specs.declared.version.Version.{Version}
use Rattle.sdls_base.specs.declared.version.Version.TheVariants.{One, Two}
use Rattle.book_record.specs.declared.data.TheConstants.{KEY_ROW_LENGTH, SA_ROW_LENGTH}
use Rattle.sdls_base.specs.Places.{octet_at, word_at}
use Rattle.book_record.specs.KeyParts.{key_row_octets, AreKeyRowOctets}
use Rattle.book_record.specs.SaParts.{sa_parts, sa_row_octets, BeginsAt, AreSaRowOctets}
use Rattle.key_book.specs.declared.key_row.KeyRow.{KeyRow}
use Rattle.sa_book.specs.declared.sa_book.SaRow.{SaRow}
use Rattle.unit_state.specs.declared.state.State.{State}
use Rattle.unit_state.specs.State.{KeepsRules}
use Rattle.unit_state.specs.Restart.{restarted_high, restarted}
use Rattle.unit_image.specs.declared.content.TheConstants.{KEYS_AT}
use Rattle.unit_image.specs.Content.{key_rows, sa_rows, associations_at, content_of}

-- a row is a value of its types, so that its octets are those of a row
abbrev pub IsTypedKey : KeyRow → Type 0
IsTypedKey row = AreKeyRowOctets row (key_row_octets row)

abbrev pub IsTypedSa : SaRow → Type 0
IsTypedSa row = AreSaRowOctets (sa_parts row) (sa_row_octets (sa_parts row))

-- the row of an association as a restart leaves it, under these keys
pub record IsRestartedRow (keys : List KeyRow) (row : SaRow) (octets : List ℕ) : Type 0 where
  pub is_row : AreSaRowOctets (sa_parts row) octets
  pub window : BeginsAt (restarted_high keys row.direction row.key 0) row

-- rows of keys, one behind the other
pub record AreKeyRows (rows : List KeyRow) (octets : List ℕ) : Type 0 where
  pub each : All IsTypedKey rows
  pub spelled : octets ≡ key_rows rows

-- rows of associations, one behind the other, as a restart leaves them
pub record AreSaRows (keys : List KeyRow) (rows : List SaRow) (octets : List ℕ) : Type 0 where
  pub each : All (λ row. IsRestartedRow keys row (sa_row_octets (sa_parts row))) rows
  pub spelled : octets ≡ sa_rows rows

-- the octets from one place to another are zero
abbrev pub AreZero : ℕ → ℕ → List ℕ → Type 0
AreZero from to content = take (to - from) (drop from content) ≡ replicate (to - from) 0

-- the counts of a content, and where they end
abbrev pub key_count : List ℕ → ℕ
key_count content = word_at 0 content

abbrev pub sa_count : Version → List ℕ → ℕ
sa_count One content = octet_at 2 content
sa_count Two content = word_at 2 content

abbrev pub counts_end_of : Version → ℕ
counts_end_of One = 3
counts_end_of Two = 4

-- the counts are in their bounds, and what no row uses is zero
pub record HasRoom (version : Version) (content : List ℕ) : Type 0 where
  pub keys : key_count content ≤ most_keys_of version
  pub associations : sa_count version content ≤ most_associations_of version
  pub gap : AreZero (counts_end_of version) KEYS_AT content
  pub behind_keys : AreZero (KEYS_AT + KEY_ROW_LENGTH * key_count content) (associations_at version) content
  pub behind_associations :
      AreZero (associations_at version + SA_ROW_LENGTH * sa_count version content) (content_length_of version) content

-- the octets of the rows of keys, and of those of associations
abbrev pub keys_in : List ℕ → List ℕ
keys_in content = take (KEY_ROW_LENGTH * key_count content) (drop KEYS_AT content)

abbrev pub associations_in : Version → List ℕ → List ℕ
associations_in version content =
    take (SA_ROW_LENGTH * sa_count version content) (drop (associations_at version) content)

-- a content of the version has room for the rows of the state
pub record FitsVersion (version : Version) (state : State) : Type 0 where
  pub keys : length state.keys ≤ most_keys_of version
  pub associations : length state.associations ≤ most_associations_of version

-- The rows of a state are values of their types, and fit the version.
pub record HasRows (version : Version) (state : State) : Type 0 where
  pub keys : All IsTypedKey state.keys
  pub associations : All IsTypedSa state.associations
  pub fits : FitsVersion version state

-- The content is that of the state, whose rows fit the version. The state keeps its rules, and a restart leaves it as
-- it is.
pub record IsContent (version : Version) (state : State) (content : List ℕ) : Type 0 where
  pub rules : KeepsRules state
  pub rows : HasRows version state
  pub left : restarted state ≡ state
  pub spelled : content ≡ content_of version state
