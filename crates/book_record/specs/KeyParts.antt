-- The row of a key in a bank (profile): 96 octets.
use Rattle.std.specs.Prelude.{◌≡◌, ℕ, ◌^◌, ◌<◌, ◌⊎◌, List, ◌∷◌, ◌++◌, length}
use Rattle.std.specs.Int.{w16, w64, to_be_bytes}
use Rattle.sdls_base.specs.Bounds.{IsKeyLength}
use Rattle.sdls_base.specs.Code.{key_state_code}
use Rattle.book_record.specs.declared.data.TheConstants.{KEY_ROW_LENGTH, KEY_ROOM, DIGEST_LENGTH}
use Rattle.book_record.specs.declared.key_rows.KeyView.{KeyView}
use Rattle.key_book.specs.declared.key_row.KeyRow.{KeyRow}
use Rattle.book_record.specs.Padded.{padded}
use Rattle.book_record.specs.Record.{IsKey}

-- the row that a view shows
abbrev pub viewed : KeyView → KeyRow
viewed view = record {
  id = view.id;
  state = view.state;
  bytes = view.bytes.now;
  digest = view.digest.now;
  mark = view.mark;
  floor = view.floor;
}

-- identifier, state, length of the key, the key with zeros behind it, digest, mark, floor, zeros to the end
unfoldable pub key_row_octets : KeyRow → List ℕ
key_row_octets row = padded KEY_ROW_LENGTH
    (to_be_bytes w16 row.id ++ key_state_code row.state ∷ length row.bytes
    ∷ (padded KEY_ROOM row.bytes ++ row.digest ++ to_be_bytes w64 row.mark ++ to_be_bytes w64 row.floor))

-- a row has no octets of the key, or all 16 or 32
abbrev pub IsRowKeyLength : ℕ → Type 0
IsRowKeyLength n = (n ≡ 0) ⊎ IsKeyLength n

-- the fields are values of their types
pub record HasKeyTypes (row : KeyRow) : Type 0 where
  pub id : IsKey row.id
  pub digest : length row.digest ≡ DIGEST_LENGTH
  pub mark : row.mark < 2 ^ 64
  pub floor : row.floor < 2 ^ 64

-- the octets are those of this row
pub record AreKeyRowOctets (row : KeyRow) (octets : List ℕ) : Type 0 where
  pub types : HasKeyTypes row
  pub fits : IsRowKeyLength (length row.bytes)
  pub spelled : octets ≡ key_row_octets row
