-- A key's row (profile; digests FIPS 180-4).
use Rattle.std.specs.Prelude.{◌≡◌, ℕ, ◌<◌, ◌≤◌, List, [], length}
use Rattle.sha2.specs.Sha256.{sha256}
use Rattle.sdls_base.specs.Bounds.{IsKeyLength}
use Rattle.sdls_base.specs.KeyId.{end_of}
use Rattle.sdls_base.specs.declared.key_id.KeyItem.{KeyItem}
use Rattle.sdls_base.specs.declared.states.KeyState.{KeyState}
use Rattle.sdls_base.specs.declared.states.KeyState.TheVariants.{PreActive, Active, Deactivated, Destroyed}
use Rattle.key_book.specs.declared.key_row.KeyRow.{KeyRow}

-- The octets of a key in a state: a destroyed key has none, and every other those of its digest.
abbrev pub HasBytes : KeyState → List ℕ → List ℕ → Type 0
HasBytes Destroyed bytes digest = bytes ≡ []
HasBytes PreActive bytes digest = IsKeyLength (length bytes) × (digest ≡ sha256 bytes)
HasBytes Active bytes digest = IsKeyLength (length bytes) × (digest ≡ sha256 bytes)
HasBytes Deactivated bytes digest = IsKeyLength (length bytes) × (digest ≡ sha256 bytes)

-- the rules of one row
pub record IsKeyRow (row : KeyRow) : Type 0 where
  pub bytes : HasBytes row.state row.bytes row.digest
  pub mark_from_one : 1 ≤ row.mark
  pub mark_to_end : row.mark ≤ end_of row.id
  pub floor_below_end : row.floor < end_of row.id

-- the row of a key just loaded: it has sent nothing and accepted nothing
abbrev pub new_row : KeyItem → KeyRow
new_row item = record {
  id = item.id;
  state = PreActive;
  bytes = item.bytes;
  digest = sha256 item.bytes;
  mark = 1;
  floor = 0;
}

-- what a state leaves of a key's octets
abbrev pub bytes_in : KeyState → List ℕ → List ℕ
bytes_in Destroyed bytes = []
bytes_in PreActive bytes = bytes
bytes_in Active bytes = bytes
bytes_in Deactivated bytes = bytes

-- a row that took a state
abbrev pub in_state : KeyRow → KeyState → KeyRow
in_state row to = record row { state = to; bytes = bytes_in to row.bytes }
