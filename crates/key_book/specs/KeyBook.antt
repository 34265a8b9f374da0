-- The rows of a book of keys, in the order of loading (profile).
use Rattle.std.specs.Prelude.{◌≢◌, ℕ, ◌+◌, ◌≤◌, ◌==◌, if◌then◌else◌, List, length, map, Option, position, All, AllPairs}
use Rattle.std.specs.List.{find}
use Rattle.sdls_base.specs.declared.TheConstants.{MOST_KEYS}
use Rattle.key_book.specs.declared.key_row.KeyRow.{KeyRow}
use Rattle.key_book.specs.KeyRow.{IsKeyRow}

-- The rules of the rows: those of each, and that no two have one identifier or one digest.
pub record AreKeyRows (rows : List KeyRow) : Type 0 where
  pub each : All IsKeyRow rows
  pub identifiers : AllPairs (λ a b. a.id ≢ b.id) rows
  pub digests : AllPairs (λ a b. a.digest ≢ b.digest) rows

-- the rules of a book
pub record IsKeyBook (rows : List KeyRow) : Type 0 where
  pub most : length rows ≤ MOST_KEYS
  pub rules : AreKeyRows rows

-- the row of a key
abbrev pub row_of : List KeyRow → ℕ → Option KeyRow
row_of rows id = find (λ row. row.id == id) rows

-- its place
abbrev pub place_of : List KeyRow → ℕ → Option ℕ
place_of rows id = position (λ row. row.id == id) rows

-- the rows with that of one key changed; every other is as it was, and each in its place
abbrev pub changed : List KeyRow → ℕ → (KeyRow → KeyRow) → List KeyRow
changed rows id f = map (λ row. if row.id == id then f row else row) rows

-- a row may be put behind the others
pub record MayFollow (rows : List KeyRow) (row : KeyRow) : Type 0 where
  pub room : length rows + 1 ≤ MOST_KEYS
  pub rules : IsKeyRow row
  pub identifier : All (λ other. other.id ≢ row.id) rows
  pub digest : All (λ other. other.digest ≢ row.digest) rows
