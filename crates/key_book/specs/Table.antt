-- The rows of a book with their indexes.
use Rattle.std.specs.Prelude.{◌≡◌, ◌≢◌, ℕ, ◌+◌, ◌<◌, ◌≤◌, ◌==◌, List, [], ◌∷◌, length, slice_index, slice_index_or}
use Rattle.std.specs.Prelude.{position, AllPairs, vec_capacity, vec_len}
use Rattle.std.specs.Int.{from_be_bytes, w32}
use Rattle.key_book.specs.declared.table.Entry.{Entry}
use Rattle.key_book.specs.declared.key_row.KeyRow.{KeyRow}
use Rattle.key_book.specs.declared.table.Table.{Table}
use Rattle.key_book.specs.Index.{place_in, IsAscending}

-- the first four octets of a digest, as a number
abbrev pub front : List ℕ → ℕ
front digest = from_be_bytes w32
    (slice_index digest 0 ∷ slice_index digest 1 ∷ slice_index digest 2 ∷ slice_index digest 3 ∷ [])

-- an index has the first place of each number of the rows
pub record IsIndex (number : KeyRow → ℕ) (rows : List KeyRow) (entries : List Entry) : Type 0 where
  pub ascending : IsAscending entries
  pub places : (n : ℕ) → place_in entries n ≡ position (λ row. number row == n) rows

-- the number of each row, with the row's place
pub record AreNumbersOf (number : KeyRow → ℕ) (rows : List KeyRow) (entries : List Entry) : Type 0 where
  pub as_many : length entries ≡ length rows
  pub each : (k : ℕ) (row : KeyRow) (entry : Entry) → k < length rows
      → slice_index_or entries k entry ≡ record { number = number (slice_index_or rows k row); place = k }

-- an index of rows of which no two have one number
pub record IsIndexApart (number : KeyRow → ℕ) (rows : List KeyRow) (entries : List Entry) : Type 0 where
  pub index : IsIndex number rows entries
  pub apart : AllPairs (λ a b. number a ≢ number b) rows

-- the indexes are those of the rows: by the identifier, and by the front of the digest
pub record IsIndexed (table : Table) : Type 0 where
  pub ids : IsIndex (λ row. row.id) table.rows.items table.by_id.entries.items
  pub fronts : IsIndex (λ row. front row.digest) table.rows.items table.by_front.entries.items

-- there is room for so many rows more
pub record HasRoom (more : ℕ) (table : Table) : Type 0 where
  pub rows : vec_len table.rows + more ≤ vec_capacity table.rows
  pub ids : vec_len table.by_id.entries + more ≤ vec_capacity table.by_id.entries
  pub fronts : vec_len table.by_front.entries + more ≤ vec_capacity table.by_front.entries
