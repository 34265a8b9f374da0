-- The rows of a book of security associations, ascending by index (CCSDS 355.0-B-2, Security Associations).
use Rattle.std.specs.Prelude.{◌≡◌, ℕ, ◌+◌, ◌<◌, ◌≤◌, Bool, true, false, not, ◌&&◌, ◌==◌, nat_lt, if◌then◌else◌, List}
use Rattle.std.specs.Prelude.{length, map, filter, insert, Option, Some, position, All, AllPairs, Contains}
use Rattle.std.specs.List.{find, list_any, filter_map, position_or_len}
use Rattle.std.specs.Option.{option_map}
use Rattle.sdls_base.specs.declared.TheConstants.{MOST_ASSOCIATIONS}
use Rattle.sdls_base.specs.declared.states.Direction.{Direction}
use Rattle.sdls_base.specs.declared.states.Direction.TheVariants.{Send, Receive}
use Rattle.sdls_base.specs.declared.states.SaState.{SaState}
use Rattle.sdls_base.specs.declared.states.SaState.TheVariants.{Unkeyed, Keyed, Operational}
use Rattle.sa_book.specs.declared.sa_book.SaRow.{SaRow}
use Rattle.sa_book.specs.SaRow.{IsSaRow}

-- The rules of a row and one that stands behind it: indexes ascend; of one direction at most one operational
-- association covers a channel; at most one receiving association holds a key.
pub record RowsAreApart (a b : SaRow) : Type 0 where
  pub order : a.spi < b.spi
  pub channels : a.state ≡ Operational → b.state ≡ Operational → a.direction ≡ b.direction
      → (channel : ℕ) → Contains a.channels channel → Contains b.channels channel → ⊥
  pub keys : a.direction ≡ Receive → b.direction ≡ Receive
      → (key : ℕ) → a.key ≡ Some key → b.key ≡ Some key → ⊥

-- the rules of a book
pub record IsSaBook (rows : List SaRow) : Type 0 where
  pub most : length rows ≤ MOST_ASSOCIATIONS
  pub each : All IsSaRow rows
  pub apart : AllPairs RowsAreApart rows

-- the row of an association
abbrev pub row_of : List SaRow → ℕ → Option SaRow
row_of rows spi = find (λ row. row.spi == spi) rows

-- its place
abbrev pub place_of : List SaRow → ℕ → Option ℕ
place_of rows spi = position (λ row. row.spi == spi) rows

-- the rows with that of one association changed; every other is as it was, and each in its place
abbrev pub changed : List SaRow → ℕ → (SaRow → SaRow) → List SaRow
changed rows spi f = map (λ row. if row.spi == spi then f row else row) rows

-- the rows without that of one association
abbrev pub without : List SaRow → ℕ → List SaRow
without rows spi = filter (λ row. not (row.spi == spi)) rows

-- the rows with a further one, before the first of higher index, or last where none is higher
abbrev pub with_row : List SaRow → SaRow → List SaRow
with_row rows row = insert rows (position_or_len (λ other. nat_lt row.spi other.spi) rows) row

-- a row may be put behind the others
pub record MayFollow (rows : List SaRow) (row : SaRow) : Type 0 where
  pub room : length rows + 1 ≤ MOST_ASSOCIATIONS
  pub rules : IsSaRow row
  pub apart : All (λ other. RowsAreApart other row) rows

abbrev pub is_operational : SaState → Bool
is_operational Operational = true
is_operational Keyed = false
is_operational Unkeyed = false

abbrev pub is_same_direction : Direction → Direction → Bool
is_same_direction Send Send = true
is_same_direction Receive Receive = true
is_same_direction _ _ = false

-- whether an association is operational in a direction and covers a channel
abbrev pub covers : Direction → ℕ → SaRow → Bool
covers direction channel row =
    is_operational row.state && is_same_direction row.direction direction && list_any (λ own. own == channel)
    row.channels

-- the operational sending association that covers a channel
abbrev pub sender_on : List SaRow → ℕ → Option SaRow
sender_on rows channel = find (covers Send channel) rows

-- the keys that associations hold, each with the association's index
abbrev pub in_use : List SaRow → List (ℕ × ℕ)
in_use rows = filter_map (λ row. option_map (λ key. (key, row.spi)) row.key) rows
