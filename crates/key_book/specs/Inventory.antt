-- The inventory of keys (CCSDS 355.1-B-1, key inventory; bounds profile).
use Rattle.std.specs.Prelude.{◌≡◌, ℕ, ◌&&◌, nat_le, List, length, map, filter, take, IsPermutation}
use Rattle.std.specs.List.Sorted.{IsNonDecreasingBy}
use Rattle.sdls_base.specs.declared.states.KeyState.{KeyState}
use Rattle.key_book.specs.declared.key_book.Inventory.{Inventory}
use Rattle.key_book.specs.declared.key_book.TheConstants.{MOST_LISTED}
use Rattle.key_book.specs.declared.key_row.KeyRow.{KeyRow}

-- the keys from one identifier to another, with their states
abbrev pub listed : List KeyRow → ℕ → ℕ → List (ℕ × KeyState)
listed rows first last = map (λ row. (row.id, row.state))
    (filter (λ row. nat_le first row.id && nat_le row.id last) rows)

-- how many there are, and the first of them in ascending order
pub record IsInventory (rows : List KeyRow) (first last : ℕ) (inventory : Inventory) : Type 0 where
  pub total : inventory.total ≡ length (listed rows first last)
  pub sorted : List (ℕ × KeyState)
  pub permutation : IsPermutation (listed rows first last) sorted
  pub ascending : IsNonDecreasingBy (λ row. row.0) sorted
  pub front : inventory.rows ≡ take MOST_LISTED sorted
