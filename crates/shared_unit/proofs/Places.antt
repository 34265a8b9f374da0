-- Where a key stands, and its mark by place.
use Rattle.std.proofs.Common.{◌≡◌, ℕ, List, [], Option, Some, None, is_some, IsSome, refl, ap}
use Rattle.sdls_base.proofs.Searches.{find_placed}
use Rattle.sdls_base.specs.declared.states.KeyState.TheVariants.{PreActive}
use Rattle.key_book.specs.declared.key_row.KeyRow.{KeyRow}
use Rattle.key_book.specs.KeyBook.{place_of, row_of}
use Rattle.key_book.proofs.Rows.{placed_if_there}

pub some_row : KeyRow
some_row = record { id = 0; state = PreActive; bytes = []; digest = []; mark = 1; floor = 0 }

pub place_there : (rows : List KeyRow) (id row : ℕ) → place_of rows id ≡ Some row → IsSome (row_of rows id)
place_there rows id row place = ap is_some (find_placed _ rows row some_row place)

some_is : (o : Option ℕ) → IsSome o → (n : ℕ) × (o ≡ Some n)
some_is (Some n) h = (n, refl)
some_is None h = absurd (cc)

pub there_place : (rows : List KeyRow) (id : ℕ) → IsSome (row_of rows id) → (row : ℕ) × (place_of rows id ≡ Some row)
there_place rows id h = some_is (place_of rows id) (placed_if_there rows id h)
