-- Which refusal comes first (order profile).
use Rattle.std.specs.Prelude.{◌≡◌, ℕ, ◌+◌, ◌⊎◌, nat_lt, List, [], ◌∷◌, ◌++◌, length, Option, Some, None, is_some}
use Rattle.std.specs.Prelude.{position}
use Rattle.std.specs.List.{find}
use Rattle.std.specs.Option.{option_or, option_map}
use Rattle.std.specs.Str.{bytes_eq}
use Rattle.sha2.specs.Sha256.{sha256}
use Rattle.sdls_base.specs.FirstFailing.{fails_if}
use Rattle.sdls_base.specs.declared.TheConstants.{MOST_KEYS}
use Rattle.sdls_base.specs.declared.key_id.KeyItem.{KeyItem}
use Rattle.key_book.specs.declared.key_row.KeyRow.{KeyRow}
use Rattle.key_book.specs.declared.refusals.KeyRefusal.{KeyRefusal}
use Rattle.key_book.specs.declared.refusals.KeyRefusal.TheVariants.{AlreadyLoaded, DuplicateKey, BookFull, NoMemory}
use Rattle.key_book.specs.KeyRow.{new_row}
use Rattle.key_book.specs.KeyBook.{row_of}

-- a refusal is that memory ran out, or the first that applies
abbrev pub IsKeyRefusal : KeyRefusal → Option KeyRefusal → Type 0
IsKeyRefusal refusal first = (refusal ≡ NoMemory) ⊎ (first ≡ Some refusal)

-- the row with a digest
abbrev pub row_with : List KeyRow → List ℕ → Option KeyRow
row_with rows digest = find (λ row. bytes_eq row.digest digest) rows

-- its place
abbrev pub place_with : List KeyRow → List ℕ → Option ℕ
place_with rows digest = position (λ row. bytes_eq row.digest digest) rows

-- a key to be loaded: its identifier is taken, or another key has its digest
abbrev pub key_refusal : List KeyRow → ℕ → List ℕ → Option KeyRefusal
key_refusal rows id digest =
    option_or (fails_if (is_some (row_of rows id)) (AlreadyLoaded id))
    (option_map (λ row. DuplicateKey row.id) (row_with rows digest))

-- keys to be loaded, each judged on the rows that the earlier ones leave
abbrev pub items_refusal : List KeyRow → List KeyItem → Option KeyRefusal
items_refusal rows [] = None
items_refusal rows (item ∷ items) =
    option_or (key_refusal rows item.id (sha256 item.bytes)) (items_refusal (rows ++ new_row item ∷ []) items)

-- the keys, and then the room
abbrev pub load_refusal : List KeyRow → List KeyItem → Option KeyRefusal
load_refusal rows items =
    option_or (items_refusal rows items) (fails_if (nat_lt MOST_KEYS (length rows + length items)) BookFull)
