-- The content of a bank (profile): the counts of rows, and the rows of keys and associations.
use Rattle.std.specs.Prelude.{ℕ, ◌+◌, ◌*◌, List, [], ◌∷◌, ◌++◌, length, take, drop}
use Rattle.std.specs.List.{flat_map}
use Rattle.std.specs.Int.{w16, to_be_bytes}
use Rattle.sdls_base.specs.Version.{most_keys_of, most_associations_of}
use Rattle.sdls_base.specs.declared.version.Version.{Version}
use Rattle.sdls_base.specs.declared.version.Version.TheVariants.{One, Two}
use Rattle.book_record.specs.declared.data.TheConstants.{KEY_ROW_LENGTH, SA_ROW_LENGTH}
use Rattle.book_record.specs.Padded.{padded}
use Rattle.book_record.specs.KeyParts.{key_row_octets}
use Rattle.book_record.specs.SaParts.{sa_parts, sa_row_octets}
use Rattle.key_book.specs.declared.key_row.KeyRow.{KeyRow}
use Rattle.sa_book.specs.declared.sa_book.SaRow.{SaRow}
use Rattle.unit_state.specs.declared.state.State.{State}
use Rattle.unit_image.specs.declared.content.TheConstants.{KEYS_AT}

-- the rows of keys in the order of loading, those of associations ascending by index
abbrev pub key_rows : List KeyRow → List ℕ
key_rows keys = flat_map key_row_octets keys

abbrev pub sa_rows : List SaRow → List ℕ
sa_rows associations = flat_map (λ row. sa_row_octets (sa_parts row)) associations

-- how many rows there are: of keys in two octets, of associations in one or in two
abbrev pub counts_of : Version → ℕ → ℕ → List ℕ
counts_of One keys associations = to_be_bytes w16 keys ++ associations ∷ []
counts_of Two keys associations = to_be_bytes w16 keys ++ to_be_bytes w16 associations

-- the octets of all rows that there is room for
abbrev pub key_room_of : Version → ℕ
key_room_of version = KEY_ROW_LENGTH * most_keys_of version

abbrev pub sa_room_of : Version → ℕ
sa_room_of version = SA_ROW_LENGTH * most_associations_of version

-- where the rows of associations begin; those of keys begin at one place in both versions
abbrev pub associations_at : Version → ℕ
associations_at version = KEYS_AT + key_room_of version

-- what a bank holds of the state, behind its gate and its generation: the counts, the rows of keys, the rows of
-- associations, each with zeros behind it up to the next
unfoldable pub content_of : Version → State → List ℕ
content_of version state =
    padded KEYS_AT (counts_of version (length state.keys) (length state.associations))
    ++ padded (key_room_of version) (key_rows state.keys)
    ++ padded (sa_room_of version) (sa_rows state.associations)

-- octets with others in their place from a place on
abbrev pub replaced : ℕ → List ℕ → List ℕ → List ℕ
replaced at new octets = take at octets ++ new ++ drop (at + length new) octets
