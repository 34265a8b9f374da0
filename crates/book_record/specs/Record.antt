-- The records in which changes are stored (profile): a kind, the length of the data, the data, zeros to the end.
use Rattle.std.specs.Prelude.{◌≡◌, ◌≢◌, ⊤, ℕ, ◌-◌, ◌+◌, ◌^◌, ◌<◌, List, [], ◌∷◌, ◌++◌, length, replicate}
use Rattle.std.specs.List.{flat_map, All}
use Rattle.std.specs.Int.{w16, w64, to_be_bytes}
use Rattle.sdls_base.specs.Bounds.{AreChannels, IsKeyLength, IsKeyCount}
use Rattle.sdls_base.specs.declared.entry.Change.{Change}
use Rattle.sdls_base.specs.declared.entry.Change.TheVariants.{Marks, Load, KeyStates, Create, Rekey, SaTo, SetNumber}
use Rattle.sdls_base.specs.declared.entry.Change.TheVariants.{SetWindow, Accepted, Nothing}
use Rattle.sdls_base.specs.declared.states.KeyState.TheVariants.{PreActive}
use Rattle.sdls_base.specs.declared.TheConstants.{BODY_LENGTH}
use Rattle.sdls_base.specs.Code.{key_state_code, new_state_code}
use Rattle.sdls_base.specs.Spelling.{item_octets, association_octets}

-- a body: its kind, the length of its data in two octets, its data, zeros to the end
abbrev pub body_of : ℕ → List ℕ → List ℕ
body_of kind data_octets =
    kind ∷ (to_be_bytes w16 (length data_octets) ++
    (data_octets ++ replicate (BODY_LENGTH - (3 + length data_octets)) 0))

-- the octets that tell the kind, and the data, of each change that is stored
unfoldable pub record_octets : Change → List ℕ
record_octets (Marks key mark floor) = body_of 1
    (to_be_bytes w16 key ++ (to_be_bytes w64 mark ++ to_be_bytes w64 floor))
record_octets (Load items) = body_of 2 (length items ∷ flat_map item_octets items)
record_octets (KeyStates ids to) = body_of 3 (key_state_code to ∷ length ids ∷ flat_map (to_be_bytes w16) ids)
record_octets (Create new) = body_of 4 (association_octets new)
record_octets (Rekey spi key number) = body_of 5
    (to_be_bytes w16 spi ++ (to_be_bytes w16 key ++ to_be_bytes w64 number))
record_octets (SaTo spi to) = body_of 6 (to_be_bytes w16 spi ++ new_state_code to ∷ [])
record_octets (SetNumber spi number) = body_of 7 (to_be_bytes w16 spi ++ to_be_bytes w64 number)
record_octets (SetWindow spi window) = body_of 8 (to_be_bytes w16 spi ++ to_be_bytes w64 window)
record_octets (Accepted spi key number floor) = []
record_octets Nothing = []

-- The change is one that has a record: its counts, lengths, states and channels lie in their bounds. The width of a
-- window is not bounded here.
unfoldable pub HasRecord : Change → Type 0
HasRecord (Marks key mark floor) = ⊤
HasRecord (Load items) = IsKeyCount (length items) × All (λ item. IsKeyLength (length item.bytes)) items
HasRecord (KeyStates ids to) = (to ≢ PreActive) × IsKeyCount (length ids)
HasRecord (Create new) = AreChannels new.channels
HasRecord (Rekey spi key number) = ⊤
HasRecord (SaTo spi to) = ⊤
HasRecord (SetNumber spi number) = ⊤
HasRecord (SetWindow spi window) = ⊤
HasRecord (Accepted spi key number floor) = ⊥
HasRecord Nothing = ⊥

-- a key's identifier
abbrev pub IsKey : ℕ → Type 0
IsKey n = (0 < n) × (n < 2 ^ 16)

-- a security parameter index that is not reserved
abbrev pub IsSpi : ℕ → Type 0
IsSpi n = (0 < n) × (n < 65535)

-- the values are values of their types: keys are not 0, indexes not reserved, numbers of their widths
unfoldable pub HasTypes : Change → Type 0
HasTypes (Marks key mark floor) = IsKey key × (mark < 2 ^ 64) × (floor < 2 ^ 64)
HasTypes (Load items) = All (λ item. IsKey item.id) items
HasTypes (KeyStates ids to) = All IsKey ids
HasTypes (Create new) = IsSpi new.spi × (new.window < 2 ^ 64)
HasTypes (Rekey spi key number) = IsSpi spi × IsKey key × (number < 2 ^ 64)
HasTypes (SaTo spi to) = IsSpi spi
HasTypes (SetNumber spi number) = IsSpi spi × (number < 2 ^ 64)
HasTypes (SetWindow spi window) = IsSpi spi × (window < 2 ^ 64)
HasTypes (Accepted spi key number floor) = ⊥
HasTypes Nothing = ⊥

-- the body is the record of the change
pub record IsRecord (change : Change) (body : List ℕ) : Type 0 where
  pub types : HasTypes change
  pub bounds : HasRecord change
  pub spelled : body ≡ record_octets change
