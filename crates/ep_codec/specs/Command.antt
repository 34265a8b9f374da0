-- The commands of the procedures, as messages (the procedures are those of CCSDS 355.1-B-1; tags and layouts are
-- profile).
use Rattle.std.specs.Prelude.{◌≡◌, ⊤, ℕ, ◌*◌, ◌^◌, ◌<◌, ◌≤◌, IsTrue, List, ◌∷◌, ◌++◌, length}
use Rattle.std.specs.List.{flat_map, AllByRecursion}
use Rattle.std.specs.Int.{w16, w64, to_be_bytes, is_in_range}
use Rattle.sdls_base.specs.Bounds.{AreChannels, IsKeyCount}
use Rattle.sdls_base.specs.Spelling.{association_octets}
use Rattle.replay_window.specs.WindowField.{IsWindowField}
use Rattle.ep_codec.specs.declared.command.Command.{Command}
use Rattle.ep_codec.specs.declared.command.Command.TheVariants.{Rekeying, Activate, Deactivate, Verify, Destroy}
use Rattle.ep_codec.specs.declared.command.Command.TheVariants.{Inventory, Compose, ReadNumber, Create, Delete}
use Rattle.ep_codec.specs.declared.command.Command.TheVariants.{SetWindow, Rekey, Expire, SetNumber, Start, Stop}
use Rattle.ep_codec.specs.declared.command.Command.TheVariants.{Status}
use Rattle.ep_codec.specs.Field.{is_key, is_spi}

-- a message: its tag, the length of its data in bits, and its data
abbrev pub message : ℕ → List ℕ → List ℕ
message tag body = tag ∷ to_be_bytes w16 (8 * length body) ++ body

-- a key, a vector, what is sealed with them, and its tag
abbrev pub sealed_data : ℕ → List ℕ → List ℕ → List ℕ → List ℕ
sealed_data key vector sealed tag = to_be_bytes w16 key ++ (vector ++ (sealed ++ tag))

-- keys, one after the other
abbrev pub keys_data : List ℕ → List ℕ
keys_data keys = flat_map (to_be_bytes w16) keys

-- the one spelling of each command
unfoldable pub command_octets : Command → List ℕ
command_octets (Rekeying master vector sealed tag) = message 0x01 (sealed_data master vector sealed tag)
command_octets (Activate keys) = message 0x02 (keys_data keys)
command_octets (Deactivate keys) = message 0x03 (keys_data keys)
command_octets (Verify key challenge) = message 0x04 (to_be_bytes w16 key ++ challenge)
command_octets (Destroy keys) = message 0x06 (keys_data keys)
command_octets (Inventory first last) = message 0x07 (to_be_bytes w16 first ++ to_be_bytes w16 last)
command_octets (Compose master keys) = message 0x08 (to_be_bytes w16 master ++ keys_data keys)
command_octets (ReadNumber spi) = message 0x10 (to_be_bytes w16 spi)
command_octets (Create sa) = message 0x11 (association_octets sa)
command_octets (Delete spi) = message 0x14 (to_be_bytes w16 spi)
command_octets (SetWindow spi window) = message 0x15 (to_be_bytes w16 spi ++ to_be_bytes w64 window)
command_octets (Rekey spi key number) = message 0x16
    (to_be_bytes w16 spi ++ (to_be_bytes w16 key ++ to_be_bytes w64 number))
command_octets (Expire spi) = message 0x19 (to_be_bytes w16 spi)
command_octets (SetNumber spi number) = message 0x1a (to_be_bytes w16 spi ++ to_be_bytes w64 number)
command_octets (Start spi) = message 0x1b (to_be_bytes w16 spi)
command_octets (Stop spi) = message 0x1e (to_be_bytes w16 spi)
command_octets (Status spi) = message 0x1f (to_be_bytes w16 spi)

-- from one sealed item of 19 octets to eight of 35 each, and every length between
abbrev pub IsSealedLength : List ℕ → Type 0
IsSealedLength sealed = IsTrue (is_in_range 19 280 (length sealed))

-- the values lie in the bounds of their fields, where their types leave that open
unfoldable pub IsInBounds : Command → Type 0
IsInBounds (Rekeying master vector sealed tag) = IsSealedLength sealed
IsInBounds (Activate keys) = IsKeyCount (length keys)
IsInBounds (Deactivate keys) = IsKeyCount (length keys)
IsInBounds (Verify key challenge) = ⊤
IsInBounds (Destroy keys) = IsKeyCount (length keys)
IsInBounds (Inventory first last) = first ≤ last
IsInBounds (Compose master keys) = IsKeyCount (length keys)
IsInBounds (ReadNumber spi) = ⊤
IsInBounds (Create sa) = IsWindowField sa.window × AreChannels sa.channels
    × AllByRecursion (λ channel. channel ≤ 63) sa.channels
IsInBounds (Delete spi) = ⊤
IsInBounds (SetWindow spi window) = IsWindowField window
IsInBounds (Rekey spi key number) = ⊤
IsInBounds (Expire spi) = ⊤
IsInBounds (SetNumber spi number) = ⊤
IsInBounds (Start spi) = ⊤
IsInBounds (Stop spi) = ⊤
IsInBounds (Status spi) = ⊤

-- each is a key's identifier
abbrev pub AreKeys : List ℕ → Type 0
AreKeys keys = AllByRecursion (λ key. IsTrue (is_key key)) keys

-- the values are values of their types: keys are not 0, indexes not reserved, numbers and arrays of their widths
unfoldable pub HasTypes : Command → Type 0
HasTypes (Rekeying master vector sealed tag) = IsTrue (is_key master) × (length vector ≡ 12) × (length tag ≡ 16)
HasTypes (Activate keys) = AreKeys keys
HasTypes (Deactivate keys) = AreKeys keys
HasTypes (Verify key challenge) = IsTrue (is_key key) × (length challenge ≡ 16)
HasTypes (Destroy keys) = AreKeys keys
HasTypes (Inventory first last) = (first < 2 ^ 16) × (last < 2 ^ 16)
HasTypes (Compose master keys) = IsTrue (is_key master) × AreKeys keys
HasTypes (ReadNumber spi) = IsTrue (is_spi spi)
HasTypes (Create sa) = IsTrue (is_spi sa.spi)
HasTypes (Delete spi) = IsTrue (is_spi spi)
HasTypes (SetWindow spi window) = IsTrue (is_spi spi)
HasTypes (Rekey spi key number) = IsTrue (is_spi spi) × IsTrue (is_key key) × (number < 2 ^ 64)
HasTypes (Expire spi) = IsTrue (is_spi spi)
HasTypes (SetNumber spi number) = IsTrue (is_spi spi) × (number < 2 ^ 64)
HasTypes (Start spi) = IsTrue (is_spi spi)
HasTypes (Stop spi) = IsTrue (is_spi spi)
HasTypes (Status spi) = IsTrue (is_spi spi)

-- the octets are the message of the command
pub record IsCommandPdu (command : Command) (octets : List ℕ) : Type 0 where
  pub types : HasTypes command
  pub bounds : IsInBounds command
  pub spelled : octets ≡ command_octets command
