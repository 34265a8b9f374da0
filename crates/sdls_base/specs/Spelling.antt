-- How keys and associations are spelled in messages and records (profile).
use Rattle.std.specs.Prelude.{ℕ, List, ◌∷◌, ◌++◌, length}
use Rattle.std.specs.Int.{w16, w64, to_be_bytes}
use Rattle.sdls_base.specs.declared.entry.NewSa.{NewSa}
use Rattle.sdls_base.specs.declared.key_id.KeyItem.{KeyItem}
use Rattle.sdls_base.specs.Code.{direction_code, suite_code}

-- a key to be loaded: its identifier, its length, its octets
abbrev pub item_octets : KeyItem → List ℕ
item_octets item = to_be_bytes w16 item.id ++ length item.bytes ∷ item.bytes

-- an association to be created, with the count of its channels before them
abbrev pub association_octets : NewSa → List ℕ
association_octets new = to_be_bytes w16 new.spi
    ++ direction_code new.direction ∷ suite_code new.suite
    ∷ (to_be_bytes w64 new.window ++ length new.channels ∷ new.channels)
