-- What stands before the octets of an item (profile).
use Rattle.std.specs.Prelude.{◌≡◌, ◌≢◌, ℕ, ◌<◌, ◌≤◌, List, ◌∷◌}
use Rattle.std.specs.Int.{w16, to_be_bytes}
use Rattle.record_io.specs.declared.reader.ItemHead.{ItemHead}
use Rattle.record_io.specs.Input.{Item, IsItem, item_header, kind_octet, lanes_of, least_octets, most_octets}

-- the six octets head an item of this kind
pub record IsHead (header : List ℕ) (head : ItemHead) : Type 0 where
  pub lane : head.lane < lanes_of head.kind
  pub long : least_octets head.kind ≤ head.len
  pub short : head.len ≤ most_octets head.kind
  pub spelled : header ≡ kind_octet head.kind ∷ head.lane ∷ head.link ∷ 0 ∷ to_be_bytes w16 head.len

-- the six octets head no item
abbrev pub IsNoHead : List ℕ → Type 0
IsNoHead header = (item : Item) → IsItem item → header ≢ item_header item
