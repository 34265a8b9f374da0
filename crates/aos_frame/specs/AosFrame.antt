-- AOS Transfer Frame (CCSDS 732.0-B-4).
use Rattle.std.specs.Prelude.{◌≡◌, ℕ, ◌+◌, ◌^◌, ◌<◌, ◌≤◌, Bool, List, [], ◌∷◌, ◌++◌, length, Option, option_copied}
use Rattle.std.specs.Prelude.{unwrap_or}
use Rattle.sdls_base.specs.declared.layout.AosLayout.{AosLayout}
use Rattle.sdls_base.specs.ControlField.{IsControlField}
use Rattle.sdls_base.specs.Fields.{Field, bit, packed}
use Rattle.sdls_base.specs.ErrorControl.{with_error_control}
use Rattle.aos_frame.specs.declared.frame.Parts.{Parts}

-- the parts of a frame, apart from where they lie in memory
pub record AosParts : Type 0 where
  pub spacecraft : ℕ
  pub channel : ℕ
  pub count : ℕ
  pub replay : Bool
  pub cycle_use : Bool
  pub cycle : ℕ
  pub insert : List ℕ
  pub room : List ℕ
  pub ocf : Option (List ℕ)

abbrev pub view : Parts → AosParts
view p = record {
  spacecraft = p.spacecraft;
  channel = p.channel;
  count = p.count;
  replay = p.replay;
  cycle_use = p.cycle_use;
  cycle = p.cycle;
  insert = p.insert.now;
  room = p.room.now;
  ocf = option_copied p.ocf;
}

-- Transfer Frame Primary Header: version 01, identifiers, frame count, signaling field with two spare bits
abbrev pub primary_header : AosParts → List Field
primary_header p =
    (2, 1) ∷ (8, p.spacecraft) ∷ (6, p.channel) ∷ (24, p.count)
    ∷ (1, bit p.replay) ∷ (1, bit p.cycle_use) ∷ (2, 0) ∷ (4, p.cycle) ∷ []

-- the octets before the security header: the primary header, and the insert zone
abbrev pub prefix_of : AosParts → List ℕ
prefix_of p = packed (primary_header p) ++ p.insert

-- the octets before the frame error control field
abbrev pub body_of : AosParts → List ℕ
body_of p = prefix_of p ++ p.room ++ unwrap_or p.ocf []

-- the octets of the frame
abbrev pub frame_of : AosLayout → AosParts → List ℕ
frame_of layout p = with_error_control layout.fecf (body_of p)

-- the values fill their fields, and the octets the frame
pub record FitsLayout (layout : AosLayout) (p : AosParts) : Type 0 where
  pub spacecraft : p.spacecraft < 2 ^ 8
  pub channel : p.channel < 2 ^ 6
  pub count : p.count < 2 ^ 24
  pub cycle : p.cycle < 2 ^ 4
  pub insert : length p.insert ≡ layout.insert
  pub ocf : IsControlField layout.ocf p.ocf
  pub whole : length (frame_of layout p) ≡ layout.length

-- the octets are a frame of the layout with these parts
pub record AosFrame (layout : AosLayout) (p : AosParts) (octets : List ℕ) : Type 0 where
  pub fits : FitsLayout layout p
  pub spelled : octets ≡ frame_of layout p

-- a layout has room for the primary header, the insert zone and the fields behind the room
abbrev pub IsLayout : AosLayout → Type 0
IsLayout layout = 12 + layout.insert ≤ layout.length
