-- TM Transfer Frame (CCSDS 132.0-B-3).
use Rattle.std.specs.Prelude.{◌≡◌, ℕ, ◌-◌, ◌/◌, ◌^◌, ◌<◌, ◌≤◌, ◌==◌, Bool, true, false, List, [], ◌∷◌, ◌++◌, length}
use Rattle.std.specs.Prelude.{slice_index, Option, is_some, option_copied, unwrap_or}
use Rattle.sdls_base.specs.declared.layout.TmLayout.{TmLayout}
use Rattle.sdls_base.specs.ControlField.{IsControlField}
use Rattle.sdls_base.specs.Fields.{Field, bit, packed}
use Rattle.sdls_base.specs.ErrorControl.{with_error_control}
use Rattle.tm_frame.specs.declared.frame.Parts.{Parts}

-- the parts of a frame, apart from where they lie in memory
pub record TmParts : Type 0 where
  pub spacecraft : ℕ
  pub channel : ℕ
  pub master_count : ℕ
  pub channel_count : ℕ
  pub status : ℕ
  pub secondary : List ℕ
  pub room : List ℕ
  pub ocf : Option (List ℕ)

abbrev pub view : Parts → TmParts
view p = record {
  spacecraft = p.spacecraft;
  channel = p.channel;
  master_count = p.master_count;
  channel_count = p.channel_count;
  status = p.status;
  secondary = p.secondary.now;
  room = p.room.now;
  ocf = option_copied p.ocf;
}

-- Transfer Frame Primary Header: version 00, identifiers, operational control field flag, frame counts, status
abbrev pub primary_header : TmParts → List Field
primary_header p =
    (2, 0) ∷ (10, p.spacecraft) ∷ (3, p.channel) ∷ (1, bit (is_some p.ocf))
    ∷ (8, p.master_count) ∷ (8, p.channel_count) ∷ (16, p.status) ∷ []

-- the first bit of the status
abbrev pub has_secondary : ℕ → Bool
has_secondary status = status / 2 ^ 15 == 1

-- Transfer Frame Secondary Header: its first octet is version 00, and its octets minus 1 in 6 bits
abbrev pub IsSecondaryHeader : Bool → List ℕ → Type 0
IsSecondaryHeader false octets = octets ≡ []
IsSecondaryHeader true octets =
    (0 < length octets) × (length octets ≤ 2 ^ 6) × (slice_index octets 0 ≡ length octets - 1)

-- the octets before the security header: the primary header, and the secondary header
abbrev pub prefix_of : TmParts → List ℕ
prefix_of p = packed (primary_header p) ++ p.secondary

-- the octets before the frame error control field
abbrev pub body_of : TmParts → List ℕ
body_of p = prefix_of p ++ p.room ++ unwrap_or p.ocf []

-- the octets of the frame
abbrev pub frame_of : TmLayout → TmParts → List ℕ
frame_of layout p = with_error_control layout.fecf (body_of p)

-- the values fill their fields, and the octets the frame
pub record FitsLayout (layout : TmLayout) (p : TmParts) : Type 0 where
  pub spacecraft : p.spacecraft < 2 ^ 10
  pub channel : p.channel < 2 ^ 3
  pub master_count : p.master_count < 2 ^ 8
  pub channel_count : p.channel_count < 2 ^ 8
  pub status : p.status < 2 ^ 16
  pub secondary : IsSecondaryHeader (has_secondary p.status) p.secondary
  pub ocf : IsControlField (is_some p.ocf) p.ocf
  pub whole : length (frame_of layout p) ≡ layout.length

-- the octets are a frame of the layout with these parts
pub record TmFrame (layout : TmLayout) (p : TmParts) (octets : List ℕ) : Type 0 where
  pub fits : FitsLayout layout p
  pub spelled : octets ≡ frame_of layout p

-- a layout has room for the primary header and the fields behind the room
abbrev pub IsLayout : TmLayout → Type 0
IsLayout layout = 12 ≤ layout.length
