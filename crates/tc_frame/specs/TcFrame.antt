-- TC Transfer Frame (CCSDS 232.0-B-4).
use Rattle.std.specs.Prelude.{◌≡◌, ℕ, ◌+◌, ◌-◌, ◌^◌, ◌<◌, ◌≤◌, Bool, not, ◌&&◌, List, [], ◌∷◌, ◌++◌, length, Option}
use Rattle.std.specs.Prelude.{is_some, IfSome}
use Rattle.std.specs.Option.{option_to_list}
use Rattle.sdls_base.specs.declared.layout.TcLayout.{TcLayout}
use Rattle.sdls_base.specs.Fields.{Field, bit, packed}
use Rattle.sdls_base.specs.ErrorControl.{with_error_control, error_control_length}
use Rattle.tc_frame.specs.declared.frame.Parts.{Parts}

-- the parts of a frame, apart from where they lie in memory
pub record TcParts : Type 0 where
  pub bypass : Bool
  pub control : Bool
  pub spacecraft : ℕ
  pub channel : ℕ
  pub sequence : ℕ
  pub segment : Option ℕ
  pub room : List ℕ

abbrev pub view : Parts → TcParts
view p = record {
  bypass = p.bypass;
  control = p.control;
  spacecraft = p.spacecraft;
  channel = p.channel;
  sequence = p.sequence;
  segment = p.segment;
  room = p.room.now;
}

-- Transfer Frame Primary Header of a frame of n octets: version 00, flags, two spare bits, identifiers, the octets
-- minus 1, sequence number
abbrev pub primary_header : TcParts → ℕ → List Field
primary_header p n =
    (2, 0) ∷ (1, bit p.bypass) ∷ (1, bit p.control) ∷ (2, 0) ∷ (10, p.spacecraft)
    ∷ (6, p.channel) ∷ (10, n - 1) ∷ (8, p.sequence) ∷ []

-- frames without the control command flag have a segment header, where the layout has them
abbrev pub has_segment : TcLayout → Bool → Bool
has_segment layout control = layout.segment && not control

abbrev pub frame_length : TcLayout → TcParts → ℕ
frame_length layout p = 5 + length (option_to_list p.segment) + length p.room + error_control_length layout.fecf

-- the octets before the security header: the primary header, and the segment header
abbrev pub prefix_of : TcLayout → TcParts → List ℕ
prefix_of layout p = packed (primary_header p (frame_length layout p)) ++ option_to_list p.segment

-- the octets before the frame error control field
abbrev pub body_of : TcLayout → TcParts → List ℕ
body_of layout p = prefix_of layout p ++ p.room

-- the octets of the frame
abbrev pub frame_of : TcLayout → TcParts → List ℕ
frame_of layout p = with_error_control layout.fecf (body_of layout p)

-- the values fill their fields, and the octets are not too many
pub record FitsLayout (layout : TcLayout) (p : TcParts) : Type 0 where
  pub spacecraft : p.spacecraft < 2 ^ 10
  pub channel : p.channel < 2 ^ 6
  pub sequence : p.sequence < 2 ^ 8
  pub segment : is_some p.segment ≡ has_segment layout p.control
  pub segment_octet : IfSome p.segment (λ octet. octet < 2 ^ 8)
  pub most : frame_length layout p ≤ layout.most
  pub field : frame_length layout p ≤ 2 ^ 10

-- the octets are a frame of the layout with these parts
pub record TcFrame (layout : TcLayout) (p : TcParts) (octets : List ℕ) : Type 0 where
  pub fits : FitsLayout layout p
  pub spelled : octets ≡ frame_of layout p
