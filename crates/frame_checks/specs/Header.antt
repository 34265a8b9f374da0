-- What a frame's header says of where it belongs (CCSDS 232.0-B-4, 132.0-B-3 and 732.0-B-4, Transfer Frame Primary
-- Header).
use Rattle.std.specs.Prelude.{◌≡◌, ℕ, nat_lt, Bool, false, List, length, Option, None}
use Rattle.sdls_base.specs.declared.link.AnyLayout.{AnyLayout}
use Rattle.sdls_base.specs.declared.link.AnyLayout.TheVariants.{Tc, Tm, Aos}
use Rattle.tc_frame.specs.FirstFault.{control_of}
use Rattle.tc_frame.specs.Header as tc_headers
use Rattle.tm_frame.specs.Header as tm_headers
use Rattle.aos_frame.specs.Header as aos_headers
use Rattle.unit_plan.specs.Channels.{channel_at}
use Rattle.unit_plan.specs.PlanLines.{PlanLines}
use Rattle.frame_shield.specs.AnyFrame.{AnyParts, IsFrame, room_of}

-- the octets of the primary header, and of the TC segment header where there is one
abbrev pub header_length : AnyLayout → List ℕ → ℕ
header_length (Tc layout) frame = tc_headers.header_length layout frame
header_length (Tm layout) frame = 6
header_length (Aos layout) frame = 6

abbrev pub lacks_header : AnyLayout → List ℕ → Bool
lacks_header layout frame = nat_lt (length frame) (header_length layout frame)

-- spacecraft identifier
abbrev pub spacecraft_of : AnyLayout → List ℕ → ℕ
spacecraft_of (Tc layout) frame = tc_headers.spacecraft_of frame
spacecraft_of (Tm layout) frame = tm_headers.spacecraft_of frame
spacecraft_of (Aos layout) frame = aos_headers.spacecraft_of frame

-- virtual channel identifier
abbrev pub virtual_channel_of : AnyLayout → List ℕ → ℕ
virtual_channel_of (Tc layout) frame = tc_headers.virtual_channel_of frame
virtual_channel_of (Tm layout) frame = tm_headers.virtual_channel_of frame
virtual_channel_of (Aos layout) frame = aos_headers.virtual_channel_of frame

-- MAP identifier
abbrev pub map_of : AnyLayout → List ℕ → Option ℕ
map_of (Tc layout) frame = tc_headers.map_of layout frame
map_of (Tm layout) frame = None
map_of (Aos layout) frame = None

-- Frames that carry no security: TC frames with the control command flag, and AOS idle frames.
abbrev pub is_clear : AnyLayout → List ℕ → Bool
is_clear (Tc layout) frame = control_of frame
is_clear (Tm layout) frame = false
is_clear (Aos layout) frame = aos_headers.is_idle frame

-- the channel of the plan that the frame is of
abbrev pub channel_of : PlanLines → ℕ → AnyLayout → List ℕ → Option ℕ
channel_of plan link layout frame = channel_at plan.channels (record {
  link = link;
  spacecraft = spacecraft_of layout frame;
  channel = virtual_channel_of layout frame;
  map = map_of layout frame;
})

-- the octets are a frame of the layout, with this room for security header, data field and security trailer
pub record HasRoom (layout : AnyLayout) (frame room : List ℕ) : Type 0 where
  pub parts : AnyParts
  pub framed : IsFrame layout parts frame
  pub room_is : room ≡ room_of parts
