-- A transfer frame of one of three kinds: TC (CCSDS 232.0-B-4), TM (132.0-B-3) or AOS (732.0-B-4).
use Rattle.std.specs.Prelude.{ℕ, List, [], Option}
use Rattle.sdls_base.specs.declared.layout.FrameFault.{FrameFault}
use Rattle.tc_frame.specs.TcFrame as tc_frames
use Rattle.tm_frame.specs.TmFrame as tm_frames
use Rattle.aos_frame.specs.AosFrame as aos_frames
use Rattle.tc_frame.specs.FirstFault as tc_faults
use Rattle.tm_frame.specs.FirstFault as tm_faults
use Rattle.aos_frame.specs.FirstFault as aos_faults
use Rattle.sdls_base.specs.declared.link.AnyLayout.{AnyLayout}
use Rattle.sdls_base.specs.declared.link.AnyLayout.TheVariants.{Tc, Tm, Aos}

-- the parts of a frame
pub data AnyParts : Type 0 where
  tc : (parts : tc_frames.TcParts) → AnyParts
  tm : (parts : tm_frames.TmParts) → AnyParts
  aos : (parts : aos_frames.AosParts) → AnyParts

-- the octets are a frame of the layout with these parts
abbrev pub IsFrame : AnyLayout → AnyParts → List ℕ → Type 0
IsFrame (Tc layout) (tc p) octets = tc_frames.TcFrame layout p octets
IsFrame (Tm layout) (tm p) octets = tm_frames.TmFrame layout p octets
IsFrame (Aos layout) (aos p) octets = aos_frames.AosFrame layout p octets
IsFrame _ _ octets = ⊥

-- the octets before the security header
abbrev pub prefix_of : AnyLayout → AnyParts → List ℕ
prefix_of (Tc layout) (tc p) = tc_frames.prefix_of layout p
prefix_of _ (tc p) = []
prefix_of _ (tm p) = tm_frames.prefix_of p
prefix_of _ (aos p) = aos_frames.prefix_of p

-- the octets after the prefix, and before the operational control field and the frame error control field
abbrev pub room_of : AnyParts → List ℕ
room_of (tc p) = p.room
room_of (tm p) = p.room
room_of (aos p) = p.room

-- the same parts, but for the room
abbrev pub with_room : AnyParts → List ℕ → AnyParts
with_room (tc p) room = tc (record p { room = room })
with_room (tm p) room = tm (record p { room = room })
with_room (aos p) room = aos (record p { room = room })

-- the first check of a frame of the layout that fails
abbrev pub first_fault : AnyLayout → List ℕ → Option FrameFault
first_fault (Tc layout) frame = tc_faults.first_fault layout frame
first_fault (Tm layout) frame = tm_faults.first_fault layout frame
first_fault (Aos layout) frame = aos_faults.first_fault layout frame
