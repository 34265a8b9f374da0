-- The octets of a frame before its frame error control field, as they lie in memory, for the private calls.
use Rattle.std.specs.Prelude.{◌≡◌, ℕ, List, Option, None, option_copied}
use Rattle.tm_frame.specs.TmFrame as tm_frames
use Rattle.aos_frame.specs.AosFrame as aos_frames
use Rattle.sdls_base.specs.declared.link.AnyLayout.{AnyLayout}
use Rattle.sdls_base.specs.declared.link.AnyLayout.TheVariants.{Tc, Tm, Aos}
use Rattle.frame_shield.specs.declared.protecting_frames.Body.{Body}
use Rattle.frame_shield.specs.AnyFrame.{AnyParts, tc, tm, aos, IsFrame, prefix_of, room_of}

-- a layout has room for the primary header and the fields behind the room
abbrev pub IsLayout : AnyLayout → Type 0
IsLayout (Tc layout) = Unit {0}
IsLayout (Tm layout) = tm_frames.IsLayout layout
IsLayout (Aos layout) = aos_frames.IsLayout layout

-- the operational control field
abbrev pub ocf_of : AnyParts → Option (List ℕ)
ocf_of (tc p) = None
ocf_of (tm p) = p.ocf
ocf_of (aos p) = p.ocf

-- the body of a frame
pub record IsBody (layout : AnyLayout) (frame : List ℕ) (body : Body) : Type 0 where
  pub parts : AnyParts
  pub framed : IsFrame layout parts frame
  pub prefix : body.prefix.now ≡ prefix_of layout parts
  pub room : body.room.now ≡ room_of parts
  pub ocf : option_copied body.ocf ≡ ocf_of parts
