-- Frames opened (CCSDS 355.0-B-2, ProcessSecurity).
use Rattle.std.specs.Prelude.{◌≡◌, ℕ, ◌+◌, ◌≤◌, List, length, take, drop, slice_range}
use Rattle.std.specs.Int.{w16, to_be_bytes}
use Rattle.sdls_base.specs.Suite.{overhead_of}
use Rattle.sdls_header.specs.SecurityHeader.{Pieces}
use Rattle.frame_shield.specs.declared.binding.Binding.{Binding}
use Rattle.frame_shield.specs.declared.opening_frames.Opened.{Opened}
use Rattle.frame_shield.specs.declared.opening_frames.Opened.TheVariants.{Field, BadMac}
use Rattle.frame_shield.specs.AnyFrame.{AnyParts, IsFrame, prefix_of, room_of}
use Rattle.frame_shield.specs.Secured.{IsSecured, number_of}

-- frame is one of the link's layout, its room has the data field secured, and its header carries n; the device field
-- of a vector may be any
pub record Opens (b : Binding) (frame : List ℕ) (n : ℕ) (field : List ℕ) : Type 0 where
  pub parts : AnyParts
  pub pieces : Pieces
  pub framed : IsFrame b.link.layout parts frame
  pub number : number_of pieces.vector ≡ n
  pub secured : IsSecured b (prefix_of b.link.layout parts) (room_of parts) pieces field

-- the frame has the link's layout, and its room, where it has at least the overhead, begins with the binding's index
pub record CarriesIndex (b : Binding) (frame : List ℕ) : Type 0 where
  pub parts : AnyParts
  pub framed : IsFrame b.link.layout parts frame
  pub index : overhead_of b.suite ≤ length (room_of parts) → take 2 (room_of parts) ≡ to_be_bytes w16 b.spi

-- the frame opens, and its data field stands in clear behind prefix and security header; nothing else has changed
pub record OpensInPlace (b : Binding) (old new : List ℕ) (number from to : ℕ) : Type 0 where
  pub opens : Opens b old number (slice_range new from to)
  pub start : from ≡ length (prefix_of b.link.layout opens.parts) + length opens.pieces.header
  pub order : from ≤ to
  pub before : take from new ≡ take from old
  pub after : drop to new ≡ drop to old

-- a fact of number and place, where a frame was opened
abbrev pub OnField : Opened → (ℕ → ℕ → ℕ → Type 0) → Type 0
OnField (Field number from to) P = P number from to
OnField BadMac P = Unit {0}
