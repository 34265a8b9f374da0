-- What is found in a protected frame before its MAC is judged, for the private calls.
use Rattle.std.specs.Prelude.{◌≡◌, ℕ, ◌+◌, ◌≤◌, List, length, slice_range}
use Rattle.sdls_header.specs.SecurityHeader.{Pieces, SplitsInto, header_octets}
use Rattle.frame_shield.specs.declared.binding.Binding.{Binding}
use Rattle.frame_shield.specs.declared.opening_frames.Found.{Found}
use Rattle.frame_shield.specs.AnyFrame.{AnyParts, IsFrame, prefix_of, room_of}
use Rattle.frame_shield.specs.Secured.{covered, header_of}

pub record IsFound (b : Binding) (frame : List ℕ) (found : Found) : Type 0 where
  pub parts : AnyParts
  pub pieces : Pieces
  pub framed : IsFrame b.link.layout parts frame
  pub split : SplitsInto b.suite (room_of parts) pieces
  pub header : pieces.header ≡ header_octets (header_of b pieces.vector)
  pub vector : found.vector ≡ pieces.vector
  pub covered : found.covered ≡ covered b (prefix_of b.link.layout parts) pieces.vector
  pub mac : found.mac ≡ pieces.mac
  pub text : slice_range frame found.start found.end ≡ pieces.field
  pub start : found.start ≡ length (prefix_of b.link.layout parts) + length pieces.header
  pub end : found.end ≡ found.start + length pieces.field
  pub within : found.end ≤ length frame
