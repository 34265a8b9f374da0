-- Frames protected (CCSDS 355.0-B-2, ApplySecurity).
use Rattle.std.specs.Prelude.{◌≡◌, ℕ, List}
use Rattle.sdls_header.specs.SecurityHeader.{Pieces}
use Rattle.frame_shield.specs.declared.binding.Binding.{Binding}
use Rattle.frame_shield.specs.AnyFrame.{AnyParts, IsFrame, prefix_of, room_of, with_room}
use Rattle.frame_shield.specs.Binding.{clear_layout}
use Rattle.frame_shield.specs.Secured.{IsSecured, vector_for}

-- clear is a frame of the clear layout, its room the data field; out is a frame of the link's layout with the same
-- parts but for the room, and that has the data field secured, with the vector for n
pub record Protects (b : Binding) (n : ℕ) (clear out : List ℕ) : Type 0 where
  pub parts : AnyParts
  pub room : List ℕ
  pub pieces : Pieces
  pub clear_framed : IsFrame (clear_layout b.suite b.link.layout) parts clear
  pub framed : IsFrame b.link.layout (with_room parts room) out
  pub vector : pieces.vector ≡ vector_for b.suite b.device n
  pub secured : IsSecured b (prefix_of b.link.layout (with_room parts room)) room pieces (room_of parts)
