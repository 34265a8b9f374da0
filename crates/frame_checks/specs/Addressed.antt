-- How far the checks came, for the private calls.
use Rattle.std.specs.Prelude.{◌≡◌, ℕ, List, take, Some, None}
use Rattle.std.specs.Int.{w16, to_be_bytes}
use Rattle.sdls_base.specs.FirstFailing.{first_failing}
use Rattle.sdls_base.specs.declared.link.Link.{Link}
use Rattle.sa_book.specs.declared.sa_book.SaRow.{SaRow}
use Rattle.unit_plan.specs.PlanLines.{PlanLines}
use Rattle.unit_state.specs.declared.state.State.{State}
use Rattle.frame_shield.specs.AnyFrame.{first_fault}
use Rattle.frame_checks.specs.declared.opening_frames.OpenReply.{OpenReply}
use Rattle.frame_checks.specs.Header.{HasRoom, channel_of}
use Rattle.frame_checks.specs.OpeningFrames.{association_in, frame_checks}

-- a check of the frame, before those of its association, gives the reply
pub record IsRefusedBefore (plan : PlanLines) (state : State) (link : ℕ) (line : Link) (frame : List ℕ)
    (reply : OpenReply) : Type 0 where
  pub room : List ℕ
  pub has_room : first_fault line.layout frame ≡ None → HasRoom line.layout frame room
  pub told : first_failing (frame_checks plan state link line frame room) ≡ Some reply

-- no such check fails: the frame is of this channel, and names this association
pub record IsAddressed (plan : PlanLines) (state : State) (link : ℕ) (line : Link) (frame : List ℕ) (channel : ℕ)
    (row : SaRow) : Type 0 where
  pub room : List ℕ
  pub has_room : HasRoom line.layout frame room
  pub passed : first_failing (frame_checks plan state link line frame room) ≡ None
  pub on : channel_of plan link line.layout frame ≡ Some channel
  pub named : association_in state room ≡ Some row
  pub index : to_be_bytes w16 row.spi ≡ take 2 room
