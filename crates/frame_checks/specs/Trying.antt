-- Frames that are opened before their numbers are judged (CCSDS 355.0-B-2, ProcessSecurity; profile).
use Rattle.std.specs.Prelude.{◌≡◌, ℕ, false, nat_lt, List, length, Some, None}
use Rattle.std.specs.Int.{w16, to_be_bytes}
use Rattle.std.specs.Prelude.{take}
use Rattle.sdls_base.specs.FirstFailing.{first_failing}
use Rattle.sa_book.specs.declared.sa_book.SaRow.{SaRow}
use Rattle.unit_plan.specs.PlanLines.{PlanLines, link_of}
use Rattle.unit_state.specs.declared.state.State.{State}
use Rattle.unit_state.specs.State.{association_row}
use Rattle.frame_shield.specs.AnyFrame.{first_fault}
use Rattle.frame_shield.specs.Binding.{IsBinding}
use Rattle.frame_shield.specs.Opens.{Opens, OpensInPlace, OnField}
use Rattle.frame_shield.specs.declared.binding.Binding.{Binding}
use Rattle.frame_shield.specs.declared.opening_frames.Opened.{Opened}
use Rattle.frame_shield.specs.declared.opening_frames.Opened.TheVariants.{BadMac}
use Rattle.frame_checks.specs.declared.opening_frames.Opener.{Opener}
use Rattle.frame_checks.specs.Binding.{binding_of}
use Rattle.frame_checks.specs.Header.{HasRoom, is_clear, channel_of}
use Rattle.frame_checks.specs.OpeningFrames.{association_checks, index_in}

-- In this state none of the checks of the opener's association fails for frames of its channel, and the association
-- binds them to its binding.
pub record IsOpener (plan : PlanLines) (state : State) (opener : Opener) : Type 0 where
  pub line : link_of plan.links opener.link ≡ Some opener.binding.link
  pub binding : IsBinding opener.binding
  pub row : SaRow
  pub there : association_row state opener.binding.spi ≡ Some row
  pub passes : first_failing (association_checks row opener.channel) ≡ None
  pub bound : binding_of plan state opener.binding.link row ≡ Some opener.binding

-- None of the checks of the frame fails for which the plan is enough, and it is of the opener's channel and names its
-- association.
pub record IsOfOpener (plan : PlanLines) (opener : Opener) (link : ℕ) (frame : List ℕ) : Type 0 where
  pub linked : link ≡ opener.link
  pub layout : first_fault opener.binding.link.layout frame ≡ None
  pub room : List ℕ
  pub has_room : HasRoom opener.binding.link.layout frame room
  pub secured : is_clear opener.binding.link.layout frame ≡ false
  pub roomy : nat_lt (length room) 2 ≡ false
  pub on : channel_of plan link opener.binding.link.layout frame ≡ Some opener.channel
  pub named : index_in room ≡ Some opener.binding.spi
  pub index : to_be_bytes w16 opener.binding.spi ≡ take 2 room

-- what `unshield` says of the octets before and after
pub record IsUnshielded (binding : Binding) (old new : List ℕ) (opened : Opened) : Type 0 where
  pub field : OnField opened (OpensInPlace binding old new)
  pub bad_mac : opened ≡ BadMac → (number : ℕ) (field : List ℕ) → Opens binding old number field → ⊥
  pub unchanged : opened ≡ BadMac → new ≡ old

-- the frame is the opener's, and was opened where its MAC is right
pub record IsTried (plan : PlanLines) (opener : Opener) (link : ℕ) (old new : List ℕ) (opened : Opened) : Type 0 where
  pub frame : IsOfOpener plan opener link old
  pub unshielded : IsUnshielded opener.binding old new opened
