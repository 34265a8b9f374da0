-- The checks of a frame that is to be opened (CCSDS 355.0-B-2, ProcessSecurity; order profile).
use Rattle.std.specs.Prelude.{◌≡◌, ℕ, ◌==◌, ◌||◌, nat_lt, not, if◌then◌else◌, List, [], ◌∷◌, length, take, Option, Some}
use Rattle.std.specs.Prelude.{None, is_some, is_none, MatchOption}
use Rattle.std.specs.List.{list_any}
use Rattle.std.specs.Int.{w16, from_be_bytes}
use Rattle.std.specs.Option.{option_map_or, option_and_then}
use Rattle.sdls_base.specs.FirstFailing.{Check, first_failing}
use Rattle.sdls_base.specs.KeyId.{end_of}
use Rattle.sdls_base.specs.declared.layout.FrameFault.{FrameFault}
use Rattle.sdls_base.specs.declared.link.Link.{Link}
use Rattle.replay_window.specs.Window.{IsFresh}
use Rattle.sa_book.specs.declared.sa_book.SaRow.{SaRow}
use Rattle.sa_book.specs.SaBook.{is_operational}
use Rattle.sa_book.specs.SaRefusal.{is_receiving}
use Rattle.unit_plan.specs.PlanLines.{PlanLines, link_of}
use Rattle.unit_state.specs.declared.state.State.{State}
use Rattle.unit_state.specs.State.{association_row}
use Rattle.frame_shield.specs.AnyFrame.{first_fault}
use Rattle.frame_shield.specs.Opens.{Opens}
use Rattle.frame_shield.specs.ShieldFault.{fault_number}
use Rattle.frame_shield.specs.declared.binding.Binding.{Binding}
use Rattle.frame_checks.specs.declared.opening_frames.OpenReply.{OpenReply}
use Rattle.frame_checks.specs.declared.opening_frames.OpenReply.TheVariants.{Accepted, Clear, Layout, Channel, Spi}
use Rattle.frame_checks.specs.declared.opening_frames.OpenReply.TheVariants.{Direction, State as NotOperational, Coverage}
use Rattle.frame_checks.specs.declared.opening_frames.OpenReply.TheVariants.{Mac, Number}
use Rattle.frame_checks.specs.Header.{HasRoom, is_clear, channel_of}
use Rattle.frame_checks.specs.Binding.{binding_of}

-- the fault's number; 0 is none
abbrev pub number_of_fault : Option FrameFault → ℕ
number_of_fault fault = option_map_or fault_number fault 0

-- the security parameter index at the front of a room; 0 and 65535 are reserved
abbrev pub index_at : List ℕ → ℕ
index_at room = from_be_bytes w16 (take 2 room)

abbrev pub index_in : List ℕ → Option ℕ
index_in room = if index_at room == 0 || index_at room == 65535 then None else Some (index_at room)

-- the association that a room names
abbrev pub association_in : State → List ℕ → Option SaRow
association_in state room = option_and_then (association_row state) (index_in room)

-- on a link that has a line: layout, frames without security, the least room; the channel; the association
abbrev pub frame_checks : PlanLines → State → ℕ → Link → List ℕ → List ℕ → List (Check OpenReply)
frame_checks plan state link line frame room =
    (is_some (first_fault line.layout frame), Layout (number_of_fault (first_fault line.layout frame)))
    ∷ (is_clear line.layout frame, Clear)
    ∷ (nat_lt (length room) 2, Layout 1)
    ∷ (is_none (channel_of plan link line.layout frame), Channel)
    ∷ (is_none (association_in state room), Spi) ∷ []

-- direction, state and coverage of the association, for a frame of the channel
abbrev pub association_checks : SaRow → ℕ → List (Check OpenReply)
association_checks row channel =
    (not (is_receiving row.direction), Direction)
    ∷ (not (is_operational row.state), NotOperational row.state)
    ∷ (not (list_any (λ own. own == channel) row.channels), Coverage) ∷ []

-- the MAC is right and the number fresh: the frame opens to number and data field
pub record IsAccepted (row : SaRow) (binding : Binding) (frame : List ℕ) (spi key number : ℕ)
    (field : List ℕ) : Type 0 where
  pub index : spi ≡ binding.spi
  pub held : key ≡ binding.key
  pub opens : Opens binding frame number field
  pub fresh : IsFresh row.window number (end_of key)

-- the MAC is right, and the number not fresh
pub record IsStale (row : SaRow) (binding : Binding) (frame : List ℕ) (key number high width : ℕ) : Type 0 where
  pub held : key ≡ binding.key
  pub field : List ℕ
  pub opens : Opens binding frame number field
  pub stale : IsFresh row.window number (end_of key) → ⊥
  pub high_is : high ≡ row.window.high
  pub width_is : width ≡ row.window.width

-- the last two checks: the MAC, then the number
abbrev pub IsJudged : SaRow → Binding → List ℕ → OpenReply → List ℕ → Type 0
IsJudged row binding frame (Accepted spi key number from to) field = IsAccepted row binding frame spi key number field
IsJudged row binding frame Clear field = ⊥
IsJudged row binding frame (Layout number) field = ⊥
IsJudged row binding frame Channel field = ⊥
IsJudged row binding frame Spi field = ⊥
IsJudged row binding frame Direction field = ⊥
IsJudged row binding frame (NotOperational state) field = ⊥
IsJudged row binding frame Coverage field = ⊥
IsJudged row binding frame Mac field = (number : ℕ) (opened : List ℕ) → Opens binding frame number opened → ⊥
IsJudged row binding frame (Number key number high width) field = IsStale row binding frame key number high width

-- the reply of the first check that fails, or else what later checks say of it
abbrev pub IsToldOr : Option OpenReply → OpenReply → Type 0 → Type 0
IsToldOr (Some told) reply later = reply ≡ told
IsToldOr None reply later = later

-- what the association binds the frame to, and the last two checks
pub record IsOpenedUnder (plan : PlanLines) (state : State) (line : Link) (row : SaRow) (frame : List ℕ)
    (reply : OpenReply) (field : List ℕ) : Type 0 where
  pub binding : Binding
  pub bound : binding_of plan state line row ≡ Some binding
  pub judged : IsJudged row binding frame reply field

-- the frame's channel, and the association that it names
pub record IsReplyUnder (plan : PlanLines) (state : State) (link : ℕ) (line : Link) (frame room : List ℕ)
    (reply : OpenReply) (field : List ℕ) : Type 0 where
  pub channel : ℕ
  pub row : SaRow
  pub on : channel_of plan link line.layout frame ≡ Some channel
  pub named : association_in state room ≡ Some row
  pub told : IsToldOr (first_failing (association_checks row channel)) reply
      (IsOpenedUnder plan state line row frame reply field)

-- the frame's room, where the frame has the link's layout
pub record IsReplyOn (plan : PlanLines) (state : State) (link : ℕ) (frame : List ℕ) (reply : OpenReply) (field : List ℕ)
    (line : Link) : Type 0 where
  pub room : List ℕ
  pub has_room : first_fault line.layout frame ≡ None → HasRoom line.layout frame room
  pub told : IsToldOr (first_failing (frame_checks plan state link line frame room)) reply
      (IsReplyUnder plan state link line frame room reply field)

-- The reply to a frame: that of the first check that fails, beginning with the link's line, or Accepted, with the data
-- field.
abbrev pub IsOpenReply : PlanLines → State → ℕ → List ℕ → OpenReply → List ℕ → Type 0
IsOpenReply plan state link frame reply field =
    MatchOption (link_of plan.links link) (reply ≡ Layout 0) (IsReplyOn plan state link frame reply field)
