-- What one unit protects and another accepts (CCSDS 355.0-B-2, ApplySecurity and ProcessSecurity).
use Rattle.std.specs.Prelude.{◌≡◌, ℕ, List, Ok, Some}
use Rattle.std.specs.List.{Contains}
use Rattle.sdls_base.specs.Link.{mask_octets}
use Rattle.sdls_base.specs.declared.link.Link.{Link}
use Rattle.sa_book.specs.declared.sa_book.SaRow.{SaRow}
use Rattle.frame_shield.specs.declared.binding.Binding.{Binding}
use Rattle.sdls_header.specs.Authenticated.{masked_octets}
use Rattle.frame_shield.specs.AnyFrame.{AnyParts, IsFrame, prefix_of, room_of}
use Rattle.frame_shield.specs.Binding.{clear_layout}
use Rattle.frame_checks.specs.Binding.{binding_of}
use Rattle.frame_checks.specs.Header.{HasRoom}
use Rattle.frame_checks.specs.OpeningFrames.{association_in}
use Rattle.record_io.specs.declared.code.TheConstants.{ACCEPTED}
use Rattle.unit_plan.specs.PlanLines.{link_of}
use Rattle.run_promise.specs.Fits.{protect_reply, state_in, state_before}
use Rattle.run_promise.specs.Life.{Given}

-- both have the same key octets, suite, layout and mask
pub record AgreeOn (one other : Binding) : Type 0 where
  pub octets : one.schedule ≡ other.schedule
  pub suite : one.suite ≡ other.suite
  pub layout : one.link.layout ≡ other.link.layout
  pub mask : mask_octets one.link.mask ≡ mask_octets other.link.mask

-- the octets are the data field of a clear frame of the binding
pub record IsDataField (binding : Binding) (clear field : List ℕ) : Type 0 where
  pub parts : AnyParts
  pub framed : IsFrame (clear_layout binding.suite binding.link.layout) parts clear
  pub field_is : field ≡ room_of parts

-- the binding that the checks of a frame to be protected found, in the state of the epoch that the answer has
abbrev pub IsSentUnder : Given → Binding → Type 0
IsSentUnder given binding = protect_reply given.course.begin.plan (state_in given.course given.deed.answer.position)
    given.deed.task.link given.deed.task.octets
    ≡ Ok (Some binding)

-- the binding of the association that a frame to be opened names, in the state before its own entry
pub record IsReceivedUnder (given : Given) (binding : Binding) : Type 0 where
  pub line : Link
  pub has_line : link_of given.course.begin.plan.links given.deed.task.link ≡ Some line
  pub room : List ℕ
  pub has_room : HasRoom line.layout given.deed.task.octets room
  pub row : SaRow
  pub named : association_in (state_before given.course given.deed.answer) room ≡ Some row
  pub bound : binding_of given.course.begin.plan (state_before given.course given.deed.answer) line row ≡ Some binding

-- the association that the one frame names agrees with the one that protected the other
abbrev pub BindingsAgree : Given → Given → Type 0
BindingsAgree sent got = (one other : Binding) → IsSentUnder sent one → IsReceivedUnder got other → AgreeOn one other

-- the answer accepts a frame under this key
abbrev pub AcceptsUnder : ℕ → Given → Type 0
AcceptsUnder key given = (given.deed.answer.code ≡ ACCEPTED) × (given.deed.answer.key ≡ key)

-- the one answer accepts, under this key, the octets that the other released
pub record AcceptsFrame (key : ℕ) (sent got : Given) : Type 0 where
  pub accepts : AcceptsUnder key got
  pub octets : got.deed.task.octets ≡ sent.deed.answer.body

-- The frame that arrived agrees with the one released on all that the MAC covers: security header, text and MAC are the
-- same, and so is each octet before them that the mask covers (CCSDS 355.0-B-2, authentication bit mask).
pub record AgreesOnCovered (binding : Binding) (released arrived : List ℕ) : Type 0 where
  pub parts : AnyParts
  pub others : AnyParts
  pub released_framed : IsFrame binding.link.layout parts released
  pub arrived_framed : IsFrame binding.link.layout others arrived
  pub room : room_of others ≡ room_of parts
  pub masked : masked_octets (prefix_of binding.link.layout others) (mask_octets binding.link.mask)
      ≡ masked_octets (prefix_of binding.link.layout parts) (mask_octets binding.link.mask)

-- the one answer accepts, under this key, a frame that agrees so with the one that the other released
pub record AcceptsCovered (key : ℕ) (sent got : Given) : Type 0 where
  pub accepts : AcceptsUnder key got
  pub agrees : (binding : Binding) → IsSentUnder sent binding
      → AgreesOnCovered binding sent.deed.answer.body got.deed.task.octets

-- The number accepted is the one that was sent, under a key with the same octets, and the body is the data field of the
-- frame that was protected.
pub record IsCarried (sent got : Given) : Type 0 where
  pub number : got.deed.answer.number ≡ sent.deed.answer.number
  pub one : Binding
  pub other : Binding
  pub sent_under : IsSentUnder sent one
  pub received_under : IsReceivedUnder got other
  pub sent_key : sent.deed.answer.key ≡ one.key
  pub received_key : got.deed.answer.key ≡ other.key
  pub octets : one.schedule ≡ other.schedule
  pub field : IsDataField one sent.deed.task.octets got.deed.answer.body

-- both answers accept one frame that one of these answers released
abbrev pub AreRepeated : (Given → Given → Type 0) → List Given → Given → Given → Type 0
AreRepeated takes released one two = (sent : Given) × Contains released sent × takes sent one × takes sent two
