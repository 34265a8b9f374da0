-- When an answer fits the record that it answers, down to the checks of a frame that is to be protected (CCSDS
-- 355.0-B-2, ApplySecurity; order profile).
use Rattle.std.specs.Prelude.{ℕ, List, Some, None, Ok, Err, ◌≡◌, ◌≢◌, ◌-◌, ◌<◌, ◌≤◌, ◌⊎◌, [], length, slice_get, Result}
use Rattle.std.specs.Option.{option_map_or}
use Rattle.sdls_base.specs.KeyId.{end_of}
use Rattle.sdls_base.specs.declared.entry.Change.{Change}
use Rattle.sdls_base.specs.declared.entry.Entry.{Entry}
use Rattle.sdls_base.specs.declared.entry.Seen.{Seen}
use Rattle.sdls_base.specs.declared.entry.Change.TheVariants as changes
use Rattle.sdls_outside.specs.Faults.{Rose}
use Rattle.frame_shield.specs.declared.protecting_frames.ShieldFault.TheVariants.{Layout}
use Rattle.frame_shield.specs.Binding.{clear_fault}
use Rattle.frame_shield.specs.ShieldFault.{fault_number}
use Rattle.frame_shield.specs.declared.binding.Binding.{Binding}
use Rattle.frame_shield.specs.Protects.{Protects}
use Rattle.unit_plan.specs.PlanLines.{PlanLines}
use Rattle.unit_state.specs.declared.state.State.{State}
use Rattle.unit_state.specs.History.{after_first, at_epoch, epoch_after}
use Rattle.frame_checks.specs.ProtectingFrames.{protect_check, channel_check}
use Rattle.frame_checks.specs.declared.opening_frames.OpenReply.{OpenReply}
use Rattle.frame_checks.specs.declared.opening_frames.OpenReply.TheVariants.{Accepted}
use Rattle.frame_checks.specs.OpeningFrames.{IsOpenReply}
use Rattle.frame_checks.specs.ProtectingFrames as protecting
use Rattle.ep_core.specs.declared.judging.Need.TheVariants.{Number}
use Rattle.ep_core.specs.declared.refusal.Reply.{Reply}
use Rattle.record_io.specs.declared.answers.Answer.{Answer}
use Rattle.record_io.specs.declared.code.TheConstants.{PROTECTED, EXHAUSTED, SITE_FAULT, STOPPED, NO_MEMORY}
use Rattle.record_io.specs.declared.reader.RecordKind.{RecordKind}
use Rattle.record_io.specs.declared.reader.RecordKind.TheVariants.{Protect, Open, Command, Monitor}
use Rattle.record_io.specs.declared.item_cursor.Record.{Record}
use Rattle.run_promise.specs.Call.{Begin}
use Rattle.run_promise.specs.Numbers.{mark_of, floor_of}
use Rattle.run_promise.specs.History.{frame_entry, record_entry, IsNeedOf, IsStepOf, KeyOf, SeesFor, SeenNear}
use Rattle.run_promise.specs.Answers.{told_by, plain, counting, numbered, opened_told, replied_told, unbound_told}
use Rattle.run_promise.specs.Answers.{monitored_told}

-- ---- the checks of a frame that is to be protected

-- the last check, of a frame that is bound: the clear frame has its layout
abbrev pub layout_check : List ℕ → protecting.Answer → protecting.Answer
layout_check clear (Ok (Some binding)) =
    option_map_or (λ fault. Err (Layout (fault_number fault))) (clear_fault binding clear) (Ok (Some binding))
layout_check clear (Ok None) = Ok None
layout_check clear (Err fault) = Err fault

-- What is found of a frame that is to be protected: the refusal of the first check that fails, that it carries no
-- security, or the binding under which it is protected.
abbrev pub protect_reply : PlanLines → State → ℕ → List ℕ → protecting.Answer
protect_reply plan state link clear = layout_check clear (protect_check plan state link clear)

-- ---- answers

-- What the answers of a run speak of: what it began with, the site's count of faults when the book was opened and as it
-- is known now, and the entries known now.
pub record Course : Type 0 where
  pub begin : Begin
  pub faults_before : ℕ
  pub faults : ℕ
  pub entries : List Entry

-- the state after the first p entries, and the one that an epoch began with
abbrev pub state_after : Course → ℕ → State
state_after course p = after_first course.begin.start course.entries p

abbrev pub state_in : Course → ℕ → State
state_in course epoch = at_epoch course.begin.start course.entries epoch

-- ---- when a record can need an append

-- a number that is near is to be reserved in this state
pub record IsUnmarked (near : ℕ → ℕ → Type 0) (state : State) (key number : ℕ) : Type 0 where
  pub is_near : near key number
  pub unmarked : mark_of state key ≤ number
  pub below : number < end_of key

-- a frame that is bound in this state or in one before it can need a reserve
pub record CanReserve (near : ℕ → ℕ → Type 0) (course : Course) (p : ℕ) (task : Record) : Type 0 where
  pub earlier : ℕ
  pub within : earlier ≤ p
  pub binding : Binding
  pub bound : protect_reply course.begin.plan (state_after course earlier) task.link task.octets ≡ Ok (Some binding)
  pub number : ℕ
  pub is : IsUnmarked near (state_after course p) binding.key number

-- a frame is accepted with a number above the floor
pub record CanRaiseFloor (course : Course) (p : ℕ) (task : Record) : Type 0 where
  pub spi : ℕ
  pub key : ℕ
  pub number : ℕ
  pub from : ℕ
  pub to : ℕ
  pub field : List ℕ
  pub accepts : IsOpenReply course.begin.plan (state_after course p) task.link task.octets
      (Accepted spi key number from to)
      field
  pub above : floor_of (state_after course p) key < number

-- a command can change the state
pub record CanChange (near : ℕ → ℕ → Type 0) (course : Course) (p : ℕ) (task : Record) : Type 0 where
  pub seen : Seen
  pub change : Change
  pub reply : Reply
  pub sees : SeesFor (state_after course p) task.octets seen
  pub is_near : (key : ℕ) → KeyOf (state_after course p) task.octets key → SeenNear near key seen
  pub step : IsStepOf (state_after course p) task.octets seen (change, reply)
  pub changes : change ≢ changes.Nothing

-- a command can draw a number that is to be reserved
pub record CanDraw (near : ℕ → ℕ → Type 0) (course : Course) (p : ℕ) (task : Record) : Type 0 where
  pub key : ℕ
  pub number : ℕ
  pub needs : IsNeedOf (state_after course p) task.octets (Number key)
  pub is : IsUnmarked near (state_after course p) key number

abbrev pub CanAppend : (ℕ → ℕ → Type 0) → Course → ℕ → Record → RecordKind → Type 0
CanAppend near course p task Protect = CanReserve near course p task
CanAppend near course p task Open = CanRaiseFloor course p task
CanAppend near course p task Command = CanChange near course p task ⊎ CanDraw near course p task
CanAppend near course p task Monitor = ⊥

-- the record can need an append in the state after the first p entries
abbrev pub MayAppend : (ℕ → ℕ → Type 0) → Course → ℕ → Record → Type 0
MayAppend near course p task = CanAppend near course p task task.kind

-- in the state after some of the entries
pub record MayAppendOnce (near : ℕ → ℕ → Type 0) (course : Course) (task : Record) : Type 0 where
  pub p : ℕ
  pub within : p ≤ length course.entries
  pub may : MayAppend near course p task

-- ---- frames protected

-- the frame is bound in the state of the epoch that the answer has
pub record IsBound (course : Course) (task : Record) (answer : Answer) : Type 0 where
  pub reached : answer.position ≤ epoch_after course.entries
  pub binding : Binding
  pub bound : protect_reply course.begin.plan (state_in course answer.position) task.link task.octets
      ≡ Ok (Some binding)
  pub key_is : answer.key ≡ binding.key

-- the body is the frame protected under a number that the key's word `next` can have been
pub record IsProtected (near : ℕ → ℕ → Type 0) (course : Course) (task : Record) (answer : Answer) : Type 0 where
  pub is : IsBound course task answer
  pub told : told_by answer ≡ numbered PROTECTED answer.key answer.number answer.body
  pub is_near : near answer.key answer.number
  pub below : answer.number < end_of answer.key
  pub protects : Protects is.binding answer.number task.octets answer.body

-- the key's numbers have come to their end
pub record IsExhausted (near : ℕ → ℕ → Type 0) (course : Course) (task : Record) (answer : Answer) : Type 0 where
  pub is : IsBound course task answer
  pub told : told_by answer ≡ numbered EXHAUSTED answer.key answer.number []
  pub is_near : near answer.key answer.number
  pub at_end : end_of answer.key ≤ answer.number

-- The checks tell the answer, in the state of the epoch that it has. Where the plan is enough for them it has none:
-- the position is 0, or the frame is of a channel.
pub record IsUnbound (course : Course) (task : Record) (answer : Answer) : Type 0 where
  pub reached : answer.position ≤ epoch_after course.entries
  pub told : unbound_told (protect_reply course.begin.plan (state_in course answer.position) task.link task.octets)
      ≡ Some (told_by answer)
  pub epoch_looked_at : (answer.position ≡ 0) ⊎ ((channel : ℕ)
      × (channel_check course.begin.plan task.link task.octets ≡ Ok (Some channel)))

-- ---- frames opened, and commands

-- the answer names the place of this entry, behind it
pub record StandsAt (course : Course) (answer : Answer) (entry : Entry) : Type 0 where
  pub least : 1 ≤ answer.position
  pub there : slice_get course.entries (answer.position - 1) ≡ Some entry

-- the state before it
abbrev pub state_before : Course → Answer → State
state_before course answer = state_after course (answer.position - 1)

-- the checks tell the answer, in the state before the record's entry
pub record IsOpenAnswer (course : Course) (task : Record) (answer : Answer) : Type 0 where
  pub reply : OpenReply
  pub field : List ℕ
  pub replies : IsOpenReply course.begin.plan (state_before course answer) task.link task.octets reply field
  pub stands : StandsAt course answer (frame_entry course.begin.plan (state_before course answer) task.index reply)
  pub told : told_by answer ≡ opened_told reply field

-- the step gives the answer, in the state before the record's entry
pub record IsCommandAnswer (course : Course) (task : Record) (answer : Answer) : Type 0 where
  pub seen : Seen
  pub change : Change
  pub reply : Reply
  pub step : IsStepOf (state_before course answer) task.octets seen (change, reply)
  pub stands : StandsAt course answer (record_entry task.index seen change)
  pub told : told_by answer ≡ replied_told reply

-- ---- what a record of any kind but Monitor may be answered

-- the answer has a count of faults that rose since the opening, and the count of all entries
pub record TellsRisenCount (course : Course) (code : ℕ) (answer : Answer) : Type 0 where
  pub told : told_by answer ≡ counting code 0 answer.number
  pub rose : Rose course.faults_before answer.number
  pub counted : answer.number ≤ course.faults
  pub position_is : answer.position ≡ length course.entries

-- The site failed while an entry was stored. That entry is the last of all. It is of this record, or of none, as the
-- reserve of a number that the record drew is.
pub record IsFaulted (near : ℕ → ℕ → Type 0) (course : Course) (task : Record) (answer : Answer) : Type 0 where
  pub tells : TellsRisenCount course SITE_FAULT answer
  pub may : MayAppendOnce near course task
  pub entry : Entry
  pub last : StandsAt course answer entry
  pub own : (entry.index ≡ None) ⊎ (entry.index ≡ Some task.index)

-- the site had failed before
pub record IsStopped (near : ℕ → ℕ → Type 0) (course : Course) (task : Record) (answer : Answer) : Type 0 where
  pub tells : TellsRisenCount course STOPPED answer
  pub may : (task.kind ≢ Protect) ⊎ MayAppendOnce near course task

-- memory ran out
pub record IsWanting (answer : Answer) : Type 0 where
  pub told : told_by answer ≡ plain NO_MEMORY 0
  pub position_is : answer.position ≡ 0

-- A monitoring message has a reply or a fault (`Reports` says which). The answer counts all entries that there are
-- then.
pub record IsReport (course : Course) (answer : Answer) : Type 0 where
  pub reached : answer.position ≤ length course.entries
  pub said : Result (List ℕ) ℕ
  pub told : told_by answer ≡ monitored_told said

abbrev pub FitsAny : (ℕ → ℕ → Type 0) → Course → Record → Answer → Type 0
FitsAny near course task answer =
    IsFaulted near course task answer ⊎ (IsStopped near course task answer ⊎ IsWanting answer)

abbrev pub FitsKind : (ℕ → ℕ → Type 0) → Course → Record → Answer → RecordKind → Type 0
FitsKind near course task answer Protect = IsProtected near course task answer
    ⊎ (IsUnbound course task answer ⊎ (IsExhausted near course task answer ⊎ FitsAny near course task answer))
FitsKind near course task answer Open = IsOpenAnswer course task answer ⊎ FitsAny near course task answer
FitsKind near course task answer Command = IsCommandAnswer course task answer ⊎ FitsAny near course task answer
FitsKind near course task answer Monitor = IsReport course answer ⊎ IsWanting answer

-- The answer fits its record. Near says which numbers may have been seen of a key.
abbrev pub Fits : (ℕ → ℕ → Type 0) → Course → Record → Answer → Type 0
Fits near course task answer = FitsKind near course task answer task.kind
