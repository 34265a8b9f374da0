-- A record with its answer, and the order in which the answers of a run stand (profile).
use Rattle.std.specs.Prelude.{◌≡◌, ◌≢◌, ◌⊎◌, ℕ, ◌-◌, ◌<◌, ◌≤◌, ◌&&◌, ◌||◌, nat_le, Bool, IsTrue, true, false}
use Rattle.std.specs.Prelude.{if◌then◌else◌, List, take}
use Rattle.sdls_base.specs.declared.entry.Entry.{Entry}
use Rattle.unit_state.specs.History.{epoch_after}
use Rattle.frame_checks.specs.ProtectingFrames.{has_channel}
use Rattle.record_io.specs.declared.item_cursor.Record.{Record}
use Rattle.record_io.specs.declared.answers.Answer.{Answer}
use Rattle.record_io.specs.declared.reader.RecordKind.{RecordKind}
use Rattle.record_io.specs.declared.reader.RecordKind.TheVariants.{Protect, Open, Command, Monitor}
use Rattle.record_io.specs.declared.code.TheConstants.{PROTECTED, ACCEPTED, MONITOR_FAULT, NUMBER, EXHAUSTED}
use Rattle.record_io.specs.declared.code.TheConstants.{SITE_FAULT}
use Rattle.run_promise.specs.Answers.{SaysSiteFailed}
use Rattle.run_promise.specs.Call.{Begin}

-- an answered record, and the number of its segment
pub record Deed : Type 0 where
  pub task : Record
  pub segment : ℕ
  pub answer : Answer

abbrev pub deed_of : ℕ → Record → Answer → Deed
deed_of segment task answer = record { task = task; segment = segment; answer = answer }

abbrev pub is_protected : RecordKind → Bool
is_protected Protect = true
is_protected Open = false
is_protected Command = false
is_protected Monitor = false

-- an entry is made of a record of this kind
abbrev pub is_entered : RecordKind → Bool
is_entered Protect = false
is_entered Open = true
is_entered Command = true
is_entered Monitor = false

abbrev pub is_monitored : RecordKind → Bool
is_monitored Protect = false
is_monitored Open = false
is_monitored Command = false
is_monitored Monitor = true

-- the position is that of an entry: the answer is of an Open or a Command, with a code from ACCEPTED to NUMBER
abbrev pub tells_entry : Deed → Bool
tells_entry deed = is_entered deed.task.kind &&
    (nat_le ACCEPTED deed.answer.code && nat_le deed.answer.code NUMBER)

-- the position is a count of entries: the answer is of a Monitor that was not out of memory
abbrev pub tells_count : Deed → Bool
tells_count deed = is_monitored deed.task.kind && nat_le deed.answer.code MONITOR_FAULT

-- the position is an epoch: the answer is of a Protect, comes from its checks behind the channel, and has a code up to
-- EXHAUSTED
abbrev pub tells_epoch : Begin → Deed → Bool
tells_epoch begin deed =
    is_protected deed.task.kind && (has_channel begin.plan deed.task.link deed.task.octets && nat_le deed.answer.code
    EXHAUSTED)

-- the epoch that an ordered answer has
abbrev pub epoch_told : List Entry → Deed → ℕ
epoch_told history deed = if is_protected deed.task.kind then deed.answer.position else epoch_after
    (take deed.answer.position history)

abbrev pub is_ordered : Begin → Deed → Bool
is_ordered begin deed = tells_entry deed || tells_epoch begin deed

-- The later answer stands behind the earlier one: its entry, or the entries that it counts, its epoch, its number. A
-- frame that is protected first is answered by a state from before the entry of the later one. Behind an answer that
-- says
-- that the site failed no entry is made, and none fails: a count has all there are, and one that was told before a
-- failed
-- one is less.
pub record StandsBehind (begin : Begin) (history : List Entry) (one other : Deed) : Type 0 where
  pub entries : IsTrue (tells_entry one) → IsTrue (tells_entry other) → one.answer.position < other.answer.position
  pub counted : IsTrue (tells_entry one) → IsTrue (tells_count other) → one.answer.position ≤ other.answer.position
  pub counted_before : IsTrue (tells_count one) → IsTrue (tells_entry other)
      → one.answer.position < other.answer.position
  pub counts : IsTrue (tells_count one) → IsTrue (tells_count other) → one.answer.position ≤ other.answer.position
  pub stopped : SaysSiteFailed one.answer → IsTrue (tells_count other) → one.answer.position ≡ other.answer.position
  pub failed : IsTrue (tells_count one) → other.answer.code ≡ SITE_FAULT → one.answer.position < other.answer.position
  pub ended : SaysSiteFailed one.answer → (¬ IsTrue (tells_entry other)) × (other.answer.code ≢ SITE_FAULT)
  pub epochs : IsTrue (is_ordered begin one) → IsTrue (is_ordered begin other)
      → epoch_told history one ≤ epoch_told history other
  pub epochs_before : IsTrue (tells_epoch begin one) → IsTrue (tells_entry other)
      → one.answer.position ≤ epoch_after (take (other.answer.position - 1) history)
  pub numbers : (one.task.lane ≡ other.task.lane) → one.answer.code ≡ PROTECTED → other.answer.code ≡ PROTECTED
      → IsTrue (is_protected one.task.kind)
      → IsTrue (is_protected other.task.kind) → one.answer.key ≡ other.answer.key
      → one.answer.number < other.answer.number

-- two records are handled in their order: they are of one lane, or of different segments
abbrev pub InTurn : Deed → Deed → Type 0
InTurn one other = (one.task.lane ≡ other.task.lane) ⊎ (one.segment ≢ other.segment)

-- two answers that use, or accept, a number under a key differ in key or number
abbrev pub Differ : (Answer → ℕ → ℕ → Type 0) → Deed → Deed → Type 0
Differ P one other = (key number : ℕ) → P one.answer key number → ¬ P other.answer key number
