-- The history of a run: its entries, and when it is legal (CCSDS 355.0-B-2, ProcessSecurity; 355.1-B-1, procedures;
-- numbers and order profile).
use Rattle.std.specs.Prelude.{◌≡◌, ℕ, ◌+◌, ◌-◌, min, nat_lt, if◌then◌else◌, ◌⊎◌, List, Some, ⊤, ◌<◌, ◌≤◌, take}
use Rattle.std.specs.Prelude.{slice_get, Contains, Option, None, IsSome, Bool, true, false, [], ◌∷◌, ◌≢◌, length}
use Rattle.sdls_base.specs.KeyId.{end_of}
use Rattle.sdls_base.specs.declared.entry.Change.{Change}
use Rattle.sdls_base.specs.declared.entry.Entry.{Entry}
use Rattle.sdls_base.specs.declared.entry.Seen.{Seen}
use Rattle.sdls_base.specs.declared.entry.Change.TheVariants.{Accepted}
use Rattle.sdls_base.specs.declared.entry.Change.TheVariants as changes
use Rattle.sdls_base.specs.declared.entry.Seen.TheVariants as seens
use Rattle.unit_plan.specs.PlanLines.{PlanLines}
use Rattle.unit_plan.specs.PlanRules.{IsPlan}
use Rattle.key_book.specs.declared.key_row.KeyRow.{KeyRow}
use Rattle.unit_state.specs.declared.state.State.{State}
use Rattle.unit_state.specs.State.{key_row, KeepsRules}
use Rattle.unit_state.specs.History.{after_first}
use Rattle.frame_checks.specs.declared.opening_frames.OpenReply.{OpenReply}
use Rattle.frame_checks.specs.OpeningFrames.{IsOpenReply}
use Rattle.frame_checks.specs.declared.opening_frames.OpenReply.TheVariants as opens
use Rattle.ep_codec.specs.declared.command.Command.{Command}
use Rattle.ep_codec.specs.Command.{IsCommandPdu}
use Rattle.ep_codec.specs.MessageFault.{command_fault}
use Rattle.ep_core.specs.declared.judging.Need.{Need}
use Rattle.ep_core.specs.declared.refusal.Reply.{Reply}
use Rattle.ep_core.specs.Need.{need_of}
use Rattle.ep_core.specs.Step.{IsStep, refused}
use Rattle.ep_core.specs.Seen.{MeetsNeed}
use Rattle.ep_core.specs.declared.judging.Need.TheVariants as needs
use Rattle.ep_core.specs.declared.refusal.Refusal.TheVariants as refusals
use Rattle.record_io.specs.declared.item_cursor.Record.{Record}
use Rattle.record_io.specs.declared.reader.RecordKind.{RecordKind}
use Rattle.record_io.specs.Places.{Place, records_of}
use Rattle.record_io.specs.declared.reader.RecordKind.TheVariants as kinds
use Rattle.run_promise.specs.Numbers.{floor_of, mark_of, reserve_of, release_of}

-- ---- the entries that frames and commands make

-- The floor of a key once a number was accepted: where the number is above it, the lesser of number plus `accept` less
-- 1 and the last number below the key's end.
abbrev pub raised_floor : PlanLines → State → ℕ → ℕ → ℕ
raised_floor plan state key number =
    if nat_lt (floor_of state key) number then min (number + plan.accept - 1) (end_of key - 1) else floor_of state key

-- what a frame changes, by the reply to it
abbrev pub frame_change : PlanLines → State → OpenReply → Change
frame_change plan state (opens.Accepted spi key number from to) = changes.Accepted spi key number
    (raised_floor plan state key number)
frame_change plan state opens.Clear = changes.Nothing
frame_change plan state (opens.Layout number) = changes.Nothing
frame_change plan state opens.Channel = changes.Nothing
frame_change plan state opens.Spi = changes.Nothing
frame_change plan state opens.Direction = changes.Nothing
frame_change plan state (opens.State held) = changes.Nothing
frame_change plan state opens.Coverage = changes.Nothing
frame_change plan state opens.Mac = changes.Nothing
frame_change plan state (opens.Number key number high width) = changes.Nothing

-- the entry of the record with this number
abbrev pub record_entry : ℕ → Seen → Change → Entry
record_entry index seen change = record { index = Some index; seen = seen; change = change }

abbrev pub frame_entry : PlanLines → State → ℕ → OpenReply → Entry
frame_entry plan state index reply = record_entry index seens.Nothing (frame_change plan state reply)

-- the need of a message: that of the command that it spells; octets that spell none need nothing
abbrev pub IsNeedOf : State → List ℕ → Need → Type 0
IsNeedOf state octets need = ((command : Command) × IsCommandPdu command octets × (need ≡ need_of state command))
    ⊎ ((offset : ℕ) × (command_fault octets ≡ Some offset) × (need ≡ needs.Nothing))

-- the step of a message: that of the command that it spells; octets that spell none are refused with their first fault
abbrev pub IsStepOf : State → List ℕ → Seen → Change × Reply → Type 0
IsStepOf state octets seen step = ((command : Command) × IsCommandPdu command octets × IsStep state command seen step)
    ⊎ ((offset : ℕ) × (command_fault octets ≡ Some offset) × (step ≡ refused (refusals.PduFault offset)))

-- ---- when an entry is legal

-- the key whose numbers are to be shown
abbrev pub needed_key : Need → Option ℕ
needed_key needs.Nothing = None
needed_key (needs.Look key) = Some key
needed_key (needs.Raise key number) = Some key
needed_key (needs.Number key) = Some key

-- a word or number that the message's step saw is one of this key
abbrev pub KeyOf : State → List ℕ → ℕ → Type 0
KeyOf state octets key = (need : Need) × IsNeedOf state octets need × (needed_key need ≡ Some key)

-- the message asks, for an association that sends with this key, that the key's numbers go on from this one, and no
-- refusal applies but that it is too low
abbrev pub AsksFor : State → List ℕ → ℕ → ℕ → Type 0
AsksFor state octets key number = IsNeedOf state octets (needs.Raise key number)

-- what was seen is what the message needs
abbrev pub SeesFor : State → List ℕ → Seen → Type 0
SeesFor state octets seen = (need : Need) → IsNeedOf state octets need → MeetsNeed state need seen

-- a word or number that was seen of a key is near: it can have stood in the key's word `next`
abbrev pub SeenNear : (ℕ → ℕ → Type 0) → ℕ → Seen → Type 0
SeenNear near key seens.Nothing = ⊤
SeenNear near key (seens.Word word) = near key word
SeenNear near key (seens.Number number) = near key number
SeenNear near key (seens.Exhausted number) = near key number

-- the entry of a frame that was opened: the reply is that of the checks in the state before it
pub record IsOpening (plan : PlanLines) (state : State) (records : List Record) (entry : Entry) : Type 0 where
  pub task : Record
  pub there : Contains records task
  pub kind_is : task.kind ≡ kinds.Open
  pub reply : OpenReply
  pub field : List ℕ
  pub replies : IsOpenReply plan state task.link task.octets reply field
  pub entry_is : entry ≡ frame_entry plan state task.index reply

-- the entry of a command: the change is that of the step in the state before it, and what was seen is near
pub record IsProcedure (near : ℕ → ℕ → Type 0) (state : State) (records : List Record) (entry : Entry) : Type 0 where
  pub task : Record
  pub there : Contains records task
  pub kind_is : task.kind ≡ kinds.Command
  pub index_is : entry.index ≡ Some task.index
  pub reply : Reply
  pub sees : SeesFor state task.octets entry.seen
  pub step : IsStepOf state task.octets entry.seen (entry.change, reply)
  pub is_near : (key : ℕ) → KeyOf state task.octets key → SeenNear near key entry.seen

-- the entry that reserves a number that was drawn, at or above the mark of its key
pub record IsReserve (near : ℕ → ℕ → Type 0) (plan : PlanLines) (state : State) (entry : Entry) : Type 0 where
  pub key : ℕ
  pub number : ℕ
  pub there : IsSome (key_row state key)
  pub is_near : near key number
  pub unmarked : mark_of state key ≤ number
  pub below : number < end_of key
  pub entry_is : entry ≡ reserve_of plan state key number

-- The entry is one of a record of these, or a reserve. Near says which numbers may have been seen of a key.
abbrev pub IsLegal : (ℕ → ℕ → Type 0) → PlanLines → State → List Record → Entry → Type 0
IsLegal near plan state records entry =
    IsOpening plan state records entry ⊎ (IsProcedure near state records entry ⊎ IsReserve near plan state entry)

-- the entry that releases a key at the end of a run, by the key's word `next`
pub record IsRelease (near : ℕ → ℕ → Type 0) (state : State) (entry : Entry) : Type 0 where
  pub held : KeyRow
  pub word : ℕ
  pub there : key_row state held.id ≡ Some held
  pub is_near : near held.id word
  pub releases : release_of state word held ≡ Some entry

-- ---- records that can draw, and reserves

abbrev pub is_none_index : Option ℕ → Bool
is_none_index None = true
is_none_index (Some index) = false

-- how many of the entries are of no record
abbrev pub reserves_of : List Entry → ℕ
reserves_of [] = 0
reserves_of (entry ∷ entries) = (if is_none_index entry.index then 1 else 0) + reserves_of entries

-- a record of this kind can draw a number
abbrev pub draws : RecordKind → Bool
draws kinds.Protect = true
draws kinds.Open = false
draws kinds.Command = true
draws kinds.Monitor = false

-- how many of the records can
abbrev pub drawers : List Record → ℕ
drawers [] = 0
drawers (task ∷ tasks) = (if draws task.kind then 1 else 0) + drawers tasks

-- ---- the history of a run

-- one of the records asks, in a state of the history, that the key's numbers go on from this one
pub record IsAskedFor (start : State) (entries : List Entry) (records : List Record) (key number : ℕ) : Type 0 where
  pub p : ℕ
  pub within : p ≤ length entries
  pub task : Record
  pub there : Contains records task
  pub kind_is : task.kind ≡ kinds.Command
  pub asks : AsksFor (after_first start entries p) task.octets key number

-- The word can have stood in the key's word `next`: it is no lower than the mark at the start, and no more than one a
-- record that can draw above the mark, or above a number that was asked for.
pub record NearWord (start : State) (entries : List Entry) (records : List Record) (key word : ℕ) : Type 0 where
  pub least : mark_of start key ≤ word
  pub base : ℕ
  pub is_base : (base ≡ mark_of start key) ⊎ IsAskedFor start entries records key base
  pub most : word ≤ base + drawers records

-- two records of these places, by their numbers, are handled in their order: they are of one lane, or of different
-- segments
abbrev pub TurnIn : List Place → ℕ → ℕ → Type 0
TurnIn places i j = (one other : Place) × Contains places one × Contains places other
    × (one.task.index ≡ i) × (other.task.index ≡ j)
    × ((one.task.lane ≡ other.task.lane) ⊎ (one.segment ≢ other.segment))

-- A legal history of a run with these records. The first `ends` entries are of records, or reserves; the others are
-- releases. In turn says which two records, by their numbers, are handled in their order.
pub record LegalRun (plan : PlanLines) (start : State) (records : List Record) (in_turn : ℕ → ℕ → Type 0)
    (entries : List Entry) : Type 0 where
  pub ends : ℕ
  pub within : ends ≤ length entries
  pub each : (p : ℕ) (entry : Entry) → p < ends → slice_get entries p ≡ Some entry
      → IsLegal (NearWord start entries records) plan (after_first start entries p) records entry
  pub releases : (p : ℕ) (entry : Entry) → ends ≤ p → slice_get entries p ≡ Some entry
      → IsRelease (NearWord start entries records) (after_first start entries p) entry
  -- no two entries are of one record
  pub once : (p q : ℕ) (a b : Entry) (index : ℕ) → p < q → slice_get entries p ≡ Some a → slice_get entries q ≡ Some b
      → a.index ≡ Some index → b.index ≡ Some index → ⊥
  -- at most one entry a record, and at most one reserve a record that can draw
  pub few_entries : ends ≤ length records + drawers records
  pub few_reserves : reserves_of (take ends entries) ≤ drawers records
  -- entries of records that are handled in their order stand in it
  pub in_order : (p q i j : ℕ) (a b : Entry) → slice_get entries p ≡ Some a → slice_get entries q ≡ Some b
      → a.index ≡ Some i → b.index ≡ Some j → i < j → in_turn i j → p < q

-- the history of a run that served these places of an input: the plan and the first state keep their rules, and it is
-- legal
pub record IsLegalHistory (plan : PlanLines) (start : State) (places : List Place) (entries : List Entry) : Type 0 where
  pub plan_is : IsPlan plan
  pub rules : KeepsRules start
  pub run : LegalRun plan start (records_of places) (TurnIn places) entries

-- no entry is of the record with this number
abbrev pub HasNoEntry : List Entry → ℕ → Type 0
HasNoEntry entries index = (p : ℕ) (entry : Entry) → slice_get entries p ≡ Some entry → entry.index ≢ Some index

-- the entry at this place accepts the number under the key
pub record AcceptsAt (entries : List Entry) (place key number : ℕ) : Type 0 where
  pub entry : Entry
  pub there : slice_get entries place ≡ Some entry
  pub spi : ℕ
  pub floor : ℕ
  pub change_is : entry.change ≡ Accepted spi key number floor
