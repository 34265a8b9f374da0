-- What a segment says of the whole input (profile).
use Rattle.std.specs.Prelude.{◌≡◌, ⊤, ℕ, ◌+◌, ◌≤◌, Bool, IsTrue, List, [], ◌∷◌, ◌++◌, length}
use Rattle.std.specs.List.{All}
use Rattle.sdls_outside.specs.Faults.{Rose}
use Rattle.record_io.specs.declared.item_cursor.Record.{Record}
use Rattle.record_io.specs.declared.item_cursor.SegmentEnd.{SegmentEnd}
use Rattle.record_io.specs.declared.item_cursor.SegmentEnd.TheVariants.{More, End, Malformed, SourceFault}
use Rattle.record_io.specs.declared.item_cursor.SegmentEnd.TheVariants as ends
use Rattle.record_io.specs.declared.reader.ItemKind.TheVariants.{Recorded}
use Rattle.record_io.specs.declared.reader.RecordKind.TheVariants.{Monitor}
use Rattle.record_io.specs.Input.{Item, IsItem, AreRead, LacksNext, MOST_OCTETS, IsInput, Whole, MalformedAt}
use Rattle.record_io.specs.Places.{first_count, counted, places_from, records_of}

-- a source: whether clauses know what it has, the octets that it has left, and its count of faults
pub record SourceSeen : Type 0 where
  pub told : Bool
  pub left : List ℕ
  pub faults : ℕ

-- a source of some type, by what the type says of it
abbrev pub source_seen : {S : Type 0} → Bool → (S → List ℕ) → (S → ℕ) → S → SourceSeen
source_seen told left faults source = record { told = told; left = left source; faults = faults source }

-- how far a reader has come: how many octets it took, and how many records it read
pub record Standing : Type 0 where
  pub taken : ℕ
  pub records : ℕ

abbrev pub first_standing : Standing
first_standing = record { taken = 0; records = 0 }

-- What was taken from the start on: the beginning, these items, and a part of what is behind them, in which what is due
-- there does not stand whole.
pub record HasTaken (start now : SourceSeen) (items : List Item) (read part : List ℕ) : Type 0 where
  pub items_are : All IsItem items
  pub read_are : AreRead read items
  pub taken : IsTrue start.told → start.left ≡ read ++ (part ++ now.left)
  pub few : length read + length part ≤ MOST_OCTETS
  pub no_whole : LacksNext read part

-- from the start on these items were read, with the end of a segment, and nothing behind them was taken
pub record IsReading (start now : SourceSeen) (standing : Standing) (items : List Item) (read : List ℕ) : Type 0 where
  pub items_are : All IsItem items
  pub read_are : AreRead read items
  pub told : now.told ≡ start.told
  pub taken : IsTrue start.told → start.left ≡ read ++ now.left
  pub few : length read ≤ MOST_OCTETS
  pub taken_is : standing.taken ≡ length read
  pub records_are : standing.records ≡ (counted first_count items).index
  pub closed : (counted first_count items).inside ≡ 0

-- one more segment was read to its end, behind these items: its records have the number of that segment
pub record ReadsMore (start now : SourceSeen) (standing : Standing) (items : List Item)
    (records : List Record) : Type 0 where
  pub more : List Item
  pub read : List ℕ
  pub reading : IsReading start now standing (items ++ more) read
  pub records_are : records ≡ records_of (places_from (counted first_count items) more)
  pub one_segment : (counted first_count (items ++ more)).segment ≡ (counted first_count items).segment + 1

-- One more segment was read to its end, behind these items, and the Monitor record that ended it.
pub record ReadsMonitor (start now : SourceSeen) (standing : Standing) (items : List Item) (records : List Record)
    (task : Record) : Type 0 where
  pub more : List Item
  pub monitor : Item
  pub read : List ℕ
  pub reading : IsReading start now standing ((items ++ more) ++ monitor ∷ []) read
  pub records_are : records ≡ records_of (places_from (counted first_count items) more)
  pub one_segment : (counted first_count (items ++ more)).segment ≡ (counted first_count items).segment
  pub is_monitor : monitor.kind ≡ Recorded Monitor
  pub task_is : task ∷ [] ≡ records_of (places_from (counted first_count (items ++ more)) (monitor ∷ []))

-- the last records were read behind these items, all of one segment, which was not ended
pub record ReadsLast (start now : SourceSeen) (items : List Item) (records : List Record) : Type 0 where
  pub more : List Item
  pub read : List ℕ
  pub part : List ℕ
  pub takes : HasTaken start now (items ++ more) read part
  pub records_are : records ≡ records_of (places_from (counted first_count items) more)
  pub one_segment : (counted first_count (items ++ more)).segment ≡ (counted first_count items).segment

-- what one more segment says, by its end
abbrev pub ReadsTo : SourceSeen → SourceSeen → Standing → List Item → List Record → SegmentEnd → Type 0
ReadsTo start now standing items records More = ReadsMore start now standing items records
ReadsTo start now standing items records (ends.Monitor task) = ReadsMonitor start now standing items records task
ReadsTo start now standing items records End = (last : ReadsLast start now items records)
    × (last.part ≡ []) × (IsTrue start.told → IsInput start.left (items ++ last.more) Whole)
ReadsTo start now standing items records (Malformed offset) = (last : ReadsLast start now items records)
    × (offset ≡ length last.read) × (IsTrue start.told → IsInput start.left (items ++ last.more) (MalformedAt offset))
ReadsTo start now standing items records (SourceFault count) = ReadsLast start now items records × (count ≡ now.faults)

-- if memory ran out, what was taken: more items, whose records are lost, and a part of another
pub record Loses (start now : SourceSeen) (items : List Item) : Type 0 where
  pub more : List Item
  pub read : List ℕ
  pub part : List ℕ
  pub takes : HasTaken start now (items ++ more) read part

-- A fault of the source comes with its count, and only if that rose. At every other end it stands where it was: a
-- source that failed is not asked again.
abbrev pub HasFaultCause : ℕ → ℕ → SegmentEnd → Type 0
HasFaultCause before now More = now ≡ before
HasFaultCause before now (ends.Monitor task) = now ≡ before
HasFaultCause before now End = now ≡ before
HasFaultCause before now (Malformed offset) = now ≡ before
HasFaultCause before now (SourceFault count) = (count ≡ now) × Rose before now

-- behind this end the input may go on
abbrev pub GoesOn : SegmentEnd → Type 0
GoesOn More = ⊤
GoesOn (ends.Monitor task) = ⊤
GoesOn End = ⊥
GoesOn (Malformed offset) = ⊥
GoesOn (SourceFault count) = ⊥
