-- What one call of a reader takes (profile). Private: the clauses of `next_segment` speak of the whole input.
use Rattle.std.specs.Prelude.{◌≡◌, ◌≢◌, ℕ, ◌+◌, ◌-◌, ◌*◌, ◌<◌, ◌≤◌, ◌⊎◌, ⊤, Bool, IsTrue, ◌==◌, if◌then◌else◌, List, []}
use Rattle.std.specs.Prelude.{◌∷◌, ◌++◌, length, take, map}
use Rattle.std.specs.List.{All}
use Rattle.record_io.specs.declared.reader.ItemKind.TheVariants.{Fence, Recorded}
use Rattle.record_io.specs.declared.reader.RecordKind.TheVariants.{Monitor}
use Rattle.record_io.specs.declared.item_cursor.Record.{Record}
use Rattle.record_io.specs.declared.item_cursor.SegmentEnd.{SegmentEnd}
use Rattle.record_io.specs.declared.item_cursor.SegmentEnd.TheVariants.{More, End, Malformed, SourceFault}
use Rattle.record_io.specs.declared.item_cursor.SegmentEnd.TheVariants as ends
use Rattle.record_io.specs.declared.reader.Read.{Read}
use Rattle.record_io.specs.declared.reader.Read.TheVariants as reads
use Rattle.record_io.specs.declared.reader.TheConstants.{SEGMENT_RECORDS}
use Rattle.record_io.specs.Input.{Item, IsItem, item_octets}
use Rattle.record_io.specs.Input.{items_octets}
use Rattle.record_io.specs.Input.{beginning, LacksItem, LacksBeginning, MOST_OCTETS}
use Rattle.record_io.specs.Reading.{Standing, HasFaultCause}

-- of what is left, the octets that still count
abbrev pub still_counted : ℕ → List ℕ → List ℕ
still_counted taken left = take (MOST_OCTETS - taken) left

-- these octets, and no more, were taken
pub record Moves (told : Bool) (octets : List ℕ) (taken taken_new : ℕ) (left_old left_new : List ℕ) : Type 0 where
  pub counted : taken_new ≡ taken + length octets
  pub moved : IsTrue told → left_old ≡ octets ++ left_new

-- some octets were taken, fewer than so many and no more than count
pub record TakesTooFew (told : Bool) (most taken : ℕ) (left_old left_new : List ℕ) : Type 0 where
  pub part : List ℕ
  pub moved : IsTrue told → left_old ≡ part ++ left_new
  pub few : length part < most
  pub within : taken + length part ≤ MOST_OCTETS

-- the items were read, and a part of what is behind them was taken, in which no item stands whole
pub record Took (told : Bool) (items : List Item) (part : List ℕ) (taken : ℕ)
    (left_old left_new : List ℕ) : Type 0 where
  pub items_are : All IsItem items
  pub moved : IsTrue told → left_old ≡ items_octets items ++ (part ++ left_new)
  pub within : taken + (length (items_octets items) + length part) ≤ MOST_OCTETS
  pub no_whole : LacksItem part

-- the item of a record
abbrev pub item_of : Record → Item
item_of r = record { kind = Recorded r.kind; lane = r.lane; link = r.link; octets = r.octets }

abbrev pub items_of : List Record → List Item
items_of records = map item_of records

-- the records are numbered from n on
abbrev pub AreNumbered : ℕ → List Record → Type 0
AreNumbered n [] = ⊤
AreNumbered n (r ∷ records) = (r.index ≡ n) × AreNumbered (n + 1) records

-- what ends a segment behind so many records: a fence, or nothing where they are 1,024
abbrev pub ClosesSegment : ℕ → List Item → Type 0
ClosesSegment count close =
    ((count < SEGMENT_RECORDS) × (fence : Item) × (fence.kind ≡ Fence) × (close ≡ fence ∷ []))
    ⊎ ((count ≡ SEGMENT_RECORDS) × (close ≡ []))

-- the items were read, and those that close the segment
pub record ReadsOn (told : Bool) (count : ℕ) (items : List Item) (taken taken_new : ℕ)
    (left_old left_new : List ℕ) : Type 0 where
  pub close : List Item
  pub closes : ClosesSegment count close
  pub took : Took told (items ++ close) [] taken left_old left_new
  pub counted : taken_new ≡ taken + length (items_octets (items ++ close))

-- the items were read, and the Monitor record that closes the segment
pub record ReadsTask (told : Bool) (items : List Item) (taken taken_new : ℕ) (left_old left_new : List ℕ)
    (task : Record) : Type 0 where
  pub is_monitor : task.kind ≡ Monitor
  pub took : Took told (items ++ item_of task ∷ []) [] taken left_old left_new
  pub counted : taken_new ≡ taken + length (items_octets (items ++ item_of task ∷ []))

-- the items were read, and what is behind them is no item
pub record Breaks (told : Bool) (items : List Item) (taken : ℕ) (left_old left_new : List ℕ) (offset : ℕ) : Type 0 where
  pub part : List ℕ
  pub took : Took told items part taken left_old left_new
  pub offset_is : offset ≡ taken + length (items_octets items)
  pub some : IsTrue told → part ++ still_counted (offset + length part) left_new ≢ []
  pub malformed : IsTrue told → LacksItem (part ++ still_counted (offset + length part) left_new)

-- what is so behind the records of a segment, by the end that is answered
abbrev pub EndsBehind : Bool → ℕ → List Item → ℕ → ℕ → List ℕ → List ℕ → SegmentEnd → Type 0
EndsBehind told count items taken taken_new left_old left_new More = ReadsOn told count items taken taken_new left_old
    left_new
EndsBehind told count items taken taken_new left_old left_new (ends.Monitor task) = (count < SEGMENT_RECORDS)
    × ReadsTask told items taken taken_new left_old left_new task
EndsBehind told count items taken taken_new left_old left_new End = (count < SEGMENT_RECORDS)
    × Took told items [] taken left_old left_new
    × (IsTrue told → still_counted (taken + length (items_octets items)) left_new ≡ [])
EndsBehind told count items taken taken_new left_old left_new (Malformed offset) =
    (count < SEGMENT_RECORDS) × Breaks told items taken left_old left_new offset
EndsBehind told count items taken taken_new left_old left_new (SourceFault faults) =
    (count < SEGMENT_RECORDS) × ((part : List ℕ) × Took told items part taken left_old left_new)

-- what stands next ends the segment; it is no Monitor record, which is read as a record
abbrev pub EndsNext : Bool → ℕ → ℕ → List ℕ → List ℕ → SegmentEnd → Type 0
EndsNext told taken taken_new left_old left_new More = EndsBehind told 0 [] taken taken_new left_old left_new More
EndsNext told taken taken_new left_old left_new (ends.Monitor task) = ⊥
EndsNext told taken taken_new left_old left_new End = EndsBehind told 0 [] taken taken_new left_old left_new End
EndsNext told taken taken_new left_old left_new (Malformed offset) =
    EndsBehind told 0 [] taken taken_new left_old left_new (Malformed offset)
EndsNext told taken taken_new left_old left_new (SourceFault faults) =
    EndsBehind told 0 [] taken taken_new left_old left_new (SourceFault faults)

-- a record was read with its octets, or what stands next ends the segment
abbrev pub ReadsItem : Bool → ℕ → ℕ → List ℕ → List ℕ → Read → Type 0
ReadsItem told taken taken_new left_old left_new (reads.Next kind lane link octets) =
    let item : Item = record { kind = Recorded kind; lane = lane; link = link; octets = octets } in
    Took told (item ∷ []) [] taken left_old left_new × (taken_new ≡ taken + length (item_octets item))
ReadsItem told taken taken_new left_old left_new (reads.Ends end) = EndsNext told taken taken_new left_old left_new end

-- if memory ran out: some items were read, and a part of another was taken
abbrev pub Wants : Bool → ℕ → List ℕ → List ℕ → Type 0
Wants told taken left_old left_new = (items : List Item) × (part : List ℕ)
    × Took told items part taken left_old left_new

-- a fault that was read has its cause, and a record comes only if the source did not fail
abbrev pub IsFaultRead : ℕ → ℕ → Read → Type 0
IsFaultRead before now (reads.Next kind lane link octets) = now ≡ before
IsFaultRead before now (reads.Ends end) = HasFaultCause before now end

-- the count of records stays, and where a record was read there are octets enough for one more
abbrev pub CountsRecords : Standing → Standing → Read → Type 0
CountsRecords old new (reads.Next kind lane link octets) = (new.records ≡ old.records)
    × (6 * (new.records + 1) ≤ new.taken)
CountsRecords old new (reads.Ends end) = new.records ≡ old.records

-- the Monitor record that ends a segment, if one does
abbrev pub task_at : SegmentEnd → List Record
task_at More = []
task_at (ends.Monitor task) = task ∷ []
task_at End = []
task_at (Malformed offset) = []
task_at (SourceFault count) = []

-- The records of a segment, none of them a Monitor record, and what ends it, numbered on.
pub record Segment (told : Bool) (old new : Standing) (left_old left_new : List ℕ) (records : List Record)
    (end : SegmentEnd) : Type 0 where
  pub plain : All (λ (r : Record). r.kind ≢ Monitor) records
  pub numbered : AreNumbered old.records (records ++ task_at end)
  pub counted : new.records ≡ old.records + length (records ++ task_at end)
  pub ends : EndsBehind told (length records) (items_of records) old.taken new.taken left_old left_new end

-- what is due before the next item: the beginning, where nothing was taken
abbrev pub due_beginning : ℕ → List ℕ
due_beginning taken = if taken == 0 then beginning else []

-- nothing was read, and a part of the input was taken that is not the beginning
pub record Misses (told : Bool) (part : List ℕ) (taken : ℕ) (left_old left_new : List ℕ) : Type 0 where
  pub at_start : taken ≡ 0
  pub moved : IsTrue told → left_old ≡ part ++ left_new
  pub within : length part ≤ MOST_OCTETS
  pub no_beginning : LacksBeginning part

-- what is so where the beginning was not read, by the end that is answered
abbrev pub EndsBefore : Bool → ℕ → List ℕ → List ℕ → SegmentEnd → Type 0
EndsBefore told taken left_old left_new More = ⊥
EndsBefore told taken left_old left_new (ends.Monitor task) = ⊥
EndsBefore told taken left_old left_new End = ⊥
EndsBefore told taken left_old left_new (Malformed offset) = (offset ≡ 0)
    × ((part : List ℕ) × Misses told part taken left_old left_new
    × (IsTrue told → LacksBeginning (part ++ still_counted (length part) left_new)))
EndsBefore told taken left_old left_new (SourceFault faults) = (part : List ℕ)
    × Misses told part taken left_old left_new
