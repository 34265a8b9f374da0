-- Numbers and segments of the records of an input (profile).
use Rattle.std.specs.Prelude.{ℕ, ◌+◌, ◌==◌, if◌then◌else◌, List, [], ◌∷◌, ◌++◌, map}
use Rattle.record_io.specs.declared.reader.ItemKind.{ItemKind}
use Rattle.record_io.specs.declared.reader.RecordKind.{RecordKind}
use Rattle.record_io.specs.declared.reader.RecordKind.TheVariants.{Protect, Open, Command, Monitor}
use Rattle.record_io.specs.declared.reader.ItemKind.TheVariants.{Fence, Recorded}
use Rattle.record_io.specs.declared.item_cursor.Record.{Record}
use Rattle.record_io.specs.declared.reader.TheConstants.{SEGMENT_RECORDS}
use Rattle.record_io.specs.Input.{Item}

-- a record of the input, and the number of its segment
pub record Place : Type 0 where
  pub task : Record
  pub segment : ℕ

-- how many records there were, how many segments have ended, and how many records of the segment that is on there were
pub record Count : Type 0 where
  pub index : ℕ
  pub segment : ℕ
  pub inside : ℕ

abbrev pub first_count : Count
first_count = record { index = 0; segment = 0; inside = 0 }

-- behind a record: its segment ends where it is the 1,024th
abbrev pub behind_record : Count → Count
behind_record c = if c.inside + 1 == SEGMENT_RECORDS then
    record { index = c.index + 1; segment = c.segment + 1; inside = 0 }
    else record { index = c.index + 1; segment = c.segment; inside = c.inside + 1 }

-- Behind an item: a fence ends a segment. A Monitor record ends the one that is on, and then the one of its own.
abbrev pub behind : Count → ItemKind → Count
behind c Fence = record { index = c.index; segment = c.segment + 1; inside = 0 }
behind c (Recorded Protect) = behind_record c
behind c (Recorded Open) = behind_record c
behind c (Recorded Command) = behind_record c
behind c (Recorded Monitor) = record { index = c.index + 1; segment = c.segment + 2; inside = 0 }

abbrev pub counted : Count → List Item → Count
counted c [] = c
counted c (item ∷ items) = counted (behind c item.kind) items

-- the segment of a record: the one that is on; of a Monitor record the next, where it is alone
abbrev pub segment_of : Count → RecordKind → ℕ
segment_of c Protect = c.segment
segment_of c Open = c.segment
segment_of c Command = c.segment
segment_of c Monitor = c.segment + 1

-- the record of an item of this kind; a fence is none
abbrev pub places_at : Count → Item → ItemKind → List Place
places_at c item Fence = []
places_at c item (Recorded kind) = record {
  task = record { index = c.index; kind = kind; lane = item.lane; link = item.link; octets = item.octets };
  segment = segment_of c kind;
} ∷ []

-- the records of items, with their numbers and segments
abbrev pub places_from : Count → List Item → List Place
places_from c [] = []
places_from c (item ∷ items) = places_at c item item.kind ++ places_from (behind c item.kind) items

abbrev pub places_of : List Item → List Place
places_of items = places_from first_count items

abbrev pub records_of : List Place → List Record
records_of places = map (λ place. place.task) places
