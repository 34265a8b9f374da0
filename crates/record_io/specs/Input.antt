-- The recorded input of `run` (profile): a beginning, then items to the end. An item is a fence or a record.
use Rattle.std.specs.Prelude.{◌≡◌, ◌≢◌, ℕ, ◌-◌, ◌^◌, ◌<◌, ◌≤◌, ◌⊎◌, List, [], ◌∷◌, ◌++◌, length, take, codes}
use Rattle.std.specs.List.{All}
use Rattle.std.specs.Int.{w16, to_be_bytes}
use Rattle.record_io.specs.declared.reader.RecordKind.TheVariants.{Protect, Open, Command, Monitor}
use Rattle.record_io.specs.declared.reader.ItemKind.{ItemKind}
use Rattle.record_io.specs.declared.reader.ItemKind.TheVariants.{Fence, Recorded}
use Rattle.record_io.specs.declared.reader.TheConstants.{LANES, LEAST_MONITOR_OCTETS, MOST_RECORD_OCTETS}

pub record Item : Type 0 where
  pub kind : ItemKind
  pub lane : ℕ
  pub link : ℕ
  pub octets : List ℕ

-- the octet that says the kind
abbrev pub kind_octet : ItemKind → ℕ
kind_octet Fence = 0
kind_octet (Recorded Protect) = 1
kind_octet (Recorded Open) = 2
kind_octet (Recorded Command) = 3
kind_octet (Recorded Monitor) = 4

-- kind, lane, link and zero, an octet each, and the length of the octets in 2 octets
abbrev pub item_header : Item → List ℕ
item_header item = kind_octet item.kind ∷ item.lane ∷ item.link ∷ 0 ∷ to_be_bytes w16 (length item.octets)

abbrev pub item_octets : Item → List ℕ
item_octets item = item_header item ++ item.octets

-- a fence has no octets
abbrev pub most_octets : ItemKind → ℕ
most_octets Fence = 0
most_octets (Recorded kind) = MOST_RECORD_OCTETS

-- a Monitor record has a few at least
abbrev pub least_octets : ItemKind → ℕ
least_octets Fence = 0
least_octets (Recorded Protect) = 0
least_octets (Recorded Open) = 0
least_octets (Recorded Command) = 0
least_octets (Recorded Monitor) = LEAST_MONITOR_OCTETS

-- the lane is one of so many; of a Monitor record it is any octet
abbrev pub lanes_of : ItemKind → ℕ
lanes_of Fence = LANES
lanes_of (Recorded Protect) = LANES
lanes_of (Recorded Open) = LANES
lanes_of (Recorded Command) = LANES
lanes_of (Recorded Monitor) = 2 ^ 8

pub record IsItem (item : Item) : Type 0 where
  pub lane : item.lane < lanes_of item.kind
  pub long : least_octets item.kind ≤ length item.octets
  pub short : length item.octets ≤ most_octets item.kind

-- the octets of items, one after the other
abbrev pub items_octets : List Item → List ℕ
items_octets [] = []
items_octets (item ∷ items) = item_octets item ++ items_octets items

abbrev pub beginning : List ℕ
beginning = codes "SDLSREC1"

-- no item stands whole at the front
abbrev pub LacksItem : List ℕ → Type 0
LacksItem octets = (item : Item) (rest : List ℕ) → IsItem item → octets ≢ item_octets item ++ rest

abbrev pub LacksBeginning : List ℕ → Type 0
LacksBeginning octets = (rest : List ℕ) → octets ≢ beginning ++ rest

-- the octets are none of the input, or the beginning and these items
abbrev pub AreRead : List ℕ → List Item → Type 0
AreRead octets items = ((octets ≡ []) × (items ≡ [])) ⊎ (octets ≡ beginning ++ items_octets items)

-- what is due behind the octets read, the beginning or an item, does not stand whole at the front of these
abbrev pub LacksNext : List ℕ → List ℕ → Type 0
LacksNext [] octets = LacksBeginning octets
LacksNext (octet ∷ read) octets = LacksItem octets

-- So many octets of an input are looked at: there it counts as ended.
abbrev pub MOST_OCTETS : ℕ
MOST_OCTETS = 2 ^ 64 - 1

-- how an input ends: behind whole items, or malformed at the offset of an item's first octet
pub data InputEnd : Type 0 where
  Whole : InputEnd
  MalformedAt : (offset : ℕ) → InputEnd

-- what is so of the octets read and of the rest behind them
abbrev pub EndsAs : List ℕ → List ℕ → InputEnd → Type 0
EndsAs read rest Whole = (read ≢ []) × (rest ≡ [])
EndsAs read rest (MalformedAt offset) = (offset ≡ length read) × LacksNext read rest × (read ≢ [] → rest ≢ [])

-- The items of an input, one after the other, and how it ends. An input without the beginning has no items, and is
-- malformed at offset 0.
pub record IsInput (input : List ℕ) (items : List Item) (end : InputEnd) : Type 0 where
  pub items_are : All IsItem items
  pub read : List ℕ
  pub rest : List ℕ
  pub read_are : AreRead read items
  pub spelled : take MOST_OCTETS input ≡ read ++ rest
  pub ends : EndsAs read rest end
