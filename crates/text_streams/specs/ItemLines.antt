-- The lines that are printed of the items of recorded input (profile).
use Rattle.std.specs.Prelude.{◌≡◌, ◌≢◌, ⊤, ℕ, ◌+◌, ◌-◌, ◌^◌, ◌++◌, ◌⊎◌, [], ◌∷◌, min, List, length, map}
use Rattle.std.specs.Prelude.{Option, Some, None}
use Rattle.std.specs.List.{AllByRecursion}
use Rattle.sdls_outside.specs.Moments.{Between}
use Rattle.record_io.specs.Input.{IsItem, Item, LacksBeginning, LacksItem, beginning, item_octets, items_octets}
use Rattle.text_streams.specs.Spelling.{Spells, SpellsAll, seen_item}
use Rattle.text_streams.specs.declared.ends.End.{End}
use Rattle.text_streams.specs.declared.ends.End.TheVariants.{Done, LineFault, LongLine, CutAnswer, NoAnswer, NoItem}
use Rattle.text_streams.specs.declared.ends.End.TheVariants.{SourceFault, OutputFault, NoMemory}
use Rattle.text_streams.specs.TextLine.{WasPut}

-- offsets stay where they come to 2^64 - 1
abbrev pub counted : ℕ → Item → ℕ
counted offset item = min (offset + length (item_octets item)) (2 ^ 64 - 1)

-- how many octets stand before the next item, behind these
abbrev pub offset_behind : ℕ → List Item → ℕ
offset_behind offset [] = offset
offset_behind offset (item ∷ items) = offset_behind (counted offset item) items

-- Why recorded input has no beginning: another stands there, or the source failed.
abbrev pub LacksBegun : List ℕ → End → Type 0
LacksBegun left Done = ⊥
LacksBegun left (LineFault at fault) = ⊥
LacksBegun left (LongLine at) = ⊥
LacksBegun left (CutAnswer at) = ⊥
LacksBegun left (NoAnswer at) = ⊥
LacksBegun left (NoItem at) = (at ≡ 0) × LacksBeginning left
LacksBegun left SourceFault = ⊤
LacksBegun left OutputFault = ⊥
LacksBegun left NoMemory = ⊥

-- the beginning was taken, or it is not there
abbrev pub TakesBeginning : List ℕ → List ℕ → Option End → Type 0
TakesBeginning left left_new None = left ≡ beginning ++ left_new
TakesBeginning left left_new (Some end) = LacksBegun left end

-- the next item was taken, and its line is this
pub record TakesItem (offset offset_new : ℕ) (left left_new line : List ℕ) : Type 0 where
  pub item : Item
  pub is_item : IsItem item
  pub taken : left ≡ item_octets item ++ left_new
  pub spells : Spells (seen_item item) line
  pub passed : offset_new ≡ counted offset item

-- the next item was taken, and its line put
abbrev pub PutsItem : ℕ → ℕ → List ℕ → List ℕ → List ℕ → List ℕ → Type 0
PutsItem offset offset_new left left_new old new = (line : List ℕ) × TakesItem offset offset_new left left_new line
    × (new ≡ old ++ line)

-- the next item was taken, and of its line a front was put; or no line follows: nothing is left, or what is left
-- begins with no item, whose offset is told
abbrev pub FailsNextItem : ℕ → List ℕ → List ℕ → List ℕ → End → Type 0
FailsNextItem offset left old new Done = (left ≡ []) × (new ≡ old)
FailsNextItem offset left old new (LineFault at fault) = ⊥
FailsNextItem offset left old new (LongLine at) = ⊥
FailsNextItem offset left old new (CutAnswer at) = ⊥
FailsNextItem offset left old new (NoAnswer at) = ⊥
FailsNextItem offset left old new (NoItem at) = (at ≡ offset) × (left ≢ []) × LacksItem left × (new ≡ old)
FailsNextItem offset left old new SourceFault = new ≡ old
FailsNextItem offset left old new OutputFault = (offset_new : ℕ) × (left_new line : List ℕ)
    × TakesItem offset offset_new left left_new line × Between old (old ++ line) new
FailsNextItem offset left old new NoMemory = new ≡ old

-- So many items are read: there they count as ended.
abbrev pub MOST_ITEMS : ℕ
MOST_ITEMS = 2 ^ 64 - 1

-- Why no line follows behind so many items, before whose next one so many octets stand
abbrev pub EndsBehindItems : ℕ → ℕ → List ℕ → End → Type 0
EndsBehindItems count offset left Done = (left ≡ []) ⊎ (count ≡ MOST_ITEMS)
EndsBehindItems count offset left (LineFault at fault) = ⊥
EndsBehindItems count offset left (LongLine at) = ⊥
EndsBehindItems count offset left (CutAnswer at) = ⊥
EndsBehindItems count offset left (NoAnswer at) = ⊥
EndsBehindItems count offset left (NoItem at) = (at ≡ offset) × (left ≢ []) × LacksItem left
EndsBehindItems count offset left SourceFault = ⊤
EndsBehindItems count offset left OutputFault = ⊤
EndsBehindItems count offset left NoMemory = ⊤

-- Behind the beginning, the text that was put is the lines of the items, in their order, up to the end of the octets,
-- or to the first that are no item, whose offset is told; if the output failed, a front of these lines was put.
pub record PutsItemLines (left old new : List ℕ) (end : End) : Type 0 where
  pub items : List Item
  pub are_items : AllByRecursion IsItem items
  pub left_new : List ℕ
  pub taken : left ≡ beginning ++ (items_octets items ++ left_new)
  pub text : List ℕ
  pub lines : SpellsAll (map seen_item items) text
  pub ends : EndsBehindItems (length items) (offset_behind 8 items) left_new end
  pub put_is : WasPut end text old new

-- The lines of the items were put; or there is no beginning, and nothing was put.
abbrev pub PutsLines : List ℕ → List ℕ → List ℕ → End → Type 0
PutsLines left old new end = PutsItemLines left old new end ⊎ (LacksBegun left end × (new ≡ old))
