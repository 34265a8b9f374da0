-- What stands next in recorded input (profile).
use Rattle.std.specs.Prelude.{◌≡◌, ◌≢◌, ⊤, ℕ, ◌++◌, [], List}
use Rattle.record_io.specs.Input.{IsItem, Item, LacksItem, item_octets}
use Rattle.record_io.specs.declared.item_cursor.FoundItem.{FoundItem}
use Rattle.record_io.specs.declared.item_cursor.NextItem.{NextItem}
use Rattle.record_io.specs.declared.item_cursor.NextItem.TheVariants as nexts

abbrev pub item_found : FoundItem → Item
item_found found = record { kind = found.kind; lane = found.lane; link = found.link; octets = found.octets }

-- what stood at the front: an item, which was taken; nothing; or no whole item
unfoldable pub StandsItem : List ℕ → List ℕ → NextItem → Type 0
StandsItem old new (nexts.Item found) = (old ≡ item_octets (item_found found) ++ new) × IsItem (item_found found)
StandsItem old new nexts.End = old ≡ []
StandsItem old new nexts.NoItem = (old ≢ []) × LacksItem old
StandsItem old new nexts.SourceFault = ⊤

-- where the source failed this holds
abbrev pub IfItemFault : Type 0 → NextItem → Type 0
IfItemFault P (nexts.Item found) = ⊤
IfItemFault P nexts.End = ⊤
IfItemFault P nexts.NoItem = ⊤
IfItemFault P nexts.SourceFault = P
