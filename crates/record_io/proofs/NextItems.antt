-- One item at the front of a source, for `next_item`.
use Rattle.std.proofs.Common.{◌≡◌, ◌≢◌, ℕ, ◌<◌, ◌++◌, List, [], length, sym, ap, ◌∙◌, arith, append_assoc}
use Rattle.std.proofs.Common.{length-append}
use Rattle.record_io.specs.Heads.{IsHead, IsNoHead}
use Rattle.record_io.specs.Input.{IsItem, Item, LacksItem, item_octets}
use Rattle.record_io.specs.NextItem.{StandsItem, item_found}
use Rattle.record_io.specs.declared.reader.ItemHead.{ItemHead}
use Rattle.record_io.specs.declared.item_cursor.FoundItem.{FoundItem}
use Rattle.record_io.specs.declared.item_cursor.NextItem.{NextItem}
use Rattle.record_io.specs.declared.item_cursor.NextItem.TheVariants as nexts
use Rattle.record_io.proofs.Items.{item_is, lacks_head, lacks_octets, spelled_item}

abbrev item_at : ItemHead → List ℕ → Item
item_at head octets = record { kind = head.kind; lane = head.lane; link = head.link; octets = octets }

pub found_item : (header octets old new : List ℕ) (head : ItemHead) → IsHead header head → length octets ≡ head.len
    → old ≡ octets ++ new → (header ++ old ≡ item_octets (item_at head octets) ++ new) × IsItem (item_at head octets)
found_item header octets old new head found same left = (
  ap (λ xs. header ++ xs) left ∙ sym (append_assoc header octets new)
      ∙ ap (λ xs. xs ++ new) (spelled_item header octets head found same),
  item_is header octets head found same,
)

not_empty : (header behind : List ℕ) → 0 < length header → (header ++ behind) ≢ []
not_empty header behind some = λ none.
    let nothing = ap length none in let parts = length-append header behind in omega (arith, nothing, parts, some)

pub no_item : (header old : List ℕ) (head : ItemHead) → IsHead header head → length old < head.len
    → ((header ++ old) ≢ []) × LacksItem (header ++ old)
no_item header old head found few = (
  not_empty header old (let some = ap length found.spelled in omega (arith, some)),
  lacks_octets header old head found few,
)

pub no_head : (old header behind : List ℕ) → old ≡ header ++ behind → length header ≡ 6 → IsNoHead header
    → (old ≢ []) × LacksItem old
no_head old header behind is six none =
    rw is (not_empty header behind (omega (arith, six)), lacks_head header behind six none)

pub item_stands : (old new : List ℕ) (next : NextItem) (found : FoundItem) → next ≡ nexts.Item found
    → StandsItem old new next
    → (old ≡ item_octets (item_found found) ++ new) × IsItem (item_found found)
unfolding StandsItem
item_stands old new next found is stands = let told : StandsItem old new (nexts.Item found) = rw is at stands in told

pub end_stands : (old new : List ℕ) (next : NextItem) → next ≡ nexts.End → StandsItem old new next → old ≡ []
unfolding StandsItem
end_stands old new next is stands = let told : StandsItem old new nexts.End = rw is at stands in told

pub none_stands : (old new : List ℕ) (next : NextItem) → next ≡ nexts.NoItem → StandsItem old new next
    → (old ≢ []) × LacksItem old
unfolding StandsItem
none_stands old new next is stands = let told : StandsItem old new nexts.NoItem = rw is at stands in told
