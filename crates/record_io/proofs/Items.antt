-- Where no item stands at the front, and octets of items one after the other.
use Rattle.std.proofs.Common.{◌≡◌, ◌≢◌, ℕ, ◌+◌, ◌≤◌, ◌<◌, List, [], ◌∷◌, ◌++◌, length, take, drop, refl, sym, ◌∙◌, ap}
use Rattle.std.proofs.Common.{arith, append_assoc, length-append}
use Rattle.std.specs.Int.{w16, to_be_bytes, from_be_bytes}
use Rattle.std.proofs.lemmas.Nat.{from_be_bytes-to_be_bytes_2}
use Rattle.sdls_base.proofs.Endings.{take_front}
use Rattle.record_io.specs.declared.reader.ItemKind.{ItemKind}
use Rattle.record_io.specs.declared.reader.ItemKind.TheVariants.{Fence, Recorded}
use Rattle.record_io.specs.declared.reader.ItemHead.{ItemHead}
use Rattle.record_io.specs.Input.{Item, IsItem, most_octets, kind_octet, item_header, item_octets, items_octets}
use Rattle.record_io.specs.Input.{LacksItem, LacksBeginning, beginning}
use Rattle.record_io.specs.Heads.{IsHead, IsNoHead}
use Rattle.record_io.specs.declared.reader.TheConstants.{MOST_RECORD_OCTETS}

pub length-header : (item : Item) → length (item_header item) ≡ 6
length-header item = refl

pub length-item : (item : Item) → length (item_octets item) ≡ 6 + length item.octets
length-item item = omega (arith, length-append (item_header item) item.octets, length-header item)

pub items_octets-append : (xs ys : List Item) → items_octets (xs ++ ys) ≡ items_octets xs ++ items_octets ys
items_octets-append [] ys = refl
items_octets-append (x ∷ xs) ys =
    ap (λ l. item_octets x ++ l) (items_octets-append xs ys)
    ∙ sym (append_assoc (item_octets x) (items_octets xs) (items_octets ys))

pub not_empty : (xs : List ℕ) → 0 < length xs → xs ≢ []
not_empty xs long e = absurd (omega (arith, ap length e))

-- the first six octets of what begins with an item
header_in_front : (header rest after : List ℕ) (item : Item) → length header ≡ 6
    → header ++ rest ≡ item_octets item ++ after → header ≡ item_header item
header_in_front header rest after item six e =
    let split : item_octets item ++ after ≡ item_header item ++ (item.octets ++ after) =
    append_assoc (item_header item) item.octets after in
    sym (take_front header rest 6 (sym six)) ∙ ap (λ l. take 6 l) (e ∙ split) ∙ take_front (item_header item)
    (item.octets ++ after) 6 (sym (length-header item))

-- fewer octets than an item has at least
pub lacks_short : (octets : List ℕ) → length octets < 6 → LacksItem octets
lacks_short octets few = λ item after is e.
    omega (arith, ap length e, length-append (item_octets item) after, length-item item)

-- octets that head no item
pub lacks_head : (header rest : List ℕ) → length header ≡ 6 → IsNoHead header → LacksItem (header ++ rest)
lacks_head header rest six none = λ item after is e. none item is (header_in_front header rest after item six e)

pub most_small : (kind : ItemKind) → most_octets kind ≤ MOST_RECORD_OCTETS
most_small Fence = omega arith
most_small (Recorded kind) = omega arith

same_length : (item : Item) (head : ItemHead) (header : List ℕ) → IsItem item → IsHead header head
    → header ≡ item_header item → length item.octets ≡ head.len
same_length item head header is found e =
    let fields : to_be_bytes w16 (length item.octets) ≡ to_be_bytes w16 head.len =
    ap (λ l. drop 4 l) (sym e ∙ found.spelled) in
    sym (from_be_bytes-to_be_bytes_2 (length item.octets) (omega (arith, is.short, most_small item.kind)))
    ∙ ap (λ l. from_be_bytes w16 l) fields ∙ from_be_bytes-to_be_bytes_2 head.len
    (omega (arith, found.short, most_small head.kind))

pub length-head : (header : List ℕ) (head : ItemHead) → IsHead header head → length header ≡ 6
length-head header head found = ap length found.spelled

-- a head behind which octets are missing
pub lacks_octets : (header part : List ℕ) (head : ItemHead) → IsHead header head → length part < head.len
    → LacksItem (header ++ part)
lacks_octets header part head found few = λ item after is e.
    let six : length header ≡ 6 = length-head header head found in
    let same : length item.octets ≡ head.len =
    same_length item head header is found (header_in_front header part after item six e) in
    omega (arith, ap length e, length-append header part, length-append (item_octets item) after, length-item item)

-- what does not stand at the front of octets does not stand at the front of a part of them
pub lacks_front : (octets rest : List ℕ) → LacksItem (octets ++ rest) → LacksItem octets
lacks_front octets rest lacks = λ item after is e.
    lacks item (after ++ rest) is (ap (λ l. l ++ rest) e ∙ append_assoc (item_octets item) after rest)

-- the item that a head and its octets spell
pub spelled_item : (header octets : List ℕ) (head : ItemHead) → IsHead header head → length octets ≡ head.len
    → header ++ octets ≡ item_octets (record { kind = head.kind; lane = head.lane; link = head.link; octets = octets })
spelled_item header octets head found same =
    ap (λ l. l ++ octets)
    (found.spelled ∙ ap (λ n. kind_octet head.kind ∷ head.lane ∷ head.link ∷ 0 ∷ to_be_bytes w16 n) (sym same))

pub item_is : (header octets : List ℕ) (head : ItemHead) → IsHead header head → length octets ≡ head.len
    → IsItem (record { kind = head.kind; lane = head.lane; link = head.link; octets = octets })
item_is header octets head found same = record {
  lane = found.lane;
  long = omega (arith, found.long, same);
  short = omega (arith, found.short, same);
}

-- fewer octets than the beginning has
pub lacks_short_beginning : (octets : List ℕ) → length octets < 8 → LacksBeginning octets
lacks_short_beginning octets few = λ after e. omega (arith, ap length e, length-append beginning after)

-- eight octets that are another beginning
pub lacks_other_beginning : (octets rest : List ℕ) → length octets ≡ 8 → octets ≢ beginning
    → LacksBeginning (octets ++ rest)
lacks_other_beginning octets rest eight other = λ after e.
    other (sym (take_front octets rest 8 (sym eight)) ∙ ap (λ l. take 8 l) e ∙ take_front beginning after 8 refl)

pub lacks_front_beginning : (octets rest : List ℕ) → LacksBeginning (octets ++ rest) → LacksBeginning octets
lacks_front_beginning octets rest lacks = λ after e.
    lacks (after ++ rest) (ap (λ l. l ++ rest) e ∙ append_assoc beginning after rest)
