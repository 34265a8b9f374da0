-- The items of recorded input and their lines, one after the other, for `next_item`, `put_next_item` and `put_lines`.
use Rattle.std.proofs.Common.{◌≡◌, ◌≢◌, ℕ, ◌+◌, ◌<◌, ◌++◌, List, [], ◌∷◌, length, map, inl, refl, sym, ap, ◌∙◌, arith}
use Rattle.std.proofs.Common.{append_assoc, length-append}
use Rattle.std.specs.List.{AllByRecursion}
use Rattle.std.proofs.lemmas.List.{append-nil}
use Rattle.record_io.specs.Input.{IsItem, Item, LacksItem, beginning, item_octets, items_octets}
use Rattle.record_io.specs.Heads.{IsNoHead}
use Rattle.record_io.proofs.Items.{item_is, lacks_head, lacks_octets, spelled_item}
use Rattle.text_streams.specs.Spelling.{Spells, SpellsAll, seen_item}
use Rattle.text_streams.specs.declared.ends.End.{End}
use Rattle.text_streams.specs.declared.ends.End.TheVariants.{Done, LineFault, LongLine, CutAnswer, NoAnswer, NoItem}
use Rattle.text_streams.specs.declared.ends.End.TheVariants.{SourceFault, OutputFault, NoMemory}
use Rattle.record_io.specs.declared.reader.ItemHead.{ItemHead}
use Rattle.record_io.specs.declared.item_cursor.FoundItem.{FoundItem}
use Rattle.record_io.specs.declared.item_cursor.NextItem.{NextItem}
use Rattle.record_io.specs.declared.item_cursor.NextItem.TheVariants as nexts
use Rattle.record_io.specs.NextItem.{item_found}
use Rattle.record_io.proofs.NextItems.{end_stands, item_stands, none_stands}
use Rattle.text_streams.specs.ItemLines.{FailsNextItem, PutsItem, PutsItemLines, TakesItem, counted, offset_behind}
use Rattle.text_streams.proofs.Writing.{between_behind}

-- ---- one item

pub line_is : (text line before : List ℕ) → before ≡ [] → line ≡ before ++ text → line ≡ text
line_is text line before none is = is ∙ ap (λ before. before ++ text) none

-- ---- one line more

lines_more : (items : List Item) (item : Item) (text line : List ℕ) → SpellsAll (map seen_item items) text
    → Spells (seen_item item) line → SpellsAll (map seen_item (items ++ item ∷ [])) (text ++ line)
lines_more [] item text line none spells = rw none (line, [], spells, refl, sym (append-nil line))
lines_more (first ∷ items) item text line (front, rest, has, more, is) spells = (
  front,
  rest ++ line,
  has,
  lines_more items item rest line more spells,
  ap (λ text. text ++ line) is ∙ append_assoc front rest line,
)

octets_more : (items : List Item) (item : Item) → items_octets (items ++ item ∷ [])
    ≡ items_octets items ++ item_octets item
octets_more [] item = append-nil (item_octets item)
octets_more (first ∷ items) item =
    ap (λ octets. item_octets first ++ octets) (octets_more items item)
    ∙ sym (append_assoc (item_octets first) (items_octets items) (item_octets item))

offset_more : (offset : ℕ) (items : List Item) (item : Item)
    → offset_behind offset (items ++ item ∷ []) ≡ counted (offset_behind offset items) item
offset_more offset [] item = refl
offset_more offset (first ∷ items) item = offset_more (counted offset first) items item

each_more : (items : List Item) (item : Item) → AllByRecursion IsItem items → IsItem item
    → AllByRecursion IsItem (items ++ item ∷ [])
each_more [] item each is = (is, tt)
each_more (first ∷ items) item each is = (each.0, each_more items item each.1 is)

-- the lines of so many items
pub record Lines (left left_now : List ℕ) (offset count : ℕ) (text : List ℕ) : Type 0 where
  pub items : List Item
  pub are_items : AllByRecursion IsItem items
  pub taken : left ≡ beginning ++ (items_octets items ++ left_now)
  pub counted : length items ≡ count
  pub passed : offset ≡ offset_behind 8 items
  pub lines : SpellsAll (map seen_item items) text

more_lines : (left left_now left_next text line : List ℕ) (offset offset_next count : ℕ)
    → Lines left left_now offset count text
    → TakesItem offset offset_next left_now left_next line → Lines left left_next offset_next (count + 1) (text ++ line)
more_lines left left_now left_next text line offset offset_next count so_far takes =
    let longer = length-append so_far.items (takes.item ∷ []) in let same = so_far.counted in
    record {
      items = so_far.items ++ takes.item ∷ [];
      are_items = each_more so_far.items takes.item so_far.are_items takes.is_item;
      taken = so_far.taken ∙ ap (λ xs. beginning ++ xs) (ap (λ left. items_octets so_far.items ++ left) takes.taken
          ∙ sym (append_assoc (items_octets so_far.items) (item_octets takes.item) left_next)
          ∙ ap (λ octets. octets ++ left_next) (sym (octets_more so_far.items takes.item)));
      counted = omega (arith, longer, same);
      passed = takes.passed ∙ ap (λ offset. counted offset takes.item) so_far.passed
          ∙ sym (offset_more 8 so_far.items takes.item);
      lines = lines_more so_far.items takes.item text line so_far.lines takes.spells;
    }

-- they were put
pub record Progress (left old left_now now : List ℕ) (offset count : ℕ) : Type 0 where
  pub text : List ℕ
  pub lines : Lines left left_now offset count text
  pub put : now ≡ old ++ text

pub forth : (left old left_now now left_next next : List ℕ) (offset offset_next count : ℕ)
    → Progress left old left_now now offset count → PutsItem offset offset_next left_now left_next now next
    → Progress left old left_next next offset_next (count + 1)
forth left old left_now now left_next next offset offset_next count so_far (line, takes, put) = record {
  text = so_far.text ++ line;
  lines = more_lines left left_now left_next so_far.text line offset offset_next count so_far.lines takes;
  put = put ∙ ap (λ octets. octets ++ line) so_far.put ∙ append_assoc old so_far.text line;
}

-- ---- the ends

pub ends_as : (end : End) (left old left_now now new : List ℕ) (offset count : ℕ)
    → Progress left old left_now now offset count → FailsNextItem offset left_now now new end
    → PutsItemLines left old new end
ends_as Done left old left_now now new offset count so_far fails = record {
  items = so_far.lines.items;
  are_items = so_far.lines.are_items;
  left_new = left_now;
  taken = so_far.lines.taken;
  text = so_far.text;
  lines = so_far.lines.lines;
  ends = inl fails.0;
  put_is = fails.1 ∙ so_far.put;
}
ends_as (LineFault at fault) left old left_now now new offset count so_far fails = absurd fails
ends_as (LongLine at) left old left_now now new offset count so_far fails = absurd fails
ends_as (CutAnswer at) left old left_now now new offset count so_far fails = absurd fails
ends_as (NoAnswer at) left old left_now now new offset count so_far fails = absurd fails
ends_as (NoItem at) left old left_now now new offset count so_far fails = record {
  items = so_far.lines.items;
  are_items = so_far.lines.are_items;
  left_new = left_now;
  taken = so_far.lines.taken;
  text = so_far.text;
  lines = so_far.lines.lines;
  ends = (fails.0 ∙ so_far.lines.passed, fails.1, fails.2);
  put_is = fails.3 ∙ so_far.put;
}
ends_as SourceFault left old left_now now new offset count so_far fails = record {
  items = so_far.lines.items;
  are_items = so_far.lines.are_items;
  left_new = left_now;
  taken = so_far.lines.taken;
  text = so_far.text;
  lines = so_far.lines.lines;
  ends = tt;
  put_is = fails ∙ so_far.put;
}
ends_as OutputFault left old left_now now new offset count so_far (offset_next, left_next, line, takes, between) =
    let more = more_lines left left_now left_next so_far.text line offset offset_next count so_far.lines takes in
    record {
      items = more.items;
      are_items = more.are_items;
      left_new = left_next;
      taken = more.taken;
      text = so_far.text ++ line;
      lines = more.lines;
      ends = tt;
      put_is = between_behind old so_far.text line now new so_far.put between;
    }
ends_as NoMemory left old left_now now new offset count so_far fails = record {
  items = so_far.lines.items;
  are_items = so_far.lines.are_items;
  left_new = left_now;
  taken = so_far.lines.taken;
  text = so_far.text;
  lines = so_far.lines.lines;
  ends = tt;
  put_is = fails ∙ so_far.put;
}
