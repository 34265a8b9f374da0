-- The line of an item says it, for `put_record` and `put_fence`; and the lines of items are read as these items.
use Rattle.std.proofs.Common.{◌≡◌, ℕ, List, [], ◌∷◌, ◌++◌, inr, refl, sym, ap}
use Rattle.unit_plan.specs.Lines.{lines_of}
use Rattle.record_io.specs.Input.{Item}
use Rattle.input_text.specs.declared.line.Line.{Line}
use Rattle.input_text.specs.Line.{IsLine, SaysLine, line_item, line_words}
use Rattle.text_streams.specs.Spelling.{AddsLine, IsNamed, SayItems, Spells, SpellsAll, joined, line_text}
use Rattle.text_streams.proofs.PlainLines.{line_read, one_line}

pub says_itself : (line : Line) → IsLine line → SaysLine (joined (line_words line)) line
says_itself line is = record { bounds = is; words = line_read line is }

spells : (line : Line) (item : Item) → IsLine line → line_item line ≡ item → IsNamed line → Spells item (line_text line)
spells line item is item_is named = record {
  front = joined (line_words line);
  one_line = one_line line is;
  line = line;
  says = says_itself line is;
  item_is = item_is;
  named = named;
}

pub adds : (line : Line) (item : Item) (old new : List ℕ) → IsLine line → line_item line ≡ item → IsNamed line
    → new ≡ old ++ line_text line → AddsLine item old new
adds line item old new is item_is named put = (line_text line, spells line item is item_is named, put)

pub said_again : (items : List Item) (text : List ℕ) → SpellsAll items text → SayItems (lines_of text) items
said_again [] text none = rw none refl
said_again (item ∷ items) text (front, rest, spelled, more, is) =
    rw is (rw (spelled.one_line rest) (inr (
      spelled.line,
      items,
      spelled.says,
      said_again items rest more,
      ap (λ first. first ∷ items) (sym spelled.item_is),
    )))
