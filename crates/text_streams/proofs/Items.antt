-- One line more, for `read_lines`.
use Rattle.std.proofs.Common.{◌≡◌, ℕ, ◌+◌, List, [], ◌∷◌, ◌++◌, IsTrue, length, inl, inr, refl, sym, ap, ◌∙◌, arith}
use Rattle.std.proofs.Common.{append_assoc, length-append}
use Rattle.std.proofs.lemmas.List.{append-nil}
use Rattle.unit_plan.specs.Lines.{lines_of}
use Rattle.record_io.specs.Input.{Item, item_octets, items_octets}
use Rattle.input_text.specs.declared.line.Line.{Line}
use Rattle.input_text.specs.Plain.{is_skipped}
use Rattle.input_text.specs.Line.{SaysLine, line_item}
use Rattle.text_streams.specs.Spelling.{SayItems}
use Rattle.text_streams.specs.TextLine.{AddsNext, Reads}

skipped_more : (lines : List (List ℕ)) (items : List Item) (text : List ℕ) → SayItems lines items
    → IsTrue (is_skipped text)
    → SayItems (lines ++ text ∷ []) items
skipped_more [] items text said skipped = inl (skipped, said)
skipped_more (line ∷ lines) items text (inl first) skipped =
    inl (first.0, skipped_more lines items text first.1 skipped)
skipped_more (line ∷ lines) items text (inr (says, rest, is, more, items_are)) skipped =
    inr (says, rest, is, skipped_more lines rest text more skipped, items_are)

said_more : (lines : List (List ℕ)) (items : List Item) (text : List ℕ) (next : Line) → SayItems lines items
    → SaysLine text next
    → SayItems (lines ++ text ∷ []) (items ++ line_item next ∷ [])
said_more [] items text next said is =
    inr (next, [], is, refl, ap (λ items. items ++ line_item next ∷ []) said)
said_more (line ∷ lines) items text next (inl first) is = inl (first.0, said_more lines items text next first.1 is)
said_more (line ∷ lines) items text next (inr (says, rest, said, more, items_are)) is =
    inr (
      says,
      rest ++ line_item next ∷ [],
      said,
      said_more lines rest text next more is,
      ap (λ items. items ++ line_item next ∷ []) items_are,
    )

octets_more : (items : List Item) (item : Item) → items_octets (items ++ item ∷ [])
    ≡ items_octets items ++ item_octets item
octets_more [] item = append-nil (item_octets item)
octets_more (first ∷ items) item =
    ap (λ octets. item_octets first ++ octets) (octets_more items item)
    ∙ sym (append_assoc (item_octets first) (items_octets items) (item_octets item))

-- what was read and one line more, and the octets that it added
pub record OneMore (left left_new : List ℕ) (count : ℕ) (items : List Item) (old new : List ℕ) : Type 0 where
  pub all : List Item
  pub reads : Reads left left_new (count + 1) all
  pub octets : List ℕ
  pub added : new ≡ old ++ octets
  pub are : items_octets all ≡ items_octets items ++ octets

lines_more : (all lines next : List (List ℕ)) (text : List ℕ) (behind : List (List ℕ)) → all ≡ lines ++ next
    → next ≡ text ∷ behind
    → all ≡ (lines ++ text ∷ []) ++ behind
lines_more all lines next text behind are is =
    are ∙ ap (λ next. lines ++ next) is ∙ sym (append_assoc lines (text ∷ []) behind)

pub one_more : (left left_now left_new : List ℕ) (count : ℕ) (items : List Item) (old new : List ℕ)
    → Reads left left_now count items → AddsNext left_now left_new old new → OneMore left left_new count items old new
one_more left left_now left_new count items old new reads next =
    let are = lines_more (lines_of left) reads.lines (lines_of left_now) next.text (lines_of left_new) reads.lines_are
    next.lines_are in
    let longer = length-append reads.lines (next.text ∷ []) in
    let counted = reads.count_is in
    let count_is : count + 1 ≡ length (reads.lines ++ next.text ∷ []) = omega (arith, longer, counted) in
    elim next.adds [
      | inl skipped ↦ record {
        all = items;
        reads = record {
          lines = reads.lines ++ next.text ∷ [];
          lines_are = are;
          count_is = count_is;
          said = skipped_more reads.lines items next.text reads.said skipped.0;
        };
        octets = [];
        added = skipped.1 ∙ sym (append-nil old);
        are = sym (append-nil (items_octets items));
      }
      | inr (line, says, put) ↦ record {
        all = items ++ line_item line ∷ [];
        reads = record {
          lines = reads.lines ++ next.text ∷ [];
          lines_are = are;
          count_is = count_is;
          said = said_more reads.lines items next.text line reads.said says;
        };
        octets = item_octets (line_item line);
        added = put;
        are = octets_more items (line_item line);
      }
    ]
