-- The objects of lines, one after the other, for `put_state_objects`.
use Rattle.std.proofs.Common.{◌≡◌, ℕ, ◌+◌, ◌-◌, ◌^◌, ◌++◌, List, [], ◌∷◌, length, inl, inr, refl, sym, ap, ◌∙◌, arith}
use Rattle.std.proofs.Common.{append_assoc, length-append, subst}
use Rattle.std.specs.List.{AllByRecursion, flat_map}
use Rattle.std.proofs.lemmas.List.{append-nil}
use Rattle.sdls_outside.specs.Moments.{Between}
use Rattle.text_streams.specs.TextLine.{MOST_LINES}
use Rattle.text_streams.specs.declared.ends.StateEnd.{StateEnd}
use Rattle.text_streams.specs.declared.ends.StateEnd.TheVariants.{Done, NoLine, LongLine, SourceFault}
use Rattle.text_streams.specs.declared.ends.StateEnd.TheVariants.{OutputFault, NoMemory}
use Rattle.text_streams.specs.declared.state_line.StateLine.{StateLine}
use Rattle.text_streams.specs.StateText.{IsStateLine, state_text}
use Rattle.text_streams.specs.StateObject.{object_text}
use Rattle.text_streams.specs.StateStream.{EndsBehindLines, FailsNextLine, PutsObject, PutsObjects, WerePut}
use Rattle.text_streams.proofs.Writing.{between_behind}

-- so many lines were taken, and their objects put
pub record Progress (left old left_now now : List ℕ) (count : ℕ) : Type 0 where
  pub lines : List StateLine
  pub bounds : AllByRecursion IsStateLine lines
  pub taken : left ≡ flat_map state_text lines ++ left_now
  pub counted : length lines ≡ count
  pub put : now ≡ old ++ flat_map object_text lines

pub begun : (left old : List ℕ) → Progress left old left old 0
begun left old = record { lines = []; bounds = tt; taken = refl; counted = refl; put = sym (append-nil old) }

-- ---- one line more

texts_more : (f : StateLine → List ℕ) (lines : List StateLine) (line : StateLine)
    → flat_map f (lines ++ line ∷ []) ≡ flat_map f lines ++ f line
texts_more f [] line = append-nil (f line)
texts_more f (first ∷ lines) line =
    ap (λ text. f first ++ text) (texts_more f lines line) ∙ sym (append_assoc (f first) (flat_map f lines) (f line))

all_more : (lines : List StateLine) (line : StateLine) → AllByRecursion IsStateLine lines → IsStateLine line
    → AllByRecursion IsStateLine (lines ++ line ∷ [])
all_more [] line all is = (is, tt)
all_more (first ∷ lines) line all is = (all.0, all_more lines line all.1 is)

taken_more : (left left_now left_next : List ℕ) (lines : List StateLine) (line : StateLine)
    → left ≡ flat_map state_text lines ++ left_now
    → left_now ≡ state_text line ++ left_next → left ≡ flat_map state_text (lines ++ line ∷ []) ++ left_next
taken_more left left_now left_next lines line taken next =
    taken ∙ ap (λ left. flat_map state_text lines ++ left) next
    ∙ sym (append_assoc (flat_map state_text lines) (state_text line) left_next)
    ∙ ap (λ text. text ++ left_next) (sym (texts_more state_text lines line))

pub forth : (left old left_now now left_next next : List ℕ) (count : ℕ) → Progress left old left_now now count
    → PutsObject left_now left_next now next → Progress left old left_next next (count + 1)
forth left old left_now now left_next next count so_far (line, begins, put) =
    let longer = length-append so_far.lines (line ∷ []) in let counted = so_far.counted in
    record {
      lines = so_far.lines ++ line ∷ [];
      bounds = all_more so_far.lines line so_far.bounds begins.bounds;
      taken = taken_more left left_now left_next so_far.lines line so_far.taken begins.taken;
      counted = omega (arith, longer, counted);
      put = put ∙ ap (λ octets. octets ++ object_text line) so_far.put
          ∙ append_assoc old (flat_map object_text so_far.lines) (object_text line)
          ∙ ap (λ octets. old ++ octets) (sym (texts_more object_text so_far.lines line));
    }

-- ---- the ends

ends_with : (left old left_now now new : List ℕ) (count : ℕ) (end : StateEnd)
    → (so_far : Progress left old left_now now count)
    → EndsBehindLines (length so_far.lines) left_now end → WerePut end (flat_map object_text so_far.lines) old new
    → PutsObjects left old new end
ends_with left old left_now now new count end so_far ends put = record {
  lines = so_far.lines;
  bounds = so_far.bounds;
  left_new = left_now;
  taken = so_far.taken;
  ends = ends;
  put_is = put;
}

pub ends_as : (end : StateEnd) (left old left_now now new : List ℕ) (count number : ℕ)
    → Progress left old left_now now count
    → number ≡ count + 1 → FailsNextLine number left_now now new end → PutsObjects left old new end
ends_as Done left old left_now now new count number so_far next fails =
    ends_with left old left_now now new count Done so_far (inl fails.0) (fails.1 ∙ so_far.put)
ends_as (NoLine at) left old left_now now new count number so_far next fails =
    let counted = so_far.counted in let place = fails.0 in
    ends_with left old left_now now new count (NoLine at) so_far (omega (arith, counted, next, place), fails.1)
    (fails.2 ∙ so_far.put)
ends_as (LongLine at) left old left_now now new count number so_far next fails =
    let counted = so_far.counted in let place = fails.0 in
    ends_with left old left_now now new count (LongLine at) so_far (omega (arith, counted, next, place), fails.1)
    (fails.2 ∙ so_far.put)
ends_as SourceFault left old left_now now new count number so_far next fails =
    ends_with left old left_now now new count SourceFault so_far tt (fails ∙ so_far.put)
ends_as OutputFault left old left_now now new count number so_far next (line, left_next, begins, between) =
    let P : List ℕ → Type 0 = λ text. Between old (old ++ text) new in
    record {
      lines = so_far.lines ++ line ∷ [];
      bounds = all_more so_far.lines line so_far.bounds begins.bounds;
      left_new = left_next;
      taken = taken_more left left_now left_next so_far.lines line so_far.taken begins.taken;
      ends = tt;
      put_is = subst P (sym (texts_more object_text so_far.lines line))
          (between_behind old (flat_map object_text so_far.lines) (object_text line) now new so_far.put between);
    }
ends_as NoMemory left old left_now now new count number so_far next fails =
    ends_with left old left_now now new count NoMemory so_far tt (fails ∙ so_far.put)

pub all_read : (left old left_now now : List ℕ) (count : ℕ) → Progress left old left_now now count → count ≡ MOST_LINES
    → PutsObjects left old now Done
all_read left old left_now now count so_far most =
    ends_with left old left_now now now count Done so_far (inr (so_far.counted ∙ most)) so_far.put
