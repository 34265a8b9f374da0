-- The first line of what is left, for `put_next_object`.
use Rattle.std.proofs.Common.{◌≡◌, ℕ, ◌+◌, List, ◌∷◌, ◌++◌, codes, length, Option, Some, None, IfSome, sym, ap, ◌∙◌}
use Rattle.std.proofs.Common.{subst, arith, append_assoc, length-append}
use Rattle.unit_plan.specs.Lines.{lines_of}
use Rattle.text_streams.specs.Spelling.{joined}
use Rattle.text_streams.specs.declared.state_line.StateLine.{StateLine}
use Rattle.text_streams.specs.StateText.{IsStateLine, state_text, state_words}
use Rattle.text_streams.specs.declared.ends.StateEnd.{StateEnd}
use Rattle.text_streams.specs.declared.ends.StateEnd.TheVariants.{Done, NoLine, LongLine, SourceFault}
use Rattle.text_streams.specs.declared.ends.StateEnd.TheVariants.{OutputFault, NoMemory}
use Rattle.text_streams.specs.StateStream.{BeginsOther, BeginsWith, FailsNextLine, FailsText, HasNoLine}
use Rattle.text_streams.proofs.StateWords.{is_joined, one_line}

pub begins_with : (line : StateLine) (text left left_new : List ℕ) → IsStateLine line
    → left ≡ text ++ (codes "\n" ++ left_new)
    → text ++ codes "\n" ≡ state_text line → BeginsWith line left left_new
begins_with line text left left_new is taken same = record {
  bounds = is;
  taken = taken ∙ sym (append_assoc text (codes "\n") left_new) ∙ ap (λ text. text ++ left_new) same;
}

first_is : {x y : List ℕ} {xs ys : List (List ℕ)} → x ∷ xs ≡ y ∷ ys → x ≡ y
first_is same = cc

-- the first line is that of `stat` with which a text begins
is_text : (line : StateLine) (text left left_new rest : List ℕ) → lines_of left ≡ text ∷ lines_of left_new
    → IsStateLine line
    → left ≡ state_text line ++ rest → text ≡ joined (state_words line)
is_text line text left left_new rest taken is begins = first_is (sym taken ∙ ap lines_of begins ∙ one_line line rest is)

pub begins_other : (text left left_new : List ℕ) → lines_of left ≡ text ∷ lines_of left_new → HasNoLine text
    → BeginsOther left
begins_other text left left_new taken none = λ line rest is begins.
    none line is (ap (λ text. text ++ codes "\n") (is_text line text left left_new rest taken is begins)
    ∙ is_joined line)

no_shorter : (text rest : List ℕ) → text ≡ (text ++ codes "\n") ++ rest → ⊥
no_shorter text rest same =
    let whole = ap length same in let front = length-append (text ++ codes "\n") rest in
    let feed = length-append text (codes "\n") in
    absurd (omega (arith, whole, front, feed))

-- the last line lacks its line feed
pub begins_cut : (text left left_new : List ℕ) → lines_of left ≡ text ∷ lines_of left_new → left ≡ text
    → BeginsOther left
begins_cut text left left_new taken last = λ line rest is begins.
    no_shorter text rest (sym last ∙ begins ∙ ap (λ text. text ++ rest) (sym (is_joined line)
    ∙ ap (λ text. text ++ codes "\n") (sym (is_text line text left left_new rest taken is begins))))

-- why no object was put of a line is why none follows
pub fails_line : (result : Option StateEnd) (number : ℕ) (shown text left left_new old new : List ℕ) → shown ≡ text
    → lines_of left ≡ text ∷ lines_of left_new → left ≡ text ++ (codes "\n" ++ left_new)
    → IfSome result (FailsText number shown old new) → IfSome result (FailsNextLine number left old new)
fails_line None number shown text left left_new old new same lines taken fails = tt
fails_line (Some Done) number shown text left left_new old new same lines taken fails = absurd fails
fails_line (Some (NoLine at)) number shown text left left_new old new same lines taken fails =
    (fails.0, begins_other text left left_new lines (subst HasNoLine same fails.1), fails.2)
fails_line (Some (LongLine at)) number shown text left left_new old new same lines taken fails = absurd fails
fails_line (Some SourceFault) number shown text left left_new old new same lines taken fails = absurd fails
fails_line (Some OutputFault) number shown text left left_new old new same lines taken (line, is, shown_is, between) = (
  line,
  left_new,
  begins_with line text left left_new is taken
      (ap (λ text. text ++ codes "\n") (sym same) ∙ shown_is),
  between,
)
fails_line (Some NoMemory) number shown text left left_new old new same lines taken fails = fails
