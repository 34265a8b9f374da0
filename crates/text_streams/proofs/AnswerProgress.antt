-- The lines of answers, one after the other, for `put_next_answer` and `put_answers`.
use Rattle.std.proofs.Common.{◌≡◌, ℕ, ◌+◌, ◌++◌, List, [], ◌∷◌, length, inl, refl, sym, ap, ◌∙◌, arith, append_assoc}
use Rattle.std.proofs.Common.{length-append}
use Rattle.std.proofs.lemmas.List.{append-nil}
use Rattle.record_io.specs.declared.answers.Answer.{Answer}
use Rattle.record_io.specs.Answers.{answer_octets, answers_octets}
use Rattle.answer_text.specs.declared.line.AnswersEnd.{AnswersEnd}
use Rattle.answer_text.specs.declared.line.AnswersEnd.TheVariants as ends
use Rattle.answer_text.specs.declared.putting.Form.{Form}
use Rattle.answer_text.specs.Line.{HasLine}
use Rattle.answer_text.specs.Listing.{EndsAt, ListingPlace, behind}
use Rattle.text_streams.specs.declared.ends.End.{End}
use Rattle.text_streams.specs.declared.ends.End.TheVariants.{Done, LineFault, LongLine, CutAnswer, NoAnswer, NoItem}
use Rattle.text_streams.specs.declared.ends.End.TheVariants.{SourceFault, OutputFault, NoMemory}
use Rattle.text_streams.specs.AnswerLines.{AreLines, FailsNext, PutsAnswers, PutsLine, TakesLine, end_of, first_place}
use Rattle.text_streams.proofs.Writing.{between_behind}

pub fails_of : (form : Form) (end : AnswersEnd) (place : ListingPlace) (left left_new old new : List ℕ)
    → EndsAt place.offset left left_new end
    → new ≡ old → FailsNext form place left old new (end_of end)
fails_of form ends.Whole place left left_new old new is same = (is, same)
fails_of form (ends.CutAt at) place left left_new old new is same = (is, same)
fails_of form (ends.NoAnswerAt at) place left left_new old new is same = ((is.0, (left_new, is.1)), same)
fails_of form ends.SourceFault place left left_new old new is same = same
fails_of form ends.NoMemory place left left_new old new is same = same

-- ---- one line more

lines_more : (form : Form) (place last : ListingPlace) (answers : List Answer) (answer : Answer) (text line : List ℕ)
    → AreLines form place answers last text
    → HasLine form last.index answer (λ its. line ≡ its)
    → AreLines form place (answers ++ answer ∷ []) (behind last answer) (text ++ line)
lines_more form place last [] answer text line (at, none) has =
    rw (at, none) (line, [], rw at at has, (refl, refl), sym (append-nil line))
lines_more form place last (first ∷ answers) answer text line (front, rest, has_front, more, is) has = (
  front,
  rest ++ line,
  has_front,
  lines_more form (behind place first) last answers answer rest line more has,
  ap (λ text. text ++ line) is ∙ append_assoc front rest line,
)

octets_more : (answers : List Answer) (answer : Answer) → answers_octets (answers ++ answer ∷ [])
    ≡ answers_octets answers ++ answer_octets answer
octets_more [] answer = append-nil (answer_octets answer)
octets_more (first ∷ answers) answer =
    ap (λ octets. answer_octets first ++ octets) (octets_more answers answer)
    ∙ sym (append_assoc (answer_octets first) (answers_octets answers) (answer_octets answer))

-- the lines of so many answers
pub record Lines (form : Form) (left left_now : List ℕ) (place : ListingPlace) (count : ℕ)
    (text : List ℕ) : Type 0 where
  pub answers : List Answer
  pub taken : left ≡ answers_octets answers ++ left_now
  pub counted : length answers ≡ count
  pub lines : AreLines form first_place answers place text

more_lines : (form : Form) (left left_now left_next text line : List ℕ) (place place_next : ListingPlace) (count : ℕ)
    → Lines form left left_now place count text
    → TakesLine form place place_next left_now left_next line
    → Lines form left left_next place_next (count + 1) (text ++ line)
more_lines form left left_now left_next text line place place_next count so_far takes =
    let longer = length-append so_far.answers (takes.answer ∷ []) in let counted = so_far.counted in
    record {
      answers = so_far.answers ++ takes.answer ∷ [];
      taken = so_far.taken ∙ ap (λ left. answers_octets so_far.answers ++ left) takes.taken
          ∙ sym (append_assoc (answers_octets so_far.answers) (answer_octets takes.answer) left_next)
          ∙ ap (λ octets. octets ++ left_next) (sym (octets_more so_far.answers takes.answer));
      counted = omega (arith, longer, counted);
      lines = rw takes.passed (lines_more form first_place place so_far.answers takes.answer text line so_far.lines
          takes.put);
    }

-- they were put
pub record Progress (form : Form) (left old left_now now : List ℕ) (place : ListingPlace) (count : ℕ) : Type 0 where
  pub text : List ℕ
  pub lines : Lines form left left_now place count text
  pub put : now ≡ old ++ text

pub forth : (form : Form) (left old left_now now left_next next : List ℕ) (place place_next : ListingPlace) (count : ℕ)
    → Progress form left old left_now now place count → PutsLine form place place_next left_now left_next now next
    → Progress form left old left_next next place_next (count + 1)
forth form left old left_now now left_next next place place_next count so_far (line, takes, put) = record {
  text = so_far.text ++ line;
  lines = more_lines form left left_now left_next so_far.text line place place_next count so_far.lines takes;
  put = put ∙ ap (λ octets. octets ++ line) so_far.put ∙ append_assoc old so_far.text line;
}

-- ---- the ends

pub ends_as : (form : Form) (end : End) (left old left_now now new : List ℕ) (place : ListingPlace) (count : ℕ)
    → Progress form left old left_now now place count → FailsNext form place left_now now new end
    → PutsAnswers form left old new end
ends_as form Done left old left_now now new place count so_far fails = record {
  answers = so_far.lines.answers;
  left_new = left_now;
  taken = so_far.lines.taken;
  place = place;
  text = so_far.text;
  lines = so_far.lines.lines;
  ends = inl fails.0;
  put_is = fails.1 ∙ so_far.put;
}
ends_as form (LineFault at fault) left old left_now now new place count so_far fails = absurd fails
ends_as form (LongLine at) left old left_now now new place count so_far fails = absurd fails
ends_as form (CutAnswer at) left old left_now now new place count so_far fails = record {
  answers = so_far.lines.answers;
  left_new = left_now;
  taken = so_far.lines.taken;
  place = place;
  text = so_far.text;
  lines = so_far.lines.lines;
  ends = fails.0;
  put_is = fails.1 ∙ so_far.put;
}
ends_as form (NoAnswer at) left old left_now now new place count so_far fails = record {
  answers = so_far.lines.answers;
  left_new = left_now;
  taken = so_far.lines.taken;
  place = place;
  text = so_far.text;
  lines = so_far.lines.lines;
  ends = fails.0;
  put_is = fails.1 ∙ so_far.put;
}
ends_as form (NoItem at) left old left_now now new place count so_far fails = absurd fails
ends_as form SourceFault left old left_now now new place count so_far fails = record {
  answers = so_far.lines.answers;
  left_new = left_now;
  taken = so_far.lines.taken;
  place = place;
  text = so_far.text;
  lines = so_far.lines.lines;
  ends = tt;
  put_is = fails ∙ so_far.put;
}
ends_as form OutputFault left old left_now now new place count so_far (place_next, left_next, line, takes, between) =
    let more = more_lines form left left_now left_next so_far.text line place place_next count so_far.lines takes in
    record {
      answers = more.answers;
      left_new = left_next;
      taken = more.taken;
      place = place_next;
      text = so_far.text ++ line;
      lines = more.lines;
      ends = tt;
      put_is = between_behind old so_far.text line now new so_far.put between;
    }
ends_as form NoMemory left old left_now now new place count so_far fails = record {
  answers = so_far.lines.answers;
  left_new = left_now;
  taken = so_far.lines.taken;
  place = place;
  text = so_far.text;
  lines = so_far.lines.lines;
  ends = tt;
  put_is = fails ∙ so_far.put;
}
