-- What was taken from a source, for `next_answer` and `next_item`.
use Rattle.std.proofs.Common.{◌≡◌, ◌≢◌, ℕ, ◌<◌, ◌≤◌, List, [], ◌++◌, length, take, Result, Ok, Err, Some, sym, ap, ◌∙◌}
use Rattle.std.proofs.Common.{arith, append_assoc, length-append}
use Rattle.std.specs.Prelude.{IfOk}
use Rattle.std.proofs.lemmas.List.{append-nil, length-take-le, take_all}
use Rattle.sdls_outside.specs.Intake.{Collects}
use Rattle.record_io.specs.declared.answers.Answer.{Answer}
use Rattle.record_io.specs.Answers.{Header, HasWidths, answer_octets, header_octets, header_of}
use Rattle.record_io.specs.declared.answers.NextAnswer.{NextAnswer}
use Rattle.record_io.specs.declared.answers.NextAnswer.TheVariants as nexts
use Rattle.record_io.specs.declared.answers.TheConstants.{MOST_BODY}
use Rattle.record_io.specs.NextAnswer.{Stands, StandsBehind}

-- where the buffer was not filled, what was left was as much as was taken
pub short_left : (old new buffer : List ℕ) (count : ℕ) → Collects old new buffer count → count < length buffer
    → length old ≡ count
short_left old new buffer count taken short =
    let whole =
    ap length (taken.moved ∙ ap (λ xs. take count buffer ++ xs) (taken.ended short)
    ∙ append-nil (take count buffer)) in
    whole ∙ length-take-le count buffer (omega arith)

-- where it was filled, it stood at the front
pub filled_left : (old new buffer : List ℕ) (count : ℕ) → Collects old new buffer count → length buffer ≤ count
    → old ≡ buffer ++ new
filled_left old new buffer count taken filled = taken.moved ∙ ap (λ xs. xs ++ new) (take_all count buffer filled)

pub nothing_left : (old new buffer : List ℕ) → Collects old new buffer 0 → 0 < length buffer → old ≡ []
nothing_left old new buffer taken some = taken.moved ∙ taken.ended some

pub some_left : (old : List ℕ) (count : ℕ) → length old ≡ count → 0 < count → old ≢ []
some_left old count is some = λ none. let nothing = ap length none in omega (arith, nothing)

-- what stands behind a header stands there with it
pub stands_behind : (header : Header) (old middle new : List ℕ) (next : NextAnswer) → HasWidths header
    → header.octets ≤ MOST_BODY
    → old ≡ header_octets header ++ middle → StandsBehind header middle new next → Stands old new next
unfolding StandsBehind Stands answer_octets
stands_behind header old middle new (nexts.Answer answer) widths few front behind =
    let same : header_octets header ≡ header_octets (header_of answer) = ap header_octets behind.0 in
    let count : header.octets ≡ length answer.body = ap (λ (h : Header). h.octets) behind.0 in (
      front ∙ ap (λ xs. xs ++ middle) same ∙ ap (λ xs. header_octets (header_of answer) ++ xs) behind.1
          ∙ sym (append_assoc (header_octets (header_of answer)) answer.body new),
      omega (arith, count, few),
    )
stands_behind header old middle new nexts.End widths few front behind = absurd behind
stands_behind header old middle new nexts.Cut widths few front behind = (
  λ none. let nothing = ap length (sym front ∙ none) in let parts = length-append (header_octets header) middle in
      omega (arith, nothing, parts),
  (Some (record { header = header; front = middle }), (record { widths = widths; short = behind }, front)),
)
stands_behind header old middle new nexts.Long widths few front behind = absurd behind
stands_behind header old middle new nexts.SourceFault widths few front behind = tt

pub ok_more : {X E : Type 0} (r : Result X E) (P Q : X → Type 0) → ((x : X) → P x → Q x) → IfOk r P → IfOk r Q
ok_more (Ok x) P Q more is = more x is
ok_more (Err e) P Q more is = tt

-- what is told of an answer that stands next, of the end and of a cut
pub answer_stands : (old new : List ℕ) (next : NextAnswer) (answer : Answer) → next ≡ nexts.Answer answer
    → Stands old new next
    → old ≡ answer_octets answer ++ new
unfolding Stands
answer_stands old new next answer is stands = let told : Stands old new (nexts.Answer answer) = rw is at stands in
    told.0
