-- A recording is read in one way, and one in order is not malformed, for `recording_reads_once`.
use Rattle.std.proofs.Common.{◌≡◌, ◌⊎◌, ℕ, ◌+◌, ◌-◌, ◌<◌, ◌^◌, List, [], ◌∷◌, ◌++◌, length, take, drop, get_or, Option}
use Rattle.std.proofs.Common.{Some, None, inl, inr, refl, sym, ◌∙◌, ap, subst, arith, append_assoc, length-append}
use Rattle.std.specs.List.{All}
use Rattle.std.specs.Int.{w16, w32, w64, from_be_bytes}
use Rattle.std.proofs.lemmas.List.{append-nil}
use Rattle.std.proofs.lemmas.List.Elements.{All-head, All-tail}
use Rattle.std.proofs.lemmas.Nat.{from_be_bytes-to_be_bytes_2, from_be_bytes-to_be_bytes_4, from_be_bytes-to_be_bytes_8}
use Rattle.sdls_base.proofs.Endings.{take_front, drop_front}
use Rattle.record_io.specs.declared.answers.Answer.{Answer}
use Rattle.record_io.specs.Answers.{Header, header_octets, header_of, answer_octets, answers_octets, HasWidths}
use Rattle.record_io.specs.Answers.{IsAnswer, Cut, EndsWith}
use Rattle.pair_audit.specs.Counted.{CountsAnswers, told_last}
use Rattle.record_io.specs.AnswerReading.{as_answer}
use Rattle.record_io.specs.AnswerReading.{IsAnswerCode}
use Rattle.pair_audit.specs.Recording.{run_octets, runs_octets, RunCounts, RunsCount, ReadsRuns, LacksRun, HasUnknown}
use Rattle.pair_audit.specs.Recording.{IsMalformedAt}
use Rattle.pair_audit.proofs.Fronts.{ShownOnce, counted_once}

-- ---- one answer

length-header : (h : Header) → length (header_octets h) ≡ 24
length-header h = refl

same_header : (h k : Header) → h.code ≡ k.code → h.detail ≡ k.detail → h.key ≡ k.key → h.octets ≡ k.octets
    → h.position ≡ k.position
    → h.number ≡ k.number → h ≡ k
same_header h k e f g i j l =
    ap (λ (n : ℕ). record {
      code = n;
      detail = h.detail;
      key = h.key;
      octets = h.octets;
      position = h.position;
      number =
          h.number;
    }) e
    ∙ ap (λ (n : ℕ). record {
      code = k.code;
      detail = n;
      key = h.key;
      octets = h.octets;
      position = h.position;
      number =
          h.number;
    }) f
    ∙ ap (λ (n : ℕ). record {
      code = k.code;
      detail = k.detail;
      key = n;
      octets = h.octets;
      position =
          h.position;
      number = h.number;
    }) g
    ∙ ap (λ (n : ℕ). record {
      code = k.code;
      detail = k.detail;
      key = k.key;
      octets = n;
      position = h.position;
      number =
          h.number;
    }) i
    ∙ ap (λ (n : ℕ). record {
      code = k.code;
      detail = k.detail;
      key = k.key;
      octets = k.octets;
      position = n;
      number =
          h.number;
    }) j
    ∙ ap (λ (n : ℕ). record {
      code = k.code;
      detail = k.detail;
      key = k.key;
      octets = k.octets;
      position =
          k.position;
      number = n;
    }) l

-- a header in front of octets is one
pub one_header : (h k : Header) (a b : List ℕ) → HasWidths h → HasWidths k → header_octets h ++ a ≡ header_octets k ++ b
    → (h ≡ k) × (a ≡ b)
one_header h k a b fits_h fits_k e =
    let same : header_octets h ≡ header_octets k =
    sym (take_front (header_octets h) a 24 refl) ∙ ap (λ l. take 24 l) e ∙ take_front (header_octets k) b 24 refl in (
      same_header h k (ap (λ l. get_or l 0 0) same) (ap (λ l. get_or l 1 0) same)
          (sym (from_be_bytes-to_be_bytes_2 h.key fits_h.key) ∙ ap (λ l. from_be_bytes w16 (take 2 (drop 2 l))) same
          ∙ from_be_bytes-to_be_bytes_2 k.key fits_k.key)
          (sym (from_be_bytes-to_be_bytes_4 h.octets fits_h.octets)
          ∙ ap (λ l. from_be_bytes w32 (take 4 (drop 4 l))) same
          ∙ from_be_bytes-to_be_bytes_4 k.octets fits_k.octets)
          (sym (from_be_bytes-to_be_bytes_8 h.position fits_h.position)
          ∙ ap (λ l. from_be_bytes w64 (take 8 (drop 8 l))) same
          ∙ from_be_bytes-to_be_bytes_8 k.position fits_k.position)
          (sym (from_be_bytes-to_be_bytes_8 h.number fits_h.number)
          ∙ ap (λ l. from_be_bytes w64 (take 8 (drop 16 l))) same
          ∙ from_be_bytes-to_be_bytes_8 k.number fits_k.number),
      sym (drop_front (header_octets h) a 24 refl) ∙ ap (λ l. drop 24 l) e ∙ drop_front (header_octets k) b 24 refl,
    )

answer_from : Header → List ℕ → Answer
answer_from h body = record {
  code = h.code;
  detail = h.detail;
  key = h.key;
  position = h.position;
  number =
      h.number;
  body = body;
}

pub split : (x : Answer) (a : List ℕ) → answer_octets x ++ a ≡ header_octets (header_of x) ++ (x.body ++ a)
unfolding answer_octets
split x a = append_assoc (header_octets (header_of x)) x.body a

-- an answer in front of octets is one
pub one_answer : (x y : Answer) (a b : List ℕ) → IsAnswer x → IsAnswer y → answer_octets x ++ a ≡ answer_octets y ++ b
    → (x ≡ y) × (a ≡ b)
unfolding answer_from
one_answer x y a b is_x is_y e =
    let first = one_header (header_of x) (header_of y) (x.body ++ a) (y.body ++ b) is_x is_y
    (sym (split x a) ∙ e ∙ split y b) in
    let sizes : length x.body ≡ length y.body = ap (λ (h : Header). h.octets) first.0 in
    let bodies : x.body ≡ y.body =
    sym (take_front x.body a (length x.body) refl) ∙ ap (λ l. take (length x.body) l) first.1
    ∙ take_front y.body b (length x.body) sizes in (
      ap (λ (h : Header). answer_from h x.body) first.0 ∙ ap (λ (l : List ℕ). answer_from (header_of y) l) bodies,
      sym (drop_front x.body a (length x.body) refl) ∙ ap (λ l. drop (length x.body) l) first.1
          ∙ drop_front y.body b (length x.body) sizes,
    )

-- what ends the answers is no whole answer
no_answer : (x : Answer) (rest behind : List ℕ) (last : Option Cut) → IsAnswer x → EndsWith behind last
    → behind ≡ answer_octets x ++ rest → ⊥
no_answer x rest behind None is ends e =
    omega (
      arith,
      ends,
      ap length (e ∙ split x rest),
      length-append (header_octets (header_of x))
          (x.body ++ rest),
      length-header (header_of x),
    )
no_answer x rest behind (Some cut) is ends e =
    let first = one_header cut.header (header_of x) cut.front (x.body ++ rest) ends.0.widths is
    (sym ends.1 ∙ e ∙ split x rest) in
    omega (arith, ends.0.short, ap (λ (h : Header). h.octets) first.0, ap length first.1, length-append x.body rest)

-- ---- one run

pub one_run : (a b x y : List ℕ) → length a < 2 ^ 32 → length b < 2 ^ 32 → run_octets a ++ x ≡ run_octets b ++ y
    → (a ≡ b) × (x ≡ y)
one_run a b x y short_a short_b e =
    let size : length a ≡ length b =
    sym (from_be_bytes-to_be_bytes_4 (length a) short_a) ∙ ap (λ (l : List ℕ). from_be_bytes w32 (take 4 l)) e
    ∙ from_be_bytes-to_be_bytes_4 (length b) short_b in
    let rest : a ++ x ≡ b ++ y = ap (λ (l : List ℕ). drop 4 l) e in (
      sym (take_front a x (length a) refl) ∙ ap (λ (l : List ℕ). take (length a) l) rest
          ∙ take_front b y (length a) size,
      sym (drop_front a x (length a) refl) ∙ ap (λ (l : List ℕ). drop (length a) l) rest
          ∙ drop_front b y (length a) size,
    )

-- ---- the whole runs go on behind those that were read

pub record GoesOn (xs ys : List (List ℕ)) (one other : List Answer) (rest : List ℕ) : Type 0 where
  pub more : List (List ℕ)
  pub told : List Answer
  pub runs_are : xs ≡ ys ++ more
  pub answers_are : one ≡ other ++ told
  pub rest_is : rest ≡ runs_octets more
  pub counted : RunsCount more told

goes_on : ShownOnce → (xs ys : List (List ℕ)) (one other : List Answer) (rest : List ℕ) → RunsCount xs one
    → RunsCount ys other
    → runs_octets xs ++ [] ≡ runs_octets ys ++ rest → GoesOn xs ys one other rest
goes_on once xs [] one other rest x y e = record {
  more = xs;
  told = one;
  runs_are = refl;
  answers_are = ap (λ (l : List Answer). l ++ one) (sym y);
  rest_is = sym e ∙ append-nil (runs_octets xs);
  counted = x;
}
goes_on once [] (w ∷ ys) one other rest x y e = absurd (cc)
goes_on once (v ∷ xs) (w ∷ ys) one other rest (own, later, counts, runs, is) (own_2, later_2, counts_2, runs_2, is_2) e
    =
    let first = one_run v w (runs_octets xs ++ []) (runs_octets ys ++ rest) counts.short counts_2.short
    (sym (append_assoc (run_octets v) (runs_octets xs) []) ∙ e ∙ append_assoc (run_octets w) (runs_octets ys) rest) in
    let on = goes_on once xs ys later later_2 rest runs runs_2 first.1 in
    let same : own ≡ own_2 = counted_once once v own own_2 counts.counts
    (subst (λ (l : List ℕ). CountsAnswers l own_2) (sym first.0) counts_2.counts) in
    record {
      more = on.more;
      told = on.told;
      runs_are = ap (λ (l : List (List ℕ)). v ∷ l) on.runs_are ∙ ap (λ (h : List ℕ). h ∷ (ys ++ on.more)) first.0;
      answers_are = is ∙ ap (λ (l : List Answer). own ++ l) on.answers_are
          ∙ ap (λ (l : List Answer). l ++ (later_2 ++ on.told)) same
          ∙ sym (append_assoc own_2 later_2 on.told) ∙ ap (λ (l : List Answer). l ++ on.told) (sym is_2);
      rest_is = on.rest_is;
      counted = on.counted;
    }

behind_beginning : (input : List ℕ) (xs ys : List (List ℕ)) (one other : List Answer) (rest : List ℕ)
    → ReadsRuns input xs one [] → ReadsRuns input ys other rest
    → runs_octets xs ++ [] ≡ runs_octets ys ++ rest
behind_beginning input xs ys one other rest x y = ap (λ (l : List ℕ). drop 8 l) (sym x.spelled ∙ y.spelled)

none_more : (more : List (List ℕ)) (told : List Answer) → [] ≡ runs_octets more → RunsCount more told
    → (more ≡ []) × (told ≡ [])
none_more [] told e counted = (refl, counted)
none_more (z ∷ more) told e counted = absurd (cc)

pub reads_once : ShownOnce → (input : List ℕ) (xs ys : List (List ℕ)) (one other : List Answer)
    → ReadsRuns input xs one [] → ReadsRuns input ys other []
    → (xs ≡ ys) × (one ≡ other)
reads_once once input xs ys one other x y =
    let on = goes_on once xs ys one other [] x.runs_are y.runs_are (behind_beginning input xs ys one other [] x y) in
    let none = none_more on.more on.told on.rest_is on.counted in (
      on.runs_are ∙ ap (λ (l : List (List ℕ)). ys ++ l) none.0 ∙ append-nil ys,
      on.answers_are ∙ ap (λ (l : List Answer). other ++ l) none.1 ∙ append-nil other,
    )

-- ---- no code that is none

abbrev HasCode : Answer → Type 0
HasCode answer = IsAnswerCode answer.code

code_told : (answers whole : List Answer) (last : Option Cut) (behind : List ℕ) (header : Header) (more : List ℕ)
    → All IsAnswer answers
    → All IsAnswer whole → EndsWith behind last → HasWidths header
    → answers_octets answers ++ (header_octets header ++ more) ≡ answers_octets whole ++ behind
    → All HasCode (whole ++ told_last last) → IsAnswerCode header.code
code_told [] [] None behind header more are is ends widths e known =
    absurd (omega (arith, ends, ap length e, length-append (header_octets header) more, length-header header))
code_told [] [] (Some cut) behind header more are is ends widths e known =
    let first = one_header header cut.header more cut.front widths ends.0.widths (e ∙ ends.1) in
    subst (λ (h : Header). IsAnswerCode h.code) (sym first.0) (All-head HasCode (as_answer cut) [] known)
code_told [] (w ∷ whole) last behind header more are is ends widths e known =
    let first = one_header header (header_of w) more (w.body ++ (answers_octets whole ++ behind)) widths
    (All-head IsAnswer w whole is)
    (e ∙ append_assoc (answer_octets w) (answers_octets whole) behind ∙ split w (answers_octets whole ++ behind)) in
    subst (λ (h : Header). IsAnswerCode h.code) (sym first.0) (All-head HasCode w (whole ++ told_last last) known)
code_told (a ∷ answers) [] last behind header more are is ends widths e known =
    absurd (no_answer a (answers_octets answers ++ (header_octets header ++ more)) behind last
    (All-head IsAnswer a answers are) ends
    (sym e ∙ append_assoc (answer_octets a) (answers_octets answers) (header_octets header ++ more)))
code_told (a ∷ answers) (w ∷ whole) last behind header more are is ends widths e known =
    let first = one_answer a w (answers_octets answers ++ (header_octets header ++ more))
    (answers_octets whole ++ behind)
    (All-head IsAnswer a answers are) (All-head IsAnswer w whole is)
    (sym (append_assoc (answer_octets a) (answers_octets answers) (header_octets header ++ more)) ∙ e
    ∙ append_assoc (answer_octets w) (answers_octets whole) behind) in
    code_told answers whole last behind header more (All-tail IsAnswer a answers are) (All-tail IsAnswer w whole is)
    ends widths first.1
    (All-tail HasCode w (whole ++ told_last last) known)

pub run_lacks_unknown : (sunk : List ℕ) (own : List Answer) (behind rest : List ℕ) (at_octet : ℕ) → RunCounts sunk own
    → rest ≡ run_octets sunk ++ behind
    → ¬ HasUnknown rest at_octet
run_lacks_unknown sunk own behind rest at_octet counts is has =
    let same = one_run sunk has.sunk behind has.behind counts.short has.short (sym is ∙ has.spelled) in
    let shows = counts.counts.shows in
    has.unknown (code_told has.answers counts.counts.whole counts.counts.last shows.behind has.header has.more has.are
    shows.answers_are shows.ends has.widths
    (sym has.front ∙ sym same.0 ∙ shows.spelled) (subst (All HasCode) counts.counts.answers_are counts.known))

pub not_malformed : ShownOnce → (input : List ℕ) (xs : List (List ℕ)) (one : List Answer) (offset : ℕ)
    → ReadsRuns input xs one [] → ¬ IsMalformedAt input offset
not_malformed once input xs one offset x (inl (lacks, at_start)) = lacks (runs_octets xs ++ [], x.spelled)
not_malformed once input xs one offset x (inr (ys, other, rest, y, some, faults)) =
    let on = goes_on once xs ys one other rest x.runs_are y.runs_are
    (behind_beginning input xs ys one other rest x y) in
    by_more on.more on.told on.rest_is on.counted faults
  where
    by_more : (more : List (List ℕ)) (told : List Answer) → rest ≡ runs_octets more → RunsCount more told
        → ((LacksRun rest × (offset ≡ length input - length rest))
        ⊎ ((at_octet : ℕ) × HasUnknown rest at_octet × (offset ≡ length input - length rest + at_octet))) → ⊥
    by_more [] told is counted faults = some is
    by_more (z ∷ more) told is (own, later, counts, runs, told_is) (inl (lacks, at_rest)) =
        lacks z (runs_octets more) counts.short is
    by_more (z ∷ more) told is (own, later, counts, runs, told_is) (inr (at_octet, has, at_unknown)) =
        run_lacks_unknown z own (runs_octets more) rest at_octet counts is has
