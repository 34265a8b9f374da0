-- A run that is read answer by answer, for `audit_answer` and `audit_run`.
use Rattle.std.proofs.Common.{◌≡◌, ◌⊎◌, ℕ, ◌+◌, ◌-◌, ◌<◌, ◌≤◌, Bool, List, [], ◌∷◌, ◌++◌, length, take, drop, Option}
use Rattle.std.proofs.Common.{inl, inr, refl, sym, ap, ◌∙◌, subst, arith, append_assoc, append-nil, length-append}
use Rattle.std.specs.List.{All}
use Rattle.std.proofs.lemmas.List.{take-append-le, take_all}
use Rattle.sdls_base.proofs.Endings.{drop_front}
use Rattle.record_io.specs.declared.answers.Answer.{Answer}
use Rattle.record_io.specs.Answers.{header_octets}
use Rattle.pair_audit.specs.declared.audit.Audit.{Audit}
use Rattle.pair_audit.specs.declared.audit.Repeat.{Repeat}
use Rattle.record_io.specs.declared.answers.AnswerHead.{AnswerHead}
use Rattle.pair_audit.specs.declared.walk.RunFound.{RunFound}
use Rattle.pair_audit.specs.declared.walk.RunFound.TheVariants as ends
use Rattle.pair_audit.specs.Audit.{HasHead}
use Rattle.pair_audit.specs.Counted.{CountsAnswers}
use Rattle.record_io.specs.AnswerReading.{as_answer}
use Rattle.record_io.specs.AnswerReading.{IsAnswerCode, IsKnownHead, StandsInFront, UnknownInFront, header_said}
use Rattle.pair_audit.specs.Taking.{Taking}
use Rattle.pair_audit.specs.Walk.{InRun, RunSaid, StandsWithin, Takes, UnknownAt, Walked}
use Rattle.pair_audit.proofs.Takings.{taking_then}
use Rattle.pair_audit.proofs.Walking.{walked_end, walked_more, walked_none, walked_unknown}

-- ---- an answer

-- the answer with this header and this body
abbrev pub answer_with : AnswerHead → List ℕ → Answer
answer_with head body = as_answer (record { header = header_said head; front = body })

pub says_head : (head : AnswerHead) (body : List ℕ) → HasHead head.code head.key head.number (answer_with head body)
says_head head body = record { code_is = refl; key_is = refl; number_is = refl }

no_more : (rest : List ℕ) → length rest ≡ 0 → rest ≡ []
no_more [] none = refl
no_more (octet ∷ rest) none = absurd (omega arith)

take_filled : (n : ℕ) (body rest : List ℕ) → length body ≤ n → (length body ≡ n) ⊎ (length rest ≡ 0)
    → take n (body ++ rest) ≡ body
take_filled n body rest few (inl whole) = take-append-le n body rest (omega arith) ∙ take_all n body few
take_filled n body rest few (inr none) =
    ap (λ (l : List ℕ). take n (body ++ l)) (no_more rest none) ∙ ap (take n) (append-nil body) ∙ take_all n body few

pub stands_within : (left len : ℕ) (header body : List ℕ) (head : AnswerHead) → IsKnownHead header head
    → length header ≡ 24 → 24 ≤ left
    → length body ≡ len → len ≤ head.len → len ≤ left - 24 → (len ≡ head.len) ⊎ (len ≡ left - 24)
    → StandsWithin left (header ++ body) (answer_with head body)
stands_within left len header body head known size enough body_size within_head within_left full = record {
  within = let whole = length-append header body in omega arith;
  header = let whole = length-append header body in omega arith;
  stands = λ rest fills. let filled = by_full rest fills full in record {
    header = header_said head;
    widths = known.widths;
    behind = body ++ rest;
    spelled = append_assoc header body rest ∙ ap (λ (l : List ℕ). l ++ (body ++ rest)) known.spelled;
    known = known.known;
    is_behind = record {
      answer_is = ap (λ (l : List ℕ). answer_with head l) (sym filled);
      count_is = length-append header body ∙ ap (λ (n : ℕ). n + length body) size;
    };
  };
}
  where
    by_full : (rest : List ℕ) → length (header ++ body) + length rest ≡ left → (len ≡ head.len) ⊎ (len ≡ left - 24)
        → take head.len (body ++ rest) ≡ body
    by_full rest fills (inl whole) = take_filled head.len body rest (omega arith) (inl (omega arith))
    by_full rest fills (inr all) =
        let whole = length-append header body in
        take_filled head.len body rest (omega arith) (inr (omega arith))

-- ---- a run

pub run_begun : (len : ℕ) → InRun len [] []
run_begun len = record { within = omega arith; few = omega arith; walked = λ rest fills. walked_none rest }

pub run_more : (len left : ℕ) (octets more : List ℕ) (own : List Answer) (answer : Answer) → InRun len octets own
    → left ≡ len - length octets
    → StandsWithin left more answer → InRun len (octets ++ more) (own ++ answer ∷ [])
run_more len left octets more own answer run left_is stands =
    let size : length (octets ++ more) ≡ length octets + length more = length-append octets more in
    let answers = length-append own (answer ∷ []) in
    let within = run.within in
    let few = run.few in
    let more_within = stands.within in
    let header = stands.header in
    record {
      within = omega arith;
      few = omega arith;
      walked = λ rest fills.
          let joined : octets ++ (more ++ rest) ≡ (octets ++ more) ++ rest = sym (append_assoc octets more rest) in
          let fills_more : length more + length rest ≡ left = omega arith in
          let more_size = length-append more rest in
          let whole = length-append octets (more ++ rest) in
          let behind : drop (length octets) (octets ++ (more ++ rest)) ≡ more ++ rest =
          drop_front octets (more ++ rest) (length octets) refl in
          let next : Walked (octets ++ (more ++ rest)) (length octets + length more) (own ++ answer ∷ []) =
          walked_more (octets ++ (more ++ rest)) (length octets) own answer (length more) (omega arith)
          (run.walked (more ++ rest) (omega arith))
          (subst (λ (l : List ℕ). StandsInFront l answer (length more)) (sym behind) (stands.stands rest fills_more)) in
          subst (λ (n : ℕ). Walked ((octets ++ more) ++ rest) n (own ++ answer ∷ [])) (sym size)
          (subst (λ (l : List ℕ). Walked l (length octets + length more) (own ++ answer ∷ [])) joined next);
    }

pub record WholeRun (octets : List ℕ) (own : List Answer) : Type 0 where
  pub counts : CountsAnswers octets own
  pub known : All (λ (answer : Answer). IsAnswerCode answer.code) own
  pub few : length own ≤ length octets

-- less than a header ends it
pub run_ends : (len left : ℕ) (octets rest : List ℕ) (own : List Answer) → InRun len octets own
    → left ≡ len - length octets → left < 24
    → length rest ≡ left → WholeRun (octets ++ rest) own
run_ends len left octets rest own run left_is low rest_is =
    let within = run.within in
    let walked = run.walked rest (omega arith) in
    let behind : drop (length octets) (octets ++ rest) ≡ rest = drop_front octets rest (length octets) refl in
    let size = length-append octets rest in
    let few = run.few in
    record {
      counts = walked_end (octets ++ rest) (length octets) own walked (let n = ap length behind in omega arith);
      known = walked.known;
      few = omega arith;
    }

unknown_more : (octets rest : List ℕ) → UnknownInFront octets → UnknownInFront (octets ++ rest)
unknown_more octets rest u = record {
  header = u.header;
  widths = u.widths;
  more = u.more ++ rest;
  spelled = ap (λ (l : List ℕ). l ++ rest) u.spelled ∙ append_assoc (header_octets u.header) u.more rest;
  unknown = u.unknown;
}

-- a header whose code is none stands in it
pub run_unknown : (len left : ℕ) (octets header rest : List ℕ) (own : List Answer) → InRun len octets own
    → left ≡ len - length octets
    → 24 ≤ left → length header ≡ 24 → UnknownInFront header → length rest ≡ left - 24
    → UnknownAt (octets ++ (header ++ rest)) (length octets)
run_unknown len left octets header rest own run left_is enough size unknown rest_is =
    let within = run.within in
    let tail = length-append header rest in
    let whole = length-append octets (header ++ rest) in
    let behind : drop (length octets) (octets ++ (header ++ rest)) ≡ header ++ rest =
    drop_front octets (header ++ rest) (length octets) refl in
    walked_unknown (octets ++ (header ++ rest)) (length octets) own (omega arith)
    (run.walked (header ++ rest) (omega arith))
    (subst UnknownInFront (sym behind) (unknown_more header rest unknown))

-- ---- the end of a run

-- the rest of a run was passed over, of which this is so if it is whole
pub rest_passed : (told : Bool) (taken len place : ℕ) (octets rest first middle last : List ℕ) (old new : Audit)
    (before : Option Repeat) (end said : RunFound)
    → place ≤ len → length octets ≡ place → Taking told taken place octets first middle
    → Taking told (taken + place) (len - place) rest middle last
    → (length rest ≡ len - place → RunSaid len old new before (octets ++ rest) end)
    → ((length rest ≡ len - place) × (said ≡ end)) ⊎ ((length rest < len - place) × (said ≡ ends.Cut))
    → (whole : List ℕ) × Taking told taken len whole first last × RunSaid len old new before whole said
rest_passed told taken len place octets rest first middle last old new before end said within size begun more is
    passed = (
      octets ++ rest,
      subst (λ (n : ℕ). Taking told taken n (octets ++ rest) first last) full
          (taking_then told taken place (len - place) octets rest first middle last begun size more),
      by_end passed,
    )
  where
    full : place + (len - place) ≡ len
    full = omega arith

    by_end : ((length rest ≡ len - place) × (said ≡ end)) ⊎ ((length rest < len - place) × (said ≡ ends.Cut))
        → RunSaid len old new before (octets ++ rest) said
    by_end (inl (all, same)) = subst (RunSaid len old new before (octets ++ rest)) (sym same) (is all)
    by_end (inr (less, same)) =
        let whole = length-append octets rest in
        subst (RunSaid len old new before (octets ++ rest)) (sym same) (omega arith)

-- a whole run
pub whole_said : (len place : ℕ) (octets rest : List ℕ) (own : List Answer) (old new : Audit)
    (before later : Option Repeat) → length octets ≡ place
    → InRun len octets own → Takes old new before later own → place ≤ len → len - place < 24 → length rest ≡ len - place
    → RunSaid len old new before (octets ++ rest) (ends.Whole later)
whole_said len place octets rest own old new before later size run takes within low all =
    let is = run_ends len (len - place) octets rest own run (omega arith) low all in
    let whole = length-append octets rest in
    (omega arith, (own, is.counts, is.known, is.few, takes))

-- one with a code that is none
pub unknown_said : (len place : ℕ) (octets header rest : List ℕ) (own : List Answer) (old new : Audit)
    (before : Option Repeat) → length octets ≡ place
    → InRun len octets own → place ≤ len → 24 ≤ len - place → length header ≡ 24 → UnknownInFront header
    → length rest ≡ len - (place + 24)
    → RunSaid len old new before ((octets ++ header) ++ rest) (ends.Unknown place)
unknown_said len place octets header rest own old new before size run within enough header_size unknown all =
    let joined : octets ++ (header ++ rest) ≡ (octets ++ header) ++ rest = sym (append_assoc octets header rest) in
    let whole = length-append (octets ++ header) rest in
    let front = length-append octets header in
    let is = run_unknown len (len - place) octets header rest own run (omega arith) enough header_size unknown
    (omega arith) in (
      omega arith,
      subst (λ (n : ℕ). UnknownAt ((octets ++ header) ++ rest) n) size
          (subst (λ (l : List ℕ). UnknownAt l (length octets)) joined is),
    )
