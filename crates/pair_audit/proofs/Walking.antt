-- How an audit comes through a recording, for the functions of `walk`.
use Rattle.std.proofs.Common.{◌≡◌, ◌⊎◌, ℕ, ◌+◌, ◌-◌, ◌<◌, ◌≤◌, List, [], ◌∷◌, ◌++◌, length, take, drop, Option, Some}
use Rattle.std.proofs.Common.{None, inl, inr, refl, sym, ap, ◌∙◌, subst, arith, append_assoc, length-append}
use Rattle.std.specs.Prelude.{slice_get}
use Rattle.std.specs.List.{All}
use Rattle.std.proofs.Math.Seq.{take-add, take-append-add}
use Rattle.std.proofs.lemmas.Bool.{cases_lt}
use Rattle.std.proofs.lemmas.List.{append-nil, take-append-drop, take-append-le, take_all, length-drop, length-take-le}
use Rattle.std.proofs.lemmas.List.Elements.{All-nil, All-push}
use Rattle.std.proofs.lemmas.Option.{slice_get_within}
use Rattle.record_io.specs.declared.answers.Answer.{Answer}
use Rattle.record_io.specs.Answers.{Header, Cut, HasWidths, IsAnswer, IsCut, answer_octets, answers_octets}
use Rattle.record_io.specs.Answers.{header_octets, header_of}
use Rattle.pair_audit.specs.declared.audit.Audit.{Audit}
use Rattle.pair_audit.specs.declared.audit.Repeat.{Repeat}
use Rattle.pair_audit.specs.Audit.{KnowsAudit, TellsOf, TellsRepeat}
use Rattle.pair_audit.specs.Counted.{CountsAnswers}
use Rattle.record_io.specs.AnswerReading.{as_answer}
use Rattle.record_io.specs.AnswerReading.{IsAnswerCode, StandsInFront, UnknownInFront}
use Rattle.pair_audit.specs.Recording.{IsTheRepeat}
use Rattle.pair_audit.specs.Repeats.{AreUnlike, RepeatNothing}
use Rattle.pair_audit.specs.Walk.{IsOutcome, Takes, UnknownAt, Walked, earlier_of}
use Rattle.pair_audit.proofs.Pairs.{pairs_push}
use Rattle.pair_audit.proofs.Repeating.{both_repeat}
use Rattle.pair_audit.proofs.Seen.{get_left, get_seam, take_seam}

-- ---- the first repeat

the_repeat : (fed : List Answer) (answer : Answer) (repeat : Repeat) → RepeatNothing fed → TellsRepeat fed answer repeat
    → IsTheRepeat (fed ++ answer ∷ []) repeat
the_repeat fed answer repeat nothing told =
    let low : repeat.first < length fed = slice_get_within fed repeat.first told.one told.at_first in
    let second = told.second in
    record {
      is_first = record {
        order = omega arith;
        one = told.one;
        other = answer;
        at_first = get_left fed (answer ∷ []) repeat.first low ∙ told.at_first;
        at_second = ap (slice_get (fed ++ answer ∷ [])) second ∙ get_seam fed answer [];
        repeats = both_repeat repeat told.one answer told.both;
        least_first = subst (λ (l : List Answer). All (λ (a : Answer). AreUnlike a answer) l)
            (sym (take-append-le repeat.first fed (answer ∷ []) (omega arith))) told.none_before;
        least_second = subst RepeatNothing
            (sym (ap (λ (n : ℕ). take n (fed ++ answer ∷ [])) second ∙ take_seam fed (answer ∷ []))) nothing;
      };
      both = told.both;
    }

still_the_repeat : (fed more : List Answer) (repeat : Repeat) → IsTheRepeat fed repeat
    → IsTheRepeat (fed ++ more) repeat
still_the_repeat fed more repeat is =
    let f = is.is_first in
    let low : repeat.second < length fed = slice_get_within fed repeat.second f.other f.at_second in
    let order = f.order in
    record {
      is_first = record {
        order = f.order;
        one = f.one;
        other = f.other;
        at_first = get_left fed more repeat.first (omega arith) ∙ f.at_first;
        at_second = get_left fed more repeat.second low ∙ f.at_second;
        repeats = f.repeats;
        least_first = subst (λ (l : List Answer). All (λ (a : Answer). AreUnlike a f.other) l)
            (sym (take-append-le repeat.first fed more (omega arith))) f.least_first;
        least_second = subst RepeatNothing (sym (take-append-le repeat.second fed more (omega arith))) f.least_second;
      };
      both = is.both;
    }

outcome_more : (fed : List Answer) (answer : Answer) (first told : Option Repeat) → IsOutcome fed first
    → TellsOf fed answer told
    → IsOutcome (fed ++ answer ∷ []) (earlier_of first told)
outcome_more fed answer None None nothing unlike = pairs_push AreUnlike fed answer nothing unlike
outcome_more fed answer None (Some repeat) nothing tells = the_repeat fed answer repeat nothing tells
outcome_more fed answer (Some repeat) told is tells = still_the_repeat fed (answer ∷ []) repeat is

pub takes_one : (old new : Audit) (answer : Answer) (first later told : Option Repeat)
    → ((fed : List Answer) → KnowsAudit fed old → KnowsAudit (fed ++ answer ∷ []) new)
    → ((fed : List Answer) → KnowsAudit fed old → TellsOf fed answer told) → later ≡ earlier_of first told
    → Takes old new first later (answer ∷ [])
takes_one old new answer first later told knows tells is = record {
  knows = knows;
  outcome = λ fed known outcome.
      subst (IsOutcome (fed ++ answer ∷ [])) (sym is) (outcome_more fed answer first told outcome (tells fed known));
}

pub takes_none : (audit : Audit) (first : Option Repeat) → Takes audit audit first first []
takes_none audit first = record {
  knows = λ fed known. subst (λ (l : List Answer). KnowsAudit l audit) (sym (append-nil fed)) known;
  outcome = λ fed known outcome. subst (λ (l : List Answer). IsOutcome l first) (sym (append-nil fed)) outcome;
}

pub takes_more : (old middle new : Audit) (first next later : Option Repeat) (own more : List Answer)
    → Takes old middle first next own
    → Takes middle new next later more → Takes old new first later (own ++ more)
takes_more old middle new first next later own more x y = record {
  knows = λ fed known. subst (λ (l : List Answer). KnowsAudit l new) (append_assoc fed own more)
      (y.knows (fed ++ own) (x.knows fed known));
  outcome = λ fed known outcome.
      subst (λ (l : List Answer). IsOutcome l later) (append_assoc fed own more)
      (y.outcome (fed ++ own) (x.knows fed known) (x.outcome fed known outcome));
}

-- ---- the octets of a run

abbrev HasCode : Answer → Type 0
HasCode answer = IsAnswerCode answer.code

pub walked_none : (octets : List ℕ) → Walked octets 0 []
walked_none octets = record {
  within = omega arith;
  few = omega arith;
  known = All-nil HasCode;
  told = inl (All-nil IsAnswer, refl);
}

-- an answer in front is whole, or all that is left of it
pub record InFront (octets : List ℕ) (answer : Answer) (count : ℕ) : Type 0 where
  pub within : count ≤ length octets
  pub some : 0 < count
  pub told : (IsAnswer answer × (take count octets ≡ answer_octets answer))
      ⊎ ((count ≡ length octets) × (cut : Cut) × IsCut cut × (octets ≡ header_octets cut.header ++ cut.front)
      × (answer ≡ as_answer cut))

in_front : (octets : List ℕ) (answer : Answer) (count : ℕ) → StandsInFront octets answer count
    → InFront octets answer count
unfolding answer_octets
in_front octets answer count s =
    let is = s.is_behind in
    let size : length octets ≡ 24 + length s.behind =
    ap length s.spelled ∙ length-append (header_octets s.header) s.behind in
    let body : length answer.body ≡ length (take s.header.octets s.behind) =
    ap (λ (a : Answer). length a.body) is.answer_is in
    by_size size body (cases_lt (length s.behind) s.header.octets)
  where
    front_is : (n : ℕ) → length (take n s.behind) ≡ n → count ≡ 24 + n → take count octets ≡ header_octets s.header
        ++ take n s.behind
    front_is n size is = ap (λ (m : ℕ). take m octets) is ∙ ap (take (24 + n)) s.spelled
        ∙ take-append-add (header_octets s.header) s.behind n

    by_size : length octets ≡ 24 + length s.behind → length answer.body ≡ length (take s.header.octets s.behind)
        → (length s.behind < s.header.octets) ⊎ (s.header.octets ≤ length s.behind) → InFront octets answer count
    by_size size body (inl low) =
        let all : take s.header.octets s.behind ≡ s.behind = take_all s.header.octets s.behind (omega arith) in
        let count_is = s.is_behind.count_is in
        let same : length (take s.header.octets s.behind) ≡ length s.behind = ap length all in
        record {
          within = omega arith;
          some = omega arith;
          told = inr (
            omega arith,
            record { header = s.header; front = s.behind },
            record { widths = s.widths; short = low },
            s.spelled,
            s.is_behind.answer_is ∙ ap (λ (l : List ℕ). as_answer (record { header = s.header; front = l })) all,
          );
        }
    by_size size body (inr high) =
        let whole : length (take s.header.octets s.behind) ≡ s.header.octets =
        length-take-le s.header.octets s.behind high in
        let count_is = s.is_behind.count_is in
        let made : Answer = as_answer (record { header = s.header; front = take s.header.octets s.behind }) in
        let header_same : header_of made ≡ s.header = ap (λ (n : ℕ). record {
          code = s.header.code;
          detail = s.header.detail;
          key = s.header.key;
          octets = n;
          position = s.header.position;
          number = s.header.number;
        }) whole in
        record {
          within = omega arith;
          some = omega arith;
          told = inl (
            subst IsAnswer (sym s.is_behind.answer_is) (subst HasWidths (sym header_same) s.widths),
            front_is s.header.octets whole (omega arith)
                ∙ sym (ap (λ (h : Header). header_octets h ++ take s.header.octets s.behind) header_same)
                ∙ ap answer_octets (sym s.is_behind.answer_is),
          );
        }

octets-push : (xs : List Answer) (x : Answer) → answers_octets (xs ++ x ∷ []) ≡ answers_octets xs ++ answer_octets x
octets-push [] x = append-nil (answer_octets x)
octets-push (y ∷ xs) x =
    ap (λ (l : List ℕ). answer_octets y ++ l) (octets-push xs x)
    ∙ sym (append_assoc (answer_octets y) (answers_octets xs) (answer_octets x))

code_in_front : (octets : List ℕ) (answer : Answer) (count : ℕ) → StandsInFront octets answer count → HasCode answer
code_in_front octets answer count s = subst HasCode (sym s.is_behind.answer_is) s.known

pub walked_more : (octets : List ℕ) (place : ℕ) (own : List Answer) (answer : Answer) (count : ℕ)
    → place < length octets → Walked octets place own
    → StandsInFront (drop place octets) answer count → Walked octets (place + count) (own ++ answer ∷ [])
walked_more octets place own answer count low walked s =
    by_told walked.told (in_front (drop place octets) answer count s)
  where
    left : length (drop place octets) ≡ length octets - place
    left = length-drop place octets

    known : All HasCode (own ++ answer ∷ [])
    known = All-push HasCode own answer walked.known (code_in_front (drop place octets) answer count s)

    few : 0 < count → length (own ++ answer ∷ []) ≤ place + count
    few some = let size = length-append own (answer ∷ []) in let few = walked.few in omega arith

    by_told : ((All IsAnswer own × (take place octets ≡ answers_octets own))
        ⊎ ((place ≡ length octets) × CountsAnswers octets own))
        → InFront (drop place octets) answer count → Walked octets (place + count) (own ++ answer ∷ [])
    by_told (inr (end, counts)) f = absurd (omega arith)
    by_told (inl (are, front)) f = by_front f f.told
      where
        by_front : (f : InFront (drop place octets) answer count)
            → ((IsAnswer answer × (take count (drop place octets) ≡ answer_octets answer))
            ⊎ ((count ≡ length (drop place octets)) × (cut : Cut) × IsCut cut
            × (drop place octets ≡ header_octets cut.header ++ cut.front) × (answer ≡ as_answer cut)))
            → Walked octets (place + count) (own ++ answer ∷ [])
        by_front f (inl (is, octets_are)) =
            let within = f.within in
            let size = left in
            record {
              within = omega arith;
              few = few f.some;
              known = known;
              told = inl (
                All-push IsAnswer own answer are is,
                take-add place count octets ∙ ap (λ (l : List ℕ). l ++ take count (drop place octets)) front
                    ∙ ap (λ (l : List ℕ). answers_octets own ++ l) octets_are ∙ sym (octets-push own answer),
              );
            }
        by_front f (inr (all, cut, is_cut, spelled, answer_is)) =
            let within = f.within in
            let size = left in
            record {
              within = omega arith;
              few = few f.some;
              known = known;
              told = inr (
                omega arith,
                record {
                  whole = own;
                  last = Some cut;
                  shows = record {
                    answers_are = are;
                    behind = drop place octets;
                    spelled = sym (take-append-drop place octets) ∙ ap (λ (l : List ℕ). l ++ drop place octets) front;
                    ends = (is_cut, spelled);
                  };
                  answers_are = ap (λ (a : Answer). own ++ a ∷ []) answer_is;
                },
              );
            }

pub walked_end : (octets : List ℕ) (place : ℕ) (own : List Answer) → Walked octets place own
    → length (drop place octets) < 24 → CountsAnswers octets own
walked_end octets place own walked short = by_told walked.told
  where
    by_told : ((All IsAnswer own × (take place octets ≡ answers_octets own))
        ⊎ ((place ≡ length octets) × CountsAnswers octets own)) → CountsAnswers octets own
    by_told (inr (end, counts)) = counts
    by_told (inl (are, front)) = record {
      whole = own;
      last = None;
      shows = record {
        answers_are = are;
        behind = drop place octets;
        spelled = sym (take-append-drop place octets) ∙ ap (λ (l : List ℕ). l ++ drop place octets) front;
        ends = short;
      };
      answers_are = sym (append-nil own);
    }

pub walked_unknown : (octets : List ℕ) (place : ℕ) (own : List Answer) → place < length octets → Walked octets place own
    → UnknownInFront (drop place octets) → UnknownAt octets place
walked_unknown octets place own low walked unknown = by_told walked.told
  where
    by_told : ((All IsAnswer own × (take place octets ≡ answers_octets own))
        ⊎ ((place ≡ length octets) × CountsAnswers octets own)) → UnknownAt octets place
    by_told (inr (end, counts)) = absurd (omega arith)
    by_told (inl (are, front)) = record {
      answers = own;
      are = are;
      known = walked.known;
      in_front = unknown;
      front = front;
      within = walked.within;
    }

-- the octets from a place on, as a range
pub rest_range : (octets : List ℕ) (place : ℕ) → take (length octets - place) (drop place octets) ≡ drop place octets
rest_range octets place = take_all (length octets - place) (drop place octets)
    (let size = length-drop place octets in omega arith)
