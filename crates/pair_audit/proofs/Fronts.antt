-- A front of the octets of answers counts those whose header is whole.
use Rattle.std.proofs.Common.{◌≡◌, ℕ, zero, suc, ◌+◌, ◌-◌, ◌<◌, ◌≤◌, nat_lt, if◌then◌else◌, Bool, true, false, List, []}
use Rattle.std.proofs.Common.{◌∷◌, ◌++◌, length, take, Option, Some, None, ⊎_elim, refl, sym, ap, ◌∙◌, subst, arith}
use Rattle.std.proofs.Common.{append_assoc, length-append}
use Rattle.std.specs.List.{All}
use Rattle.std.proofs.Math.Seq.{take-append-add}
use Rattle.std.proofs.lemmas.Bool.{cases_lt}
use Rattle.std.proofs.lemmas.Bool.Decides.{nat_tests}
use Rattle.std.proofs.lemmas.List.{length-take, length-take-le, take-append-le}
use Rattle.std.proofs.lemmas.List.Elements.{All-head, All-tail, All-nil, All-cons}
use Rattle.record_io.specs.declared.answers.Answer.{Answer}
use Rattle.record_io.specs.Answers.{Cut, IsAnswer, ShowsAnswers, header_octets, header_of, answer_octets}
use Rattle.record_io.specs.Answers.{answers_octets}
use Rattle.pair_audit.specs.Counted.{told_last, CountsAnswers, counted_of, TellAlike}
use Rattle.record_io.specs.AnswerReading.{as_answer}

alike_same : (answers : List Answer) → TellAlike answers answers
alike_same [] = tt
alike_same (a ∷ tail) = (record { code = refl; key = refl; number = refl }, alike_same tail)

length-answer : (a : Answer) → length (answer_octets a) ≡ 24 + length a.body
unfolding answer_octets
length-answer a = length-append (header_octets (header_of a)) a.body

-- what a front shows
pub record IsFront (count : ℕ) (answers : List Answer) : Type 0 where
  pub counted : List Answer
  pub counts : CountsAnswers (take count (answers_octets answers)) counted
  pub alike : TellAlike counted (counted_of count answers)

none_of : (answers : List Answer) → counted_of 0 answers ≡ []
none_of [] = refl
none_of (a ∷ tail) = refl

short_front : (count : ℕ) (a : Answer) (tail : List Answer) → count < 24 → IsFront count (a ∷ tail)
short_front count a tail low =
    let octets : List ℕ = take count (answers_octets (a ∷ tail)) in
    record {
      counted = [];
      counts = record {
        whole = [];
        last = None;
        shows = record {
          answers_are = All-nil IsAnswer;
          behind = take count (answers_octets (a ∷ tail));
          spelled = refl;
          ends = let few = length-take count (answers_octets (a ∷ tail)) in omega arith;
        };
        answers_are = refl;
      };
      alike = let test : nat_lt count 24 ≡ true = grind (arith, nat_tests) in
          subst (λ (b : Bool). TellAlike [] (if b then [] else a ∷ counted_of (count - length (answer_octets a)) tail))
          (sym test) tt;
    }

cut_front : (m : ℕ) (a : Answer) (tail : List Answer) → IsAnswer a → m < length a.body
    → take (24 + m) (answers_octets (a ∷ tail)) ≡ header_octets (header_of a) ++ take m a.body
unfolding answer_octets
cut_front m a tail is low =
    let size = length-append (header_octets (header_of a)) a.body in
    take-append-le (24 + m) (answer_octets a) (answers_octets tail) (omega arith)
    ∙ take-append-add (header_octets (header_of a)) a.body m

middle_front : (count : ℕ) (a : Answer) (tail : List Answer) → IsAnswer a → 24 ≤ count
    → count < length (answer_octets a) → IsFront count (a ∷ tail)
middle_front count a tail is least most =
    let size = length-answer a in
    let inside : count - 24 < length a.body = omega arith in
    let is_count : 24 + (count - 24) ≡ count = omega arith in
    let spelled : take count (answers_octets (a ∷ tail)) ≡ header_octets (header_of a) ++ take (count - 24) a.body =
    ap (λ (n : ℕ). take n (answers_octets (a ∷ tail))) (sym is_count) ∙ cut_front (count - 24) a tail is inside in
    let test : nat_lt count 24 ≡ false = grind (arith, nat_tests) in
    let gone : count - length (answer_octets a) ≡ 0 = omega arith in
    record {
      counted = as_answer (record { header = header_of a; front = take (count - 24) a.body }) ∷ [];
      counts = record {
        whole = [];
        last = Some (record { header = header_of a; front = take (count - 24) a.body });
        shows = record {
          answers_are = All-nil IsAnswer;
          behind = take count (answers_octets (a ∷ tail));
          spelled = refl;
          ends = (
            record {
              widths = is;
              short = let few =
                  length-take-le (count - 24) a.body (omega arith) in omega arith;
            },
            spelled,
          );
        };
        answers_are = refl;
      };
      alike = subst (λ (b : Bool). TellAlike
          (as_answer (record { header = header_of a; front = take (count - 24) a.body }) ∷ [])
          (if b then [] else a ∷ counted_of (count - length (answer_octets a)) tail)) (sym test) (
            record { code = refl; key = refl; number = refl },
            subst (TellAlike []) (sym (ap (λ (n : ℕ). counted_of n tail) gone ∙ none_of tail)) tt,
          );
    }

whole_front : (count : ℕ) (a : Answer) (tail : List Answer) → IsAnswer a → length (answer_octets a) ≤ count
    → IsFront (count - length (answer_octets a)) tail
    → IsFront count (a ∷ tail)
whole_front count a tail is least rest =
    let size = length-answer a in
    let is_count : length (answer_octets a) + (count - length (answer_octets a)) ≡ count = omega arith in
    let spelled : take count (answers_octets (a ∷ tail)) ≡ answer_octets a ++ take (count - length (answer_octets a))
    (answers_octets tail) =
    ap (λ (n : ℕ). take n (answers_octets (a ∷ tail))) (sym is_count)
    ∙ take-append-add (answer_octets a) (answers_octets tail) (count - length (answer_octets a)) in
    let test : nat_lt count 24 ≡ false = grind (arith, nat_tests) in
    let shows = rest.counts.shows in
    record {
      counted = a ∷ rest.counted;
      counts = record {
        whole = a ∷ rest.counts.whole;
        last = rest.counts.last;
        shows = record {
          answers_are = All-cons IsAnswer a rest.counts.whole is shows.answers_are;
          behind = shows.behind;
          spelled = spelled ∙ ap (λ (l : List ℕ). answer_octets a ++ l) shows.spelled
              ∙ sym (append_assoc (answer_octets a) (answers_octets rest.counts.whole) shows.behind);
          ends = shows.ends;
        };
        answers_are = ap (λ (l : List Answer). a ∷ l) rest.counts.answers_are;
      };
      alike = subst (λ (b : Bool). TellAlike (a ∷ rest.counted)
          (if b then [] else a ∷ counted_of (count - length (answer_octets a)) tail)) (sym test)
          (record { code = refl; key = refl; number = refl }, rest.alike);
    }

take_none : (count : ℕ) → take {A = ℕ} count [] ≡ []
take_none zero = refl
take_none (suc count) = refl

no_front : (count : ℕ) → IsFront count []
no_front count = record {
  counted = [];
  counts = record {
    whole = [];
    last = None;
    shows = record {
      answers_are = All-nil IsAnswer;
      behind = [];
      spelled = take_none count;
      ends = omega arith;
    };
    answers_are = refl;
  };
  alike = tt;
}

pub front_of : (answers : List Answer) → All IsAnswer answers → (count : ℕ) → IsFront count answers
front_of [] are count = no_front count
front_of (a ∷ tail) are count =
    ⊎_elim (λ (low : count < 24). short_front count a tail low)
    (λ (high : 24 ≤ count). ⊎_elim
    (λ (inside : count < length (answer_octets a)). middle_front count a tail (All-head IsAnswer a tail are)
    high inside)
    (λ (behind : length (answer_octets a) ≤ count). whole_front count a tail (All-head IsAnswer a tail are) behind
    (front_of tail (All-tail IsAnswer a tail are) (count - length (answer_octets a))))
    (cases_lt count (length (answer_octets a))))
    (cases_lt count 24)

abbrev pub ShownOnce : Type 0
ShownOnce = (octets : List ℕ) (xs ys : List Answer) (c d : Option Cut) → ShowsAnswers octets xs c
    → ShowsAnswers octets ys d → (xs ≡ ys) × (c ≡ d)

-- the answers that octets count are one list
pub counted_once : ShownOnce → (octets : List ℕ) (xs ys : List Answer) → CountsAnswers octets xs
    → CountsAnswers octets ys → xs ≡ ys
counted_once once octets xs ys x y =
    let one = once octets x.whole y.whole x.last y.last x.shows y.shows in
    x.answers_are ∙ ap (λ (l : List Answer). l ++ told_last x.last) one.0
    ∙ ap (λ (o : Option Cut). y.whole ++ told_last o) one.1 ∙ sym y.answers_are

pub counts : ShownOnce → (answers : List Answer) → All IsAnswer answers → (count : ℕ) (counted : List Answer)
    → CountsAnswers (take count (answers_octets answers)) counted → TellAlike counted (counted_of count answers)
counts once answers are count counted is =
    let front = front_of answers are count in
    subst (λ (l : List Answer). TellAlike l (counted_of count answers))
    (counted_once once (take count (answers_octets answers)) front.counted counted front.counts is) front.alike
