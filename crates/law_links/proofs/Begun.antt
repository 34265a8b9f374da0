-- What holds of all answers of a run holds of those that were begun.
use Rattle.std.proofs.Common.{ℕ, ◌-◌, nat_lt, Bool, true, false, if◌then◌else◌, List, [], ◌∷◌, ◌++◌, length, arith}
use Rattle.std.specs.List.{All}
use Rattle.std.proofs.lemmas.List.Elements.{All-cons, All-nil, All-tail}
use Rattle.record_io.specs.Answers.{answer_octets}
use Rattle.run_promise.specs.Deed.{Deed}
use Rattle.run_promise.specs.Fits.{Course}
use Rattle.run_promise.specs.Life.{Given, answers_begun, given_of}

pub all_left : {X : Type 0} (P : X → Type 0) (xs ys : List X) → All P (xs ++ ys) → All P xs
all_left P [] ys h = All-nil P
all_left P (x ∷ xs) ys h = All-cons P x xs (h 0 x (omega arith)) (all_left P xs ys (All-tail P x (xs ++ ys) h))

pub all_right : {X : Type 0} (P : X → Type 0) (xs ys : List X) → All P (xs ++ ys) → All P ys
all_right P [] ys h = h
all_right P (x ∷ xs) ys h = all_right P xs ys (All-tail P x (xs ++ ys) h)

pub begun_any : (P : Deed → Type 0) (count : ℕ) (ds : List Deed) → All P ds → All P (answers_begun count ds)
begun_any P count [] h = h
begun_any P count (d ∷ ds) h =
    go (nat_lt 0 count) (begun_any P (count - length (answer_octets d.answer)) ds (All-tail P d ds h))
  where
    go : (b : Bool) → All P (answers_begun (count - length (answer_octets d.answer)) ds)
        → All P (if b then d ∷ answers_begun (count - length (answer_octets d.answer)) ds else [])
    go true rest = All-cons P d (answers_begun (count - length (answer_octets d.answer)) ds) (h 0 d (omega arith)) rest
    go false rest = All-nil P

pub given_all : (course : Course) (P : Given → Type 0) (ds : List Deed)
    → All (λ (d : Deed). P (record { course = course; deed = d })) ds → All P (given_of course ds)
given_all course P [] h = All-nil P
given_all course P (d ∷ ds) h =
    All-cons P (record { course = course; deed = d }) (given_of course ds) (h 0 d (omega arith))
    (given_all course P ds (All-tail (λ (d : Deed). P (record { course = course; deed = d })) d ds h))
