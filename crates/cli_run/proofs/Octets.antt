-- Octets that are put one after the other: for the puts of a session.
use Rattle.std.proofs.Common.{◌≡◌, ℕ, suc, ◌+◌, ◌<◌, ◌≤◌, ◌⊎◌, min, List, [], ◌∷◌, ◌++◌, length, take, drop, get_or}
use Rattle.std.proofs.Common.{refl, sym, ◌∙◌, ap, subst, inl, inr, arith, length-append, append_assoc, Result, Ok, Err}
use Rattle.std.proofs.Math.Seq.{take-suc}
use Rattle.std.proofs.lemmas.List.{append-nil, take_at, take-append-le, length-take, take-append-drop}
use Rattle.sdls_outside.specs.Moments.{Trace, Between}
use Rattle.sdls_outside.specs.Site.{Sank, Puts}
use Rattle.sdls_outside.proofs.Moments.{between-old}
use Rattle.record_io.specs.declared.answers.Answer.{Answer}
use Rattle.record_io.specs.Answers.{answer_octets}
use Rattle.record_io.specs.Answers.{answers_octets}
use Rattle.cli_run.specs.Putting.{Adds, TakesOver}

front_short : (old whole s : List ℕ) → Between old whole s → length s ≤ length whole
front_short old whole s between =
    let size : length s ≡ min (length s) (length whole) =
    ap (λ (octets : List ℕ). length octets) between.prefix ∙ length-take (length s) whole in
    omega arith

-- a front of some octets is one of more
pub between_wider : (old xs ys s : List ℕ) → Between old (old ++ xs) s → Between old (old ++ (xs ++ ys)) s
between_wider old xs ys s between = record {
  least = between.least;
  prefix = between.prefix ∙ sym (take-append-le (length s) (old ++ xs) ys (front_short old (old ++ xs) s between))
      ∙ ap (take (length s)) (append_assoc old xs ys);
}

pub between_later : (old xs ys mid s : List ℕ) → mid ≡ old ++ xs → Between mid (mid ++ ys) s
    → Between old (old ++ (xs ++ ys)) s
between_later old xs ys mid s is between =
    let size : length mid ≡ length old + length xs =
    ap (λ (octets : List ℕ). length octets) is ∙ length-append old xs in
    let low : length mid ≤ length s = between.least in
    record {
      least = omega arith;
      prefix = between.prefix ∙ ap (λ (octets : List ℕ). take (length s) (octets ++ ys)) is
          ∙ ap (take (length s)) (append_assoc old xs ys);
    }

pub nothing_between : (old xs : List ℕ) → Between old (old ++ xs) old
nothing_between old xs = between-old old (old ++ xs) (take_at old xs (length old) refl)

-- what a put that failed has sunk
pub failed_put : (octets : List ℕ) (old new : Trace) → (new ≡ old) ⊎ Sank octets old new
    → Between old.now.sunk (old.now.sunk ++ octets) new.now.sunk
failed_put octets old new (inl same) =
    subst (λ (trace : Trace). Between old.now.sunk (old.now.sunk ++ octets) trace.now.sunk) (sym same)
    (nothing_between old.now.sunk octets)
failed_put octets old new (inr sank) = sank.sunk

pub puts_adds : {T E : Type 0} → (octets : List ℕ) (result : Result T E) (old new : Trace) → Puts octets result old new
    → Adds octets result old.now.sunk new.now.sunk
puts_adds octets (Ok value) old new puts = puts.1
puts_adds octets (Err error) old new puts = failed_put octets old new puts

-- more octets behind
pub adds_then : {T E : Type 0} → (xs ys : List ℕ) (result : Result T E) (old mid new : List ℕ) → mid ≡ old ++ xs
    → Adds ys result mid new
    → Adds (xs ++ ys) result old new
adds_then xs ys (Ok value) old mid new is adds =
    adds ∙ ap (λ (octets : List ℕ). octets ++ ys) is ∙ append_assoc old xs ys
adds_then xs ys (Err error) old mid new is adds = between_later old xs ys mid new is adds

pub answers_append : (xs ys : List Answer) → answers_octets (xs ++ ys) ≡ answers_octets xs ++ answers_octets ys
answers_append [] ys = refl
answers_append (x ∷ xs) ys =
    ap (λ (octets : List ℕ). answer_octets x ++ octets) (answers_append xs ys)
    ∙ sym (append_assoc (answer_octets x) (answers_octets xs) (answers_octets ys))

one_answer : (answer : Answer) → answers_octets (answer ∷ []) ≡ answer_octets answer
one_answer answer = append-nil (answer_octets answer)

pub next_answer : (answers : List Answer) (i : ℕ) (answer : Answer) → i < length answers
    → answer ≡ get_or answers i answer
    → take (i + 1) answers ≡ take i answers ++ answer ∷ []
next_answer answers i answer low is =
    ap (λ (n : ℕ). take n answers) (let more : i + 1 ≡ suc i = omega arith in more) ∙ take-suc answers i answer low
    ∙ ap (λ (a : Answer). take i answers ++ a ∷ []) (sym is)

-- one answer more
pub put_more : (answers : List Answer) (i : ℕ) (answer : Answer) (old mid new : List ℕ) → i < length answers
    → answer ≡ get_or answers i answer
    → mid ≡ old ++ answers_octets (take i answers) → new ≡ mid ++ answer_octets answer
    → new ≡ old ++ answers_octets (take (i + 1) answers)
put_more answers i answer old mid new low is first second =
    second ∙ ap (λ (octets : List ℕ). octets ++ answer_octets answer) first
    ∙ append_assoc old (answers_octets (take i answers)) (answer_octets answer)
    ∙ ap (λ (octets : List ℕ). old ++ octets)
    (ap (λ (octets : List ℕ). answers_octets (take i answers) ++ octets) (sym (one_answer answer))
    ∙ sym (answers_append (take i answers) (answer ∷ [])) ∙ ap answers_octets
    (sym (next_answer answers i answer low is)))

-- a front of a piece and of an answer behind it, where the piece follows what was sunk
pub put_some : (answers : List Answer) (i : ℕ) (answer : Answer) (old mid piece new : List ℕ) → i < length answers
    → answer ≡ get_or answers i answer
    → mid ++ piece ≡ old ++ answers_octets (take i answers) → length old ≤ length mid
    → Between mid (mid ++ (piece ++ answer_octets answer)) new → Between old (old ++ answers_octets answers) new
put_some answers i answer old mid piece new low is first least between =
    let joined : mid ++ (piece ++ answer_octets answer)
    ≡ old ++ (answers_octets (take i answers) ++ answer_octets answer) =
    sym (append_assoc mid piece (answer_octets answer)) ∙ ap (λ (octets : List ℕ). octets ++ answer_octets answer) first
    ∙ append_assoc old (answers_octets (take i answers)) (answer_octets answer) in
    let longer : length mid ≤ length new = between.least in
    let here : Between old (old ++ (answers_octets (take i answers) ++ answer_octets answer)) new = record {
      least = omega arith;
      prefix = between.prefix ∙ ap (take (length new)) joined;
    } in
    let front : answers_octets (take i answers) ++ answer_octets answer ≡ answers_octets (take (i + 1) answers) =
    ap (λ (octets : List ℕ). answers_octets (take i answers) ++ octets) (sym (one_answer answer))
    ∙ sym (answers_append (take i answers) (answer ∷ [])) ∙ ap answers_octets
    (sym (next_answer answers i answer low is)) in
    let whole : answers_octets (take (i + 1) answers) ++ answers_octets (drop (i + 1) answers)
    ≡ answers_octets answers =
    sym (answers_append (take (i + 1) answers) (drop (i + 1) answers)) ∙ ap answers_octets
    (take-append-drop (i + 1) answers) in
    subst (λ (octets : List ℕ). Between old (old ++ octets) new) whole
    (between_wider old (answers_octets (take (i + 1) answers)) (answers_octets (drop (i + 1) answers)) new
    (subst (λ (octets : List ℕ). Between old (old ++ octets) new) front here))

-- the last piece
pub put_last : {T E : Type 0} → (octets old mid piece : List ℕ) (result : Result T E) (new : List ℕ)
    → mid ++ piece ≡ old ++ octets → length old ≤ length mid
    → Adds piece result mid new → Adds octets result old new
put_last octets old mid piece (Ok value) new is least adds = adds ∙ is
put_last octets old mid piece (Err error) new is least adds =
    let longer : length mid ≤ length new = adds.least in
    record { least = omega arith; prefix = adds.prefix ∙ ap (take (length new)) is }

-- the piece put, and an answer taken over behind it
pub takes_behind : {T E : Type 0} → (octets old mid new piece_old piece_new : List ℕ) (result : Result T E)
    → mid ≡ old ++ piece_old
    → TakesOver octets result [] piece_new mid new → TakesOver octets result piece_old piece_new old new
takes_behind octets old mid new piece_old piece_new (Ok value) is (least, whole) = (
  omega (arith, least, ap length is, length-append old piece_old),
  whole ∙ ap (λ (l : List ℕ). l ++ octets) (append-nil mid ∙ is),
)
takes_behind octets old mid new piece_old piece_new (Err error) is between =
    between_later old piece_old octets mid new is between
