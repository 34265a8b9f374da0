-- Octets taken one after the other, for the functions of `taking` and `walk`.
use Rattle.std.proofs.Common.{◌≡◌, ℕ, ◌+◌, ◌-◌, ◌<◌, ◌≤◌, Bool, IsTrue, List, [], ◌++◌, length, take, refl, sym, ap}
use Rattle.std.proofs.Common.{◌∙◌, subst, arith, append_assoc, append-nil, length-append}
use Rattle.std.proofs.Math.Seq.{take-append-add}
use Rattle.record_io.specs.Input.{MOST_OCTETS}
use Rattle.record_io.specs.Steps.{still_counted}
use Rattle.pair_audit.specs.Taking.{Taking}

pub taking_none : (told : Bool) (taken : ℕ) (left : List ℕ) → taken ≤ MOST_OCTETS → Taking told taken 0 [] left left
taking_none told taken left few = record {
  moved = λ is. refl;
  within = omega arith;
  counted = omega arith;
  ended = λ low is. absurd (omega arith);
}

-- all that were due, and more
pub taking_then : (told : Bool) (taken n m : ℕ) (a b first middle last : List ℕ) → Taking told taken n a first middle
    → length a ≡ n
    → Taking told (taken + n) m b middle last → Taking told taken (n + m) (a ++ b) first last
taking_then told taken n m a b first middle last x all y =
    let size : length (a ++ b) ≡ length a + length b = length-append a b in
    let within = y.within in
    let counted = y.counted in
    let place : (taken + n) + length b ≡ taken + length (a ++ b) = omega arith in
    record {
      moved = λ is. x.moved is ∙ ap (λ (l : List ℕ). a ++ l) (y.moved is) ∙ sym (append_assoc a b last);
      within = omega arith;
      counted = omega arith;
      ended = λ low is. subst (λ (p : ℕ). still_counted p last ≡ []) place (y.ended (omega arith) is);
    }

-- fewer than were due are fewer than more
pub taking_short : (told : Bool) (taken n m : ℕ) (a first last : List ℕ) → Taking told taken n a first last
    → length a < n → n ≤ m
    → Taking told taken m a first last
taking_short told taken n m a first last x low more = record {
  moved = x.moved;
  within = omega arith;
  counted = x.counted;
  ended = λ less is. x.ended low is;
}

-- what counted before are the octets taken, and what counts behind them
pub taking_counted : (told : Bool) (taken n : ℕ) (a first last : List ℕ) → Taking told taken n a first last
    → IsTrue told
    → still_counted taken first ≡ a ++ still_counted (taken + length a) last
taking_counted told taken n a first last x is =
    let counted = x.counted in
    let size : MOST_OCTETS - taken ≡ length a + (MOST_OCTETS - (taken + length a)) = omega arith in
    ap (still_counted taken) (x.moved is) ∙ ap (λ (k : ℕ). take k (a ++ last)) size
    ∙ take-append-add a last (MOST_OCTETS - (taken + length a))

pub taking_ended : (told : Bool) (taken n : ℕ) (a first last : List ℕ) → Taking told taken n a first last → length a < n
    → IsTrue told
    → still_counted taken first ≡ a
taking_ended told taken n a first last x low is =
    taking_counted told taken n a first last x is ∙ ap (λ (l : List ℕ). a ++ l) (x.ended low is) ∙ append-nil a
