-- Octets cut into pieces, and pieces written one after the other.
use Rattle.std.proofs.Common.{◌≡◌, ℕ, zero, suc, ◌+◌, ◌≤◌, ◌<◌, Bool, List, [], ◌∷◌, ◌++◌, length, take, drop, get_or}
use Rattle.std.proofs.Common.{refl, sym, ◌∙◌, ap, arith, append_assoc}
use Rattle.std.proofs.lemmas.List.{take-append-drop, drop-drop, take-take, append_cancel_left}
use Rattle.std.proofs.lemmas.Grind.{common_steps}
use Rattle.sdls_base.specs.ErrorControl.{with_error_control, error_control_length}

-- from a to e and from e on is from a on
pub drop_in_two : (s : List ℕ) (a e : ℕ) → a ≤ e → drop a (take e s) ++ drop e s ≡ drop a s
drop_in_two s a e h =
    let cut : take a (take e s) ≡ take a s = take-take a e s h in
    let whole : take a s ++ (drop a (take e s) ++ drop e s) ≡ take a s ++ drop a s =
    sym (append_assoc (take a s) (drop a (take e s)) (drop e s))
    ∙ ap (λ l. (l ++ drop a (take e s)) ++ drop e s) (sym cut)
    ∙ ap (λ l. l ++ drop e s) (take-append-drop a (take e s))
    ∙ take-append-drop e s ∙ sym (take-append-drop a s) in
    append_cancel_left (take a s) (drop a (take e s) ++ drop e s) (drop a s) whole

-- an octet of a front is an octet
pub get_or-take_small : (s : List ℕ) (n m i : ℕ) → 0 < m → get_or s i 0 < m → get_or (take n s) i 0 < m
get_or-take_small [] n m i pos h = grind (arith, common_steps)
get_or-take_small (x ∷ s) zero m i pos h = pos
get_or-take_small (x ∷ s) (suc n) m zero pos h = h
get_or-take_small (x ∷ s) (suc n) m (suc i) pos h = get_or-take_small s n m i pos h

-- the front of out is text, and the rest is as it was at the start
pub record Written (start out : List ℕ) (at : ℕ) (text : List ℕ) : Type 0 where
  pub front : take at out ≡ text
  pub rest : drop at out ≡ drop at start

pub written_none : (start : List ℕ) → Written start start 0 []
written_none start = record { front = grind (arith, common_steps); rest = refl }

pub written_more : (start out : List ℕ) (at : ℕ) (text : List ℕ) → Written start out at text
    → (octets after : List ℕ) (next : ℕ) → next ≡ at + length octets → take next after ≡ take at out ++ octets
    → drop next after ≡ drop next out
    → Written start after next (text ++ octets)
written_more start out at text w octets after next n front rest = record {
  front = front ∙ ap (λ l. l ++ octets) w.front;
  rest = rest ∙ ap (λ k. drop k out) n ∙ sym (drop-drop (length octets) at out) ∙ ap (λ l. drop (length octets) l)
      w.rest ∙ drop-drop (length octets) at start ∙ ap (λ k. drop k start) (sym n);
}

pub written_error_control : (start out : List ℕ) (at : ℕ) (text : List ℕ) → Written start out at text
    → (fecf : Bool) (after : List ℕ) (next : ℕ) → next ≡ at + error_control_length fecf
    → take next after ≡ with_error_control fecf (take at out) → drop next after ≡ drop next out
    → Written start after next (with_error_control fecf text)
written_error_control start out at text w fecf after next n front rest = record {
  front = front ∙ ap (λ l. with_error_control fecf l) w.front;
  rest = rest ∙ ap (λ k. drop k out) n ∙ sym (drop-drop (error_control_length fecf) at out)
      ∙ ap (λ l. drop (error_control_length fecf) l) w.rest ∙ drop-drop (error_control_length fecf) at start
      ∙ ap (λ k. drop k start) (sym n);
}

pub written_whole : (start out : List ℕ) (at : ℕ) (text : List ℕ) → Written start out at text
    → out ≡ text ++ drop at start
written_whole start out at text w =
    sym (take-append-drop at out) ∙ ap (λ l. l ++ drop at out) w.front ∙ ap (λ l. text ++ l) w.rest

-- the pieces from a, from a + i and from e on are the whole
pub pieces_whole : (s front : List ℕ) (a i e : ℕ) → s ≡ front ++ drop a s → a + i ≤ e
    → ((front ++ take i (drop a s)) ++ drop (a + i) (take e s)) ++ drop e s ≡ s
pieces_whole s front a i e whole h =
    append_assoc (front ++ take i (drop a s)) (drop (a + i) (take e s)) (drop e s)
    ∙ ap (λ l. (front ++ take i (drop a s)) ++ l) (drop_in_two s (a + i) e h ∙ sym (drop-drop i a s))
    ∙ append_assoc front (take i (drop a s)) (drop i (drop a s))
    ∙ ap (λ l. front ++ l) (take-append-drop i (drop a s)) ∙ sym whole
