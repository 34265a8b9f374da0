-- Three ways of a number: below the limit at once; its ticket came back and the turn was taken; and under the turn.
use Rattle.std.proofs.Common.{◌≡◌, ℕ, ◌+◌, ◌≤◌, ◌==◌, false, List, [], ◌∷◌, ◌++◌, refl, sym, ap, subst, ◌∙◌, arith}
use Rattle.counter_table.specs.declared.view.Numbers.{Numbers}
use Rattle.counter_table.specs.Numbers.{top, arming, drawing, spending, returning, lifting}
use Rattle.shared_unit.specs.Numbers.{Draws, Spends, ComesBack, Lifts, UsesNumber}
use Rattle.shared_unit.proofs.Tops.{top-append, top_here}

top_else : (row r n : ℕ) (ps : List (ℕ × ℕ)) → (row == r) ≡ false → top r (ps ++ (row, n) ∷ []) ≡ top r ps
top_else row r n ps apart = rw (top-append r ps ((row, n) ∷ []), apart) (omega arith)

module _ (row end n next : ℕ) (v : Numbers) (found : top row v.nexts ≤ next) (follows : next ≤ n) where
  left_is : top row ((v.nexts ++ (row, next) ∷ []) ++ (row, n + 1) ∷ []) ≡ n + 1
  left_is = let a = top_here row (n + 1) (v.nexts ++ (row, next) ∷ []) in let b = top_here row next v.nexts in
      omega arith

  others_are : (r : ℕ) → (row == r) ≡ false → top r ((v.nexts ++ (row, next) ∷ []) ++ (row, n + 1) ∷ []) ≡ top r v.nexts
  others_are r apart = top_else row r (n + 1) (v.nexts ++ (row, next) ∷ []) apart ∙ top_else row r next v.nexts apart

  pub spent_at_once : (limit : ℕ) → UsesNumber row n 0 v (spending row n limit (drawing row n (arming row end next v)))
  spent_at_once limit = record {
    drawn = refl;
    spent = refl;
    added = refl;
    raised = refl;
    shares = refl;
    tickets = omega arith;
    found = omega arith;
    left = left_is;
    others = others_are;
  }

  pub spent_lifted : (limit mark : ℕ)
      → UsesNumber row n 0 v (spending row n limit (lifting row mark (drawing row n (arming row end next v))))
  spent_lifted limit mark = record {
    drawn = refl;
    spent = refl;
    added = refl;
    raised = refl;
    shares = refl;
    tickets = omega arith;
    found = omega arith;
    left = left_is;
    others = others_are;
  }

  pub spent_later : (limit mark low : ℕ)
      → UsesNumber row n 1 v
      (spending row n limit (lifting row mark (returning row low (drawing row n (arming row end next v)))))
  spent_later limit mark low = record {
    drawn = refl;
    spent = refl;
    added = refl;
    raised = refl;
    shares = refl;
    tickets = omega arith;
    found = omega arith;
    left = left_is;
    others = others_are;
  }

pub spends_uses : (row end n : ℕ) (v w : Numbers) → Spends row end n v w → UsesNumber row n 0 v w
spends_uses row end n v w s =
    let d = s.draws in
    subst (λ (k : Numbers). UsesNumber row n 0 v k) (sym (s.is ∙ ap (spending row n s.limit) d.is))
    (spent_at_once row end n d.next v d.found d.follows s.limit)

pub holder_uses : (row end n : ℕ) (v u w : Numbers) → Draws row end n v u → Lifts row n u w → UsesNumber row n 0 v w
holder_uses row end n v u w d l =
    subst (λ (k : Numbers). UsesNumber row n 0 v k)
    (sym (l.is ∙ ap (λ (k : Numbers). spending row n l.limit (lifting row l.mark k)) d.is))
    (spent_lifted row end n d.next v d.found d.follows l.limit l.mark)

pub funded_uses : (row end n : ℕ) (v u w : Numbers) → ComesBack row end n v u → Lifts row n u w → UsesNumber row n 1 v w
funded_uses row end n v u w b l =
    let d = b.draws in
    subst (λ (k : Numbers). UsesNumber row n 1 v k)
    (sym (l.is ∙ ap (λ (k : Numbers). spending row n l.limit (lifting row l.mark k))
    (b.is ∙ ap (returning row b.limit) d.is)))
    (spent_later row end n d.next v d.found d.follows l.limit l.mark b.limit)
