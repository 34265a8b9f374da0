-- The greatest word of a row, one pair later; and what a draw says of it.
use Rattle.std.proofs.Common.{◌≡◌, ℕ, ◌<◌, ◌≤◌, max, List, [], ◌∷◌, ◌++◌, refl, sym, ap, subst, ◌∙◌, arith, eq-eqb}
use Rattle.std.proofs.Common.{Some, Ok}
use Rattle.counter_table.specs.declared.view.Numbers.{Numbers}
use Rattle.counter_table.specs.Numbers.{top, arming, drawing, lifting}
use Rattle.shared_unit.specs.Numbers.{Draws, IsDrawAnswer}

pub top-append : (row : ℕ) (ps qs : List (ℕ × ℕ)) → top row (ps ++ qs) ≡ max (top row ps) (top row qs)
top-append row [] qs = omega arith
top-append row (p ∷ ps) qs = let h = top-append row ps qs in omega arith

pub top_here : (row n : ℕ) (ps : List (ℕ × ℕ)) → top row (ps ++ (row, n) ∷ []) ≡ max (top row ps) n
top_here row n ps = rw (top-append row ps ((row, n) ∷ []), eq-eqb row row refl) (omega arith)

pub draws : (row end n m : ℕ) (v u w : Numbers) → top row v.nexts ≤ m → u ≡ arming row end m v → m < end
    → top row u.nexts ≤ n → 0 < n → w ≡ drawing row n u → Draws row end n v w
draws row end n m v u w found armed below later positive drawn =
    let seen : top row (v.nexts ++ (row, m) ∷ []) ≤ n = subst (λ (k : Numbers). top row k.nexts ≤ n) armed later in
    record {
      next = m;
      found = found;
      follows = (let h = top_here row m v.nexts in omega arith);
      armed = below;
      positive = positive;
      is = drawn ∙ ap (drawing row n) armed;
    }

pub drawn_ok : (row end m r : ℕ) (t : ℕ × ℕ) (v u w : Numbers) → r ≡ row → top row v.nexts ≤ m → u ≡ arming row end m v
    → m < end
    → t.0 ≡ r → top r u.nexts ≤ t.1 → 0 < t.1 → w ≡ drawing r t.1 u → t.1 < end → IsDrawAnswer row end (Ok t) v w
drawn_ok row end m r t v u w same found armed below own later positive drawn fits =
    let last : w.last ≡ Some (t.0, t.1) =
    ap (λ (k : Numbers). k.last) drawn ∙ ap (λ (q : ℕ). Some (q, t.1)) (sym own) in (
      own ∙ same,
      fits,
      last,
      draws row end t.1 m v u w found armed below (subst (λ (q : ℕ). top q u.nexts ≤ t.1) same later) positive
          (drawn ∙ ap (λ (q : ℕ). drawing q t.1 u) same),
    )

-- after a lift the limit is above each number below the mark
pub funded_after_lift : (row n mark limit : ℕ) (v u : Numbers) → u ≡ lifting row mark v → top row u.limits ≤ limit
    → n < mark → n < limit
funded_after_lift row n mark limit v u lifted later below =
    let seen : top row (v.limits ++ (row, mark) ∷ []) ≤ limit =
    subst (λ (k : Numbers). top row k.limits ≤ limit) lifted later in
    let h = top_here row mark v.limits in omega arith
