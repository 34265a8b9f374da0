-- A step that notes a job.
use Rattle.std.proofs.Common.{◌≡◌, ◌⊎◌, ℕ, ◌+◌, ◌<◌, List, [], ◌∷◌, ◌++◌, length, true, false, Bool, slice_set, refl}
use Rattle.std.proofs.Common.{sym, ap, ◌∙◌, subst}
use Rattle.std.proofs.Common.{inl, inr, arith}
use Rattle.std.proofs.Common.{length-append}
use Rattle.std.proofs.lemmas.Bool.{eqb-true, eq-eqb}
use Rattle.std.proofs.Math.Dec.{eqb}
use Rattle.logbook.specs.Pages.{Cell, cell}
use prog.Atomic.{either}

at_home : (cs : List Cell) (v : Cell) → (cell cs 0).1 ≡ true → cell (slice_set cs 0 v) 0 ≡ v
at_home [] v e = absurd (let t : false ≡ true = e in cc)
at_home (c ∷ cs) v e = refl

pub there : (cs : List Cell) (k : ℕ) → k ≡ 0 → (cell cs 0).1 ≡ true → k < length cs
there [] k is e = absurd (let t : false ≡ true = e in cc)
there (c ∷ cs) k is e = omega arith

-- the word and the log after a step that finds n
abbrev pub Added : {E : Type 0} → List Cell → List E → ℕ → ℕ → E → Type 0
Added {E} cs log place k ask = (more : List E)
    × (cell (slice_set cs k (either (eqb (cell cs k).0 place) (place + 1) (cell cs k).0, true)) 0
    ≡ (length (log ++ more), true))
    × ((cell cs k).0 ≡ place → (front : List E) × (length front ≡ (cell cs k).0) × (log ++ more ≡ front ++ ask ∷ []))

module _ {E : Type 0} (cs : List Cell) (log : List E) (place : ℕ) (ask : E) (h : cell cs 0 ≡ (length log, true)) where
  added_by : (b : Bool) → eqb (cell cs 0).0 place ≡ b → Added cs log place 0 ask
  added_by true e =
      let found : (cell cs 0).0 ≡ place = eqb-true (cell cs 0).0 place e in
      let long : (cell cs 0).0 ≡ length log = ap (λ (c : Cell). c.0) h in
      let more = length-append log (ask ∷ []) in
      let count : place + 1 ≡ length (log ++ ask ∷ []) = omega arith in (
        ask ∷ [],
        at_home cs _ (ap (λ (c : Cell). c.1) h)
            ∙ ap (λ (b : Bool). (either b (place + 1) (cell cs 0).0, true)) e ∙ ap (λ (m : ℕ). (m, true)) count,
        λ same. (log, sym long, refl),
      )
  added_by false e =
      let long : (cell cs 0).0 ≡ length log = ap (λ (c : Cell). c.0) h in
      let none : List E = [] in
      let more = length-append log none in
      let count : (cell cs 0).0 ≡ length (log ++ none) = omega arith in (
        none,
        at_home cs _ (ap (λ (c : Cell). c.1) h)
            ∙ ap (λ (b : Bool). (either b (place + 1) (cell cs 0).0, true)) e ∙ ap (λ (m : ℕ). (m, true)) count,
        λ same. absurd (let t : true ≡ false = sym (eq-eqb (cell cs 0).0 place same) ∙ e in cc),
      )

  pub added : (k : ℕ) → k ≡ 0 → Added cs log place k ask
  added k is = subst (λ (k : ℕ). Added cs log place k ask) (sym is) (added_by (eqb (cell cs 0).0 place) refl)
