-- The lanes that have records, for the clauses of `used_lanes`.
use Rattle.std.proofs.Common.{◌≡◌, ℕ, ◌+◌, ◌<◌, Bool, true, false, List, length, take, set, get_or, eq-eqb, refl, sym}
use Rattle.std.proofs.Common.{ap, subst, ◌∙◌, inl, inr, arith, get_or-set_other, get_or-set_same}
use Rattle.std.specs.Prelude.{◌||◌}
use Rattle.std.specs.List.{list_any}
use Rattle.std.proofs.lemmas.Bool.{cases_eq}
use Rattle.std.proofs.lemmas.Bool.Decides.{nat_tests}
use Rattle.std.proofs.lemmas.List.Folds.{list_any_more}
use Rattle.record_io.specs.declared.item_cursor.Record.{Record}
use Rattle.record_io.specs.declared.reader.TheConstants.{LANES}
use Rattle.law_workers.specs.Lanes.{is_of_lane}
use Rattle.frame_workers.specs.Lanes.{IsUsed}

or_true : (a b : Bool) → b ≡ true → (a || b) ≡ true
or_true true b is = refl
or_true false b is = is

or_false : (a b : Bool) → b ≡ false → (a || b) ≡ a
or_false true b is = refl
or_false false b is = is

own_lane : (number : ℕ) (task : Record) → task.lane ≡ number → is_of_lane number task ≡ true
own_lane number task is = eq-eqb task.lane number is

other_lane : (number : ℕ) (task : Record) → (task.lane ≡ number → ⊥) → is_of_lane number task ≡ false
other_lane number task off = grind (arith, nat_tests)

-- with one record more its lane is used, and each other one as before
pub used_more : (lanes : List Bool) (tasks : List Record) (k : ℕ) (task : Record) → task ≡ get_or tasks k task
    → k < length tasks
    → task.lane < length lanes → IsUsed lanes (take k tasks) → IsUsed (set lanes task.lane true) (take (k + 1) tasks)
used_more lanes tasks k task here low inside used number below =
    let more : list_any (is_of_lane number) (take (k + 1) tasks)
    ≡ (list_any (is_of_lane number) (take k tasks) || is_of_lane number task) =
    list_any_more (is_of_lane number) tasks k task low
    ∙ ap (λ (t : Record). list_any (is_of_lane number) (take k tasks) || is_of_lane number t) (sym here) in
    elim (cases_eq task.lane number) [
      | inl is ↦ subst (λ (n : ℕ). get_or (set lanes task.lane true) n false ≡ true) is
          (get_or-set_same lanes task.lane true false inside)
          ∙ sym (more ∙ or_true (list_any (is_of_lane number) (take k tasks)) (is_of_lane number task)
          (own_lane number task is))
      | inr off ↦ get_or-set_other lanes task.lane number true false (λ e. off (sym e)) ∙ used number below
          ∙ sym (more ∙ or_false (list_any (is_of_lane number) (take k tasks)) (is_of_lane number task)
          (other_lane number task off))
    ]

-- what stands at the place of a lane
pub used_at : (tasks : List Record) (lanes : List Bool) (number place : ℕ) (is : Bool) → IsUsed lanes tasks
    → number < LANES → place ≡ number
    → get_or lanes place false ≡ is → list_any (is_of_lane number) tasks ≡ is
used_at tasks lanes number place is used below same here =
    sym (used number below) ∙ ap (λ (n : ℕ). get_or lanes n false) (sym same) ∙ here
