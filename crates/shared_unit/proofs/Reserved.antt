-- A reserve that succeeds leaves the mark of the key's row above the number.
use Rattle.std.proofs.Common.{◌≡◌, ◌⊎◌, inl, inr, ℕ, ◌<◌, ◌≤◌, nat_lt, Bool, true, false, if◌then◌else◌, Some, Ok, refl}
use Rattle.std.proofs.Common.{ap, ◌∙◌, arith}
use Rattle.std.proofs.lemmas.Bool.Decides.{nat_tests}
use Rattle.key_book.specs.KeyBook.{place_of}
use Rattle.unit_state.proofs.StateLaws.{places_kept}
use Rattle.counter_table.specs.declared.view.Numbers.{Numbers}
use Rattle.counter_table.specs.Known.{known_mark}
use Rattle.counter_table.specs.Numbers.{lifting, spending, returning, peeking}
use Rattle.unit_book.specs.Book.{BookView, Made}
use Rattle.run_promise.specs.Numbers.{mark_of as held_mark, reserve_of}
use Rattle.shared_unit.specs.Told.{known_of_book}
use Rattle.shared_unit.specs.Numbers.{Lifts}
use Rattle.shared_unit.specs.Funding.{Reserves}
use Rattle.unit_book.proofs.Places.{mark_placed}

pub reserves_place : (key n mark row : ℕ) (found given : BookView) → Reserves key n (Ok mark) found given
    → place_of found.state.keys key ≡ Some row → place_of given.state.keys key ≡ Some row
reserves_place key n mark row found given h place = by_case h.2 where
  by_case : ((n < held_mark found.state key) × (given ≡ found))
      ⊎ ((held_mark found.state key ≤ n)
      × ((position : ℕ) × Made (reserve_of found.plan found.state key n) found given position))
      → place_of given.state.keys key ≡ Some row
  by_case (inl p) = ap (λ (b : BookView). place_of b.state.keys key) p.1 ∙ place
  by_case (inr p) = ap (λ (b : BookView). place_of b.state.keys key) p.1.1.1.is
      ∙ places_kept found.state (reserve_of found.plan found.state key n).change key row place

pub reserved_mark : (key n mark row : ℕ) (found given : BookView) → Reserves key n (Ok mark) found given
    → place_of found.state.keys key ≡ Some row → n < known_mark (known_of_book given) row
reserved_mark key n mark row found given h place =
    let a = mark_placed given.state key row (reserves_place key n mark row found given h place) in
    let b = h.1 in
    let c = h.0 in omega arith

pub not_both : (n limit : ℕ) → nat_lt n limit ≡ false → n < limit → ⊥
not_both n limit e h = grind (arith, nat_tests)

pub lifts : (row n mark limit r : ℕ) (v u w : Numbers) → r ≡ row → u ≡ lifting row mark v → w ≡ peeking r n limit u
    → n < limit → n < mark
    → Lifts row n v w
lifts row n mark limit r v u w same up is below above = by_test (nat_lt n limit) refl is where
  by_test : (b : Bool) → nat_lt n limit ≡ b → w ≡ (if b then spending r n limit u else returning r limit u)
      → Lifts row n v w
  by_test true e k = record {
    mark = mark;
    limit = limit;
    above = above;
    funded = below;
    is = k ∙ ap (λ (q : ℕ). spending q n limit u) same ∙ ap (spending row n limit) up;
  }
  by_test false e k = absurd (not_both n limit e below)
