-- The numbers spent before a take are below the marks of the book found, as it is seen from before what led to the
-- take.
use Rattle.std.proofs.Common.{◌≡◌, ◌⊎◌, inl, inr, ℕ, ◌≤◌, Bool, List, ap, subst, sym, ◌∙◌}
use Rattle.sdls_base.specs.Numbers.{tally, once_below}
use Rattle.sdls_base.specs.declared.TheConstants.{MOST_KEYS}
use Rattle.counter_table.specs.declared.view.Known.{Known}
use Rattle.counter_table.specs.declared.view.Numbers.{Numbers}
use Rattle.counter_table.specs.declared.view.Turn.{Turn}
use Rattle.counter_table.specs.declared.view.View.{View}
use Rattle.counter_table.specs.Known.{known_mark}
use Rattle.counter_table.specs.Play.{IsCovered}
use Rattle.shared_unit.specs.Told.{known_of_book}
use Rattle.shared_unit.specs.Turn.{FindsCovered, Loads, Visits}
use Rattle.shared_unit.specs.Numbers.{ComesBack}
use Rattle.shared_unit.specs.Protecting.{CoversIfTaken}
use Rattle.shared_unit.proofs.Passing.{loaded_once, loading_none, loads_looks, none_looks, not_loaded}

-- a ticket that comes back spends no number
pub back_spent : (row end n : ℕ) (v w : Numbers) → ComesBack row end n v w → w.spent ≡ v.spent
back_spent row end n v w back = ap (λ (k : Numbers). k.spent) back.is ∙ ap (λ (k : Numbers). k.spent) back.draws.is

-- what covers the numbers covers them where none was spent since
covers_before : (v u : Numbers) (book : Known) → u.spent ≡ v.spent → IsCovered MOST_KEYS u book
    → IsCovered MOST_KEYS v book
covers_before v u book same covered = λ row x there.
    subst (λ (spent : List (ℕ × ℕ)). tally row x spent ≤ once_below x (known_mark book row)) same (covered row x there)

module _ (told : Bool) where
  pub covers_none : (v w : View) → w.turn ≡ v.turn → CoversIfTaken told v w
  covers_none v w is = inl (none_looks v.turn w.turn is)

  pub covers_loads : (e : ℕ) (v w : View) → Loads e v.turn w.turn → CoversIfTaken told v w
  covers_loads e v w loads = inl (loads_looks e v.turn w.turn loads)

  pub covers_after : (e : ℕ) (v u w : View) → Loads e v.turn u.turn → u.numbers.spent ≡ v.numbers.spent
      → FindsCovered told u w
      → CoversIfTaken told v w
  covers_after e v u w loads same finds = inr (
    1,
    e,
    loaded_once e v.turn u.turn loads,
    record {
      found = finds.found;
      given = finds.given;
      visits = subst (λ (t : Turn). Visits told finds.found finds.given t w.turn) loads.is finds.visits;
      covered = covers_before v.numbers u.numbers (known_of_book finds.found) same finds.covered;
    },
  )

  pub covers_on : (v u w : View) → u.numbers ≡ v.numbers
      → ((u.turn ≡ v.turn) ⊎ ((epoch : ℕ) × Loads epoch v.turn u.turn))
      → FindsCovered told u w → CoversIfTaken told v w
  covers_on v u w numbers (inl same) finds = inr (
    0,
    v.turn.epoch,
    not_loaded v.turn,
    record {
      found = finds.found;
      given = finds.given;
      visits = subst (λ (t : Turn). Visits told finds.found finds.given t w.turn) (same ∙ sym (loading_none v.turn))
          finds.visits;
      covered = covers_before v.numbers u.numbers (known_of_book finds.found) (ap (λ (k : Numbers). k.spent) numbers)
          finds.covered;
    },
  )
  covers_on v u w numbers (inr (epoch, loads)) finds =
      covers_after epoch v u w loads (ap (λ (k : Numbers). k.spent) numbers) finds
