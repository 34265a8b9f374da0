-- What a run began with that goes on from an opening, and permits that are kept.
use Rattle.std.proofs.Common.{ℕ, Bool, List, set, get_or, Option, Some, None, refl}
use Rattle.std.specs.List.{All}
use Rattle.std.proofs.lemmas.List.Elements.{All-set}
use Rattle.sdls_base.specs.declared.TheConstants.{MOST_KEYS}
use Rattle.counter_table.specs.declared.view.Opening.{Opening}
use Rattle.counter_table.specs.declared.view.Turn.{Turn}
use Rattle.shared_unit.specs.declared.permit.OpenPermit.{OpenPermit}
use Rattle.shared_unit.specs.declared.permit.Permit.{Permit}
use Rattle.shared_unit.specs.Opening.{IsOpenTrueIfKept}
use Rattle.shared_unit.specs.Protecting.{IsTrueIfKept}
use Rattle.shared_unit.specs.Turn.{KnowsMoreOfBook}
use Rattle.shared_unit.proofs.Opening.{open_stays}
use Rattle.shared_unit.proofs.Trust.{permit_stays}
use Rattle.frame_workers.specs.declared.lane.Permits.{Permits}
use Rattle.frame_workers.specs.Permits.{AreTrueFor}
use Rattle.run_promise.specs.Call.{Begin}
use Rattle.law_workers.specs.Began.{BeganWith}

-- a run that began with the opening
pub begun_at : Bool → Opening → Begin
begun_at told opening = record { rows = MOST_KEYS; told = told; plan = opening.plan; start = opening.start }

pub began_at : (told : Bool) (opening : Opening) → BeganWith told (begun_at told opening) opening
unfolding begun_at
began_at told opening = record { rows = refl; tells = refl; plan = refl; start = refl }

-- permits stay true where what is known grows
pub protect_stays : (kept : Option Permit) (v w : Turn) → KnowsMoreOfBook v w → IsTrueIfKept kept v
    → IsTrueIfKept kept w
protect_stays None v w grows is = is
protect_stays (Some permit) v w grows is = permit_stays permit v w grows is

pub opening_stays : (kept : Option OpenPermit) (v w : Turn) → KnowsMoreOfBook v w → IsOpenTrueIfKept kept v
    → IsOpenTrueIfKept kept w
opening_stays None v w grows is = is
opening_stays (Some permit) v w grows is = open_stays permit v w grows is

pub permits_stay : (permits : Permits) (v w : Turn) → KnowsMoreOfBook v w → AreTrueFor permits v → AreTrueFor permits w
permits_stay permits v w grows is = record {
  to_protect = protect_stays permits.to_protect v w grows is.to_protect;
  to_open = opening_stays permits.to_open v w grows is.to_open;
}

-- with other permits at a place, all are true
pub kept_at : (all : List Permits) (place : ℕ) (permits : Permits) (v w : Turn) → KnowsMoreOfBook v w
    → All (λ p. AreTrueFor p v) all
    → AreTrueFor permits w → All (λ p. AreTrueFor p w) (set all place permits)
kept_at all place permits v w grows each here =
    All-set (λ p. AreTrueFor p w) all place permits here
    (λ k d low. permits_stay (get_or all k d) v w grows (each k d low))

-- all stay true
pub all_stay : (all : List Permits) (v w : Turn) → KnowsMoreOfBook v w → All (λ p. AreTrueFor p v) all
    → All (λ p. AreTrueFor p w) all
all_stay all v w grows each k d low = permits_stay (get_or all k d) v w grows (each k d low)
