-- The epoch beside an answer: that of the book held, or the one that was loaded.
use Rattle.std.proofs.Common.{◌≡◌, ◌⊎◌, inl, inr, ℕ, ◌+◌, Bool, List, Option, Some, None, Ok, refl, sym, ap, subst, ◌∙◌}
use Rattle.unit_plan.specs.PlanLines.{PlanLines}
use Rattle.frame_checks.specs.ProtectingFrames.{channel_check}
use Rattle.counter_table.specs.declared.view.Turn.{Turn}
use Rattle.counter_table.specs.declared.view.View.{View}
use Rattle.unit_book.specs.Book.{BookView}
use Rattle.shared_unit.specs.declared.permit.Permit.{Permit}
use Rattle.shared_unit.specs.declared.permit.Protected.{Protected}
use Rattle.shared_unit.specs.declared.permit.Protected.TheVariants as answers
use Rattle.shared_unit.specs.Permit.{IsOfPermit}
use Rattle.shared_unit.specs.Turn.{Visits, Loads}
use Rattle.shared_unit.specs.UnderTurn.{IsFinished}
use Rattle.shared_unit.specs.Protecting.{FindsEpoch, HasLoaded, IfEpoch, IsEpochOf, LoadsByKept}
use Rattle.shared_unit.proofs.Passing.{takes_on, visit_takes}

-- a frame without a channel is of no permit
pub loads_none : (plan : PlanLines) (link : ℕ) (clear : List ℕ) (kept : Option Permit) (v : Turn)
    → ((channel : ℕ) → channel_check plan link clear ≡ Ok (Some channel) → ⊥)
    → LoadsByKept plan link clear kept v v
loads_none plan link clear None v none = refl
loads_none plan link clear (Some p) v none =
    (λ linked of. absurd (none p.channel (ap (λ (l : ℕ). channel_check plan l clear) (sym linked) ∙ of)), λ apart. refl)

-- with a permit of the frame
pub loads_kept : (plan : PlanLines) (link : ℕ) (clear : List ℕ) (kept : Option Permit) (p : Permit) (v w : Turn)
    → kept ≡ Some p → p.link ≡ link → IsOfPermit plan p clear → w.loads ≡ v.loads + 1
    → LoadsByKept plan link clear kept v w
loads_kept plan link clear kept p v w same linked of more =
    subst (λ (o : Option Permit). LoadsByKept plan link clear o v w) (sym same)
    (λ here there. more, λ apart. absurd (apart linked of))

-- the same, where it was loaded no more
pub loads_on : (plan : PlanLines) (link : ℕ) (clear : List ℕ) (kept : Option Permit) (v u w : Turn)
    → LoadsByKept plan link clear kept v u → w.loads ≡ u.loads
    → LoadsByKept plan link clear kept v w
loads_on plan link clear None v u w h still = still ∙ h
loads_on plan link clear (Some p) v u w h still = (λ linked of. still ∙ h.0 linked of, λ apart. still ∙ h.1 apart)

module _ (told : Bool) where
  -- the turn was taken, and the book found had this epoch
  pub finds : (found given : BookView) (t u : Turn) (epoch : ℕ) → Visits told found given t u → found.changes ≡ epoch
      → FindsEpoch told t u epoch
  finds found given t u epoch visit at =
      visit_takes told (λ (f g : BookView). f.changes ≡ epoch) found given t u visit at

  -- what was finished with a permit of the book found tells that book's epoch
  pub finished_epoch : (p : Permit) (clear out : List ℕ) (found given : BookView) (a : Protected) (v w : View)
      (t u : Turn)
      → IsFinished p clear out a found given v w → p.epoch ≡ found.changes → Visits told found given t u
      → IfEpoch a (FindsEpoch told t u)
  finished_epoch p clear out found given (answers.Done d) v w t u h at visit =
      finds found given t u d.epoch visit (sym (h.1.epoch ∙ at))
  finished_epoch p clear out found given answers.Clear v w t u h at visit = absurd h
  finished_epoch p clear out found given (answers.Refused fault epoch) v w t u h at visit =
      finds found given t u epoch visit (sym (h.1 ∙ at))
  finished_epoch p clear out found given (answers.Exhausted key n epoch) v w t u h at visit =
      finds found given t u epoch visit (sym (h.2 ∙ at))
  finished_epoch p clear out found given (answers.Fault fault position) v w t u h at visit = tt

  -- the epoch that was loaded
  pub loaded_epoch : (a : Protected) (v w : Turn) → IfEpoch a (HasLoaded v w)
      → IfEpoch a (IsEpochOf told v w)
  loaded_epoch (answers.Done d) v w h = inl h
  loaded_epoch answers.Clear v w h = tt
  loaded_epoch (answers.Refused fault epoch) v w h = inl h
  loaded_epoch (answers.Exhausted key n epoch) v w h = inl h
  loaded_epoch (answers.Fault fault position) v w h = tt

  -- that of the book held, as it is seen from before a load of the epoch
  pub found_epoch : (a : Protected) (v u w : Turn) → ((u ≡ v) ⊎ ((epoch : ℕ) × Loads epoch v u))
      → w.loads ≡ u.loads → IfEpoch a (FindsEpoch told u w)
      → IfEpoch a (IsEpochOf told v w)
  found_epoch (answers.Done d) v u w on still h =
      inr (takes_on told (λ (f g : BookView). f.changes ≡ d.epoch) v u w on still h)
  found_epoch answers.Clear v u w on still h = tt
  found_epoch (answers.Refused fault epoch) v u w on still h =
      inr (takes_on told (λ (f g : BookView). f.changes ≡ epoch) v u w on still h)
  found_epoch (answers.Exhausted key n epoch) v u w on still h =
      inr (takes_on told (λ (f g : BookView). f.changes ≡ epoch) v u w on still h)
  found_epoch (answers.Fault fault position) v u w on still h = tt
