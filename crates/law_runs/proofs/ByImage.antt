-- What a run is by what the image at its entry shows: for the laws over `RunEnds`.
use Rattle.std.proofs.Common.{◌≡◌, ℕ, IsTrue, List, Result, Ok, sym, ◌∙◌, subst, inl, inr}
use Rattle.unit_image.specs.Image.{held}
use Rattle.unit_image.specs.Shows.{Shows, ShowsNone}
use Rattle.law_image.proofs.Images.{ShowsOne}
use Rattle.unit_plan.specs.Plan.{plan_of}
use Rattle.unit_plan.specs.PlanLines.{PlanLines}
use Rattle.unit_plan.specs.declared.plan_error.PlanFault.{PlanFault}
use Rattle.unit_state.specs.declared.state.State.{State}
use Rattle.run_promise.specs.Call.{CallSeen, ShowsAtEntry, image_at_entry}
use Rattle.run_promise.specs.Ends.{HasRefused, RunEnds, ServesSoundly}

-- what is owed by the layer below: an image that shows a state is not refused
abbrev pub ShowsSome : Type 0
ShowsSome = (image : List ℕ) (state : State) (offset : ℕ) → Shows image state → ¬ ShowsNone image offset

pub same_ok : (one other : PlanLines) → ◌≡◌ {A = Result PlanLines PlanFault} (Ok one) (Ok other) → one ≡ other
same_ok one other h = let t = h in cc

-- another call over the same image begins with what it shows
pub shows_alike : (call other : CallSeen) (plan : PlanLines) (state : State)
    → image_at_entry other ≡ image_at_entry call → ShowsAtEntry call plan state → ShowsAtEntry other plan state
shows_alike call other plan state image shows = record {
  says = subst (λ (i : List ℕ). plan_of (held i).plan ≡ Ok plan) (sym image) shows.says;
  shows = subst (λ (i : List ℕ). Shows i state) (sym image) shows.shows;
}

module _ (some : ShowsSome) (call : CallSeen) (run : RunEnds call) (told : IsTrue call.told) where
  -- from the state that the image shows it served soundly
  pub serves_from : ShowsOne → (plan : PlanLines) (state : State) → ShowsAtEntry call plan state
      → ServesSoundly call run.account plan state
  serves_from once plan state shows = elim (run.by_image told) [
    | inl served ↦
        let plans : served.plan ≡ plan = same_ok served.plan plan (sym served.shows.says ∙ shows.says) in
        let states : served.state ≡ state =
        once (image_at_entry call) served.state state served.shows.shows shows.shows in
        subst (λ (one : PlanLines). ServesSoundly call run.account one state) plans
        (subst (λ (one : State). ServesSoundly call run.account served.plan one) states served.serves)
    | inr refused ↦ absurd (some (image_at_entry call) state refused.offset shows.shows refused.shows_none)
  ]

  -- an image that shows none was refused
  pub refused_as : (offset : ℕ) → ShowsNone (image_at_entry call) offset → HasRefused call run.account
  refused_as offset none = elim (run.by_image told) [
    | inl served ↦ absurd (some (image_at_entry call) served.state offset served.shows.shows none)
    | inr refused ↦ refused
  ]
