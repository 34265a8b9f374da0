-- Which images a life may begin with: for the clauses `made` and `rests` of `life_may_begin`. With it, that opened
-- forms
-- keep the plan, passed on for what lies above.
use Rattle.std.proofs.Common.{ℕ, List, sym, subst}
use Rattle.unit_image.specs.Image.{IsAtRest}
use Rattle.unit_image.specs.Shows.{Shows}
use Rattle.unit_state.specs.declared.state.State.{State}
use Rattle.unit_state.specs.Restart.{restarted}
use Rattle.law_image.proofs.Beginning.{beginning_rests, beginning_shows}
use Rattle.law_image.proofs.Images.{rests_settled}
pub use Rattle.law_image.proofs.Images.{form_plan}
use Rattle.run_promise.specs.Life.{IsBeginning, IsInitial}

-- an image at rest that shows a state: it has no opened form
pub rest_begins : (image : List ℕ) (state : State) → Shows image state → IsAtRest image → IsBeginning image
rest_begins image state shows rests = record {
  shows = (state, shows);
  forms = λ form opened. absurd (rests opened.0 opened.1);
  settled = rests_settled image rests;
}

-- the image that `init` makes of a plan
pub initial_begins : (image : List ℕ) → IsInitial image → IsBeginning image
initial_begins image (text, plan, first, said, is) =
    subst IsBeginning (sym is)
    (rest_begins _ (restarted first) (beginning_shows text plan first said) (beginning_rests text plan first said))
