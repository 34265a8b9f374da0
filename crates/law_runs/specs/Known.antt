-- What a state that a life left knows of its answers (profile).
use Rattle.std.specs.Prelude.{ℕ, ◌<◌, ◌≤◌, List}
use Rattle.std.specs.List.{All}
use Rattle.unit_image.specs.Image.{IsOpenedForm}
use Rattle.unit_state.specs.declared.state.State.{State}
use Rattle.unit_image.specs.Shows.{Shows}
use Rattle.run_promise.specs.Answers.{Uses, Accepts}
use Rattle.run_promise.specs.Numbers.{mark_of, floor_of}
use Rattle.run_promise.specs.Life.{Given}
pub use Rattle.law_image.specs.Keeping.{IsShown}

-- what a state knows of an answer: each number used is below its mark, and each accepted at most its floor
pub record Knows (state : State) (given : Given) : Type 0 where
  pub below : (key number : ℕ) → Uses given.deed.answer key number → number < mark_of state key
  pub floored : (key number : ℕ) → Accepts given.deed.answer key number → number ≤ floor_of state key

-- each state that the image shows, or one of its opened forms, has a mark of the key above this number
abbrev pub IsBelowMarks : List ℕ → ℕ → ℕ → Type 0
IsBelowMarks image key number = (state : State) → IsShown image state → number < mark_of state key

-- and a floor of the key that is not below this number
abbrev pub IsWithinFloors : List ℕ → ℕ → ℕ → Type 0
IsWithinFloors image key number = (state : State) → IsShown image state → number ≤ floor_of state key

-- the image shows a state, which knows each of these answers
pub record ShowsKnowing (image : List ℕ) (given : List Given) : Type 0 where
  pub state : State
  pub shows : Shows image state
  pub knows : All (Knows state) given

-- so does the image, and each of its opened forms
pub record LeavesKnowing (image : List ℕ) (given : List Given) : Type 0 where
  pub image_shows : ShowsKnowing image given
  pub forms_show : (form : List ℕ) → IsOpenedForm image form → ShowsKnowing form given
