-- What happens to a window from one beginning to the next.
use Rattle.std.specs.Prelude.{◌≡◌, ⊤, ℕ, ◌<◌, ◌≤◌, List, [], ◌∷◌}
use Rattle.replay_window.specs.declared.TheConstants.{MOST_BACK}
use Rattle.replay_window.specs.declared.window.Window.{Window}
use Rattle.replay_window.specs.WindowField.{back_of}
use Rattle.replay_window.specs.Window.{IsFresh, accepted, with_field}

-- a number is accepted, or a window field is set
pub data Step : Type 0 where
  Accepts : ℕ → Step
  Sets : ℕ → Step

abbrev pub stepped : Window → Step → Window
stepped window (Accepts n) = accepted n window
stepped window (Sets field) = with_field field window

-- a number is accepted if it is fresh under some end
abbrev pub MayStep : Window → Step → Type 0
MayStep window (Accepts n) = (end : ℕ) × IsFresh window n end
MayStep window (Sets field) = back_of field ≤ MOST_BACK

-- the window after the steps
abbrev pub window_after : Window → List Step → Window
window_after window [] = window
window_after window (step ∷ steps) = window_after (stepped window step) steps

-- each step may be made in the window that those before it left
abbrev pub MayStepInTurn : Window → List Step → Type 0
MayStepInTurn window [] = ⊤
MayStepInTurn window (step ∷ steps) = MayStep window step × MayStepInTurn (stepped window step) steps

-- the numbers accepted in the steps
abbrev pub numbers_of : List Step → List ℕ
numbers_of [] = []
numbers_of (Accepts n ∷ steps) = n ∷ numbers_of steps
numbers_of (Sets field ∷ steps) = numbers_of steps

-- no step sets a back window
abbrev pub SetsNoBack : List Step → Type 0
SetsNoBack [] = ⊤
SetsNoBack (Accepts n ∷ steps) = SetsNoBack steps
SetsNoBack (Sets field ∷ steps) = (back_of field ≡ 0) × SetsNoBack steps

-- each number is above the one before it, and the first above a bound
abbrev pub IsAscendingAbove : ℕ → List ℕ → Type 0
IsAscendingAbove bound [] = ⊤
IsAscendingAbove bound (n ∷ ns) = (bound < n) × IsAscendingAbove n ns
