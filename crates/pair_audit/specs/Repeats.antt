-- Answers that use, or accept, one number under one key (profile).
use Rattle.std.specs.Prelude.{◌≡◌, ◌⊎◌, ℕ, ◌<◌, List, take, slice_get, Some}
use Rattle.std.specs.List.{All, AllPairs}
use Rattle.record_io.specs.declared.answers.Answer.{Answer}
use Rattle.run_promise.specs.Answers.{Uses, Accepts}

-- the two answers use one number under one key, or accept one
abbrev pub Repeats : Answer → Answer → Type 0
Repeats one other = ((key : ℕ) × (number : ℕ) × Uses one key number × Uses other key number)
    ⊎ ((key : ℕ) × (number : ℕ) × Accepts one key number × Accepts other key number)

abbrev pub AreUnlike : Answer → Answer → Type 0
AreUnlike one other = ¬ Repeats one other

-- no two answers at two places repeat
abbrev pub RepeatNothing : List Answer → Type 0
RepeatNothing answers = AllPairs AreUnlike answers

-- The answer at the second place repeats the one at the first place, which is an earlier one. It repeats none before
-- that, and no answer before it repeats an earlier one.
pub record IsFirstRepeat (answers : List Answer) (first second : ℕ) : Type 0 where
  pub order : first < second
  pub one : Answer
  pub other : Answer
  pub at_first : slice_get answers first ≡ Some one
  pub at_second : slice_get answers second ≡ Some other
  pub repeats : Repeats one other
  pub least_first : All (λ earlier. AreUnlike earlier other) (take first answers)
  pub least_second : RepeatNothing (take second answers)
