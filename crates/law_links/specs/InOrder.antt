-- In which order the numbers of a key are accepted (CCSDS 355.0-B-2, ProcessSecurity; profile).
use Rattle.std.specs.Prelude.{◌≡◌, ⊤, ℕ, ◌+◌, ◌<◌, List, [], ◌∷◌, length, Some}
use Rattle.std.specs.List.{All}
use Rattle.sa_book.specs.declared.sa_book.SaRow.{SaRow}
use Rattle.sa_book.specs.SaRow.{MayAccept}
use Rattle.unit_state.specs.declared.state.State.{State}
use Rattle.unit_state.specs.State.{association_row}
use Rattle.run_promise.specs.Answers.{Accepts}
use Rattle.run_promise.specs.Fits.{state_before}
use Rattle.run_promise.specs.Life.{Given, LifeRun, answers_begun, given_of, given_in}

-- what the other accepts under the key is above what the one accepts
abbrev pub AcceptsBelow : ℕ → Given → Given → Type 0
AcceptsBelow key one other = (m n : ℕ) → Accepts one.deed.answer key m → Accepts other.deed.answer key n → m < n

-- An association that holds the key may accept n, which is above m, or less far below it than the back window reaches.
-- Without a back window it is above m.
pub record AcceptsNear (state : State) (key m n : ℕ) : Type 0 where
  pub spi : ℕ
  pub row : SaRow
  pub there : association_row state spi ≡ Some row
  pub holds : row.key ≡ Some key
  pub accepts : MayAccept row n
  pub above : m < n + row.window.back

-- of two answers of one run: if the entry of the one stands earlier
abbrev pub InOrderInRun : ℕ → Given → Given → Type 0
InOrderInRun key one other = one.deed.answer.position < other.deed.answer.position → (m n : ℕ)
    → Accepts one.deed.answer key m → Accepts other.deed.answer key n
    → AcceptsNear (state_before other.course other.deed.answer) key m n

-- the answers of a run that were begun at the moment at which it ended
abbrev pub given_by : LifeRun → List Given
given_by run = given_of run.course (answers_begun (length run.sunk) run.deeds)

-- The numbers accepted under the key stand in order: in a run they ascend by the places of their entries, but for those
-- that a back window accepts late, and from run to run they ascend.
abbrev pub NumbersInOrder : ℕ → List LifeRun → Type 0
NumbersInOrder key [] = ⊤
NumbersInOrder key (run ∷ runs) = All (λ one. All (InOrderInRun key one) (given_by run)) (given_by run)
    × All (λ one. All (AcceptsBelow key one) (given_in runs)) (given_by run) × NumbersInOrder key runs
