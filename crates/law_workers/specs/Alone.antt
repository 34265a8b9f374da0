-- Records of one lane, which one worker handles, one after the other (profile).
use Rattle.std.specs.Prelude.{◌≡◌, ℕ, ◌≤◌, List, [], ◌++◌, length}
use Rattle.counter_table.specs.declared.view.View.{View}
use Rattle.run_promise.specs.Call.{Begin}
use Rattle.run_promise.specs.Deed.{Deed}
use Rattle.run_promise.specs.Words.{Move}
use Rattle.law_workers.specs.Exact.{Exact}
use Rattle.law_workers.specs.InTurn.{ServedBetween, ServedInTurn}

-- Of so many records these were answered. Each of them moved the words once, as its answer says; of a record without
-- an answer there may be one move more. All lines that the worker made since the old view are of these records.
pub record MovedExactly (begin : Begin) (old new : View) (count : ℕ) (deeds : List Deed) : Type 0 where
  pub made : List ℕ
  pub made_is : new.turn.made ≡ old.turn.made ++ made
  pub last : List Move
  pub few : length last ≤ 1
  pub each : length deeds ≡ count → last ≡ []
  pub exact : Exact begin old new made deeds last

-- The same, and the records were served in turn, each from the history that those before it left.
pub record MovedInTurn (begin : Begin) (old new : View) (count : ℕ) (deeds : List Deed) : Type 0 where
  pub moved : MovedExactly begin old new count deeds
  pub spent : List (ℕ × ℕ)
  pub in_turn : ServedInTurn begin old new moved.made spent deeds moved.exact.moves moved.last

-- The same of a worker that split one off for them, and was joined again.
pub record ServedAlone (begin : Begin) (old new : View) (count : ℕ) (deeds : List Deed) : Type 0 where
  pub moved : MovedExactly begin old new count deeds
  pub spent : List (ℕ × ℕ)
  pub between : ServedBetween begin old new moved.made spent deeds moved.exact.moves moved.last
