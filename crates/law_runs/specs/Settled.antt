-- That an answer is settled before an octet of it is put (profile).
use Rattle.std.specs.Prelude.{⊤, ℕ, ◌+◌, ◌≤◌, List, [], ◌∷◌, length, take}
use Rattle.sdls_base.specs.declared.entry.Logged.{Logged}
use Rattle.record_io.specs.Answers.{answer_octets}
use Rattle.run_promise.specs.Log.{entries_of, pieces_of}
use Rattle.run_promise.specs.Fits.{Course}
use Rattle.run_promise.specs.Deed.{Deed}
use Rattle.run_promise.specs.Sound.{IsCoveredBy}

-- The answer was settled before an octet of it was put: so many lines of the log stood then, and so many entries were
-- stored, whose state covers it. The first octet of the answer is the one at this place among the octets put.
pub record AnswerIsSettled (course : Course) (stored : ℕ) (log : List Logged) (at : ℕ) (deed : Deed) : Type 0 where
  pub lines : ℕ
  pub within : lines ≤ length log
  pub before : length (pieces_of (take lines log)) ≤ at
  pub entries : ℕ
  pub low : entries ≤ length (entries_of (take lines log))
  pub is_stored : entries ≤ stored
  pub covered : IsCoveredBy course entries deed

-- all answers, of which the first begins at this place
abbrev pub AreSettled : Course → ℕ → List Logged → ℕ → List Deed → Type 0
AreSettled course stored log at [] = ⊤
AreSettled course stored log at (deed ∷ deeds) =
    AnswerIsSettled course stored log at deed
    × AreSettled course stored log (at + length (answer_octets deed.answer)) deeds
