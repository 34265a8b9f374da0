-- The ways of a number: drawn from a row, and spent below the limit, at once or after a reserve (profile).
use Rattle.std.specs.Prelude.{◌≡◌, ◌⊎◌, ℕ, ◌+◌, ◌<◌, ◌≤◌, ◌==◌, false, [], ◌∷◌, ◌++◌, Some, Result, Ok, Err}
use Rattle.counter_table.specs.declared.view.Numbers.{Numbers}
use Rattle.counter_table.specs.Numbers.{top, arming, drawing, spending, returning, lifting}

-- the row was armed and the number drawn
pub record Draws (row end n : ℕ) (v w : Numbers) : Type 0 where
  pub next : ℕ
  pub found : top row v.nexts ≤ next
  pub follows : next ≤ n
  pub armed : next < end
  pub positive : 0 < n
  pub is : w ≡ drawing row n (arming row end next v)

-- and was found below the limit, and is spent
pub record Spends (row end n : ℕ) (v w : Numbers) : Type 0 where
  pub between : Numbers
  pub draws : Draws row end n v between
  pub limit : ℕ
  pub funded : n < limit
  pub is : w ≡ spending row n limit between

-- or it was found at or above the limit, and its ticket came back
pub record ComesBack (row end n : ℕ) (v w : Numbers) : Type 0 where
  pub between : Numbers
  pub draws : Draws row end n v between
  pub limit : ℕ
  pub short : limit ≤ n
  pub is : w ≡ returning row limit between

-- the word that was found, or the number drawn, is at or above the end
abbrev pub RunsOut : ℕ → ℕ → ℕ → Numbers → Numbers → Type 0
RunsOut row end n v w = (end ≤ n) × (((top row v.nexts ≤ n) × (w ≡ arming row end n v)) ⊎ Draws row end n v w)

-- a draw by its answer
abbrev pub IsDrawAnswer : ℕ → ℕ → Result (ℕ × ℕ) ℕ → Numbers → Numbers → Type 0
IsDrawAnswer row end (Ok ticket) v w = (ticket.0 ≡ row) × (ticket.1 < end) × (w.last ≡ Some ticket)
    × Draws row end ticket.1 v w
IsDrawAnswer row end (Err n) v w = RunsOut row end n v w

-- the limit was lifted to the mark and found above the number, which is spent
pub record Lifts (row n : ℕ) (v w : Numbers) : Type 0 where
  pub mark : ℕ
  pub limit : ℕ
  pub above : n < mark
  pub funded : n < limit
  pub is : w ≡ spending row n limit (lifting row mark v)

-- In sum: a number was drawn and spent, and so many tickets came back. The number is no less than each word seen
-- before, and the word that is left is one above it.
pub record UsesNumber (row n back : ℕ) (v w : Numbers) : Type 0 where
  pub drawn : w.drawn ≡ v.drawn ++ (row, n) ∷ []
  pub spent : w.spent ≡ v.spent ++ (row, n) ∷ []
  pub added : w.added ≡ v.added ++ (row, 1) ∷ []
  pub raised : w.raised ≡ v.raised
  pub shares : w.shares ≡ v.shares
  pub tickets : w.tickets ≡ v.tickets + back
  pub found : top row v.nexts ≤ n
  pub left : top row w.nexts ≡ n + 1
  pub others : (r : ℕ) → (row == r) ≡ false → top r w.nexts ≡ top r v.nexts
