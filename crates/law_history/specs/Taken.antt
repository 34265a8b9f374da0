-- What a state keeps of what was done in it: numbers accepted, keys loaded (profile).
use Rattle.std.specs.Prelude.{◌≡◌, ℕ, ◌≤◌, IsTrue, List, All, IsSomeAnd}
use Rattle.sha2.specs.Sha256.{sha256}
use Rattle.replay_window.specs.Past.{IsPast}
use Rattle.sa_book.specs.SaRefusal.{receives_with}
use Rattle.unit_state.specs.declared.state.State.{State}
use Rattle.unit_state.specs.State.{key_row}
use Rattle.run_promise.specs.Numbers.{floor_of}

-- No opening accepts the number under the key any more: it is no higher than the key's floor, and past in the window of
-- an
-- association that receives with the key.
pub record IsTaken (state : State) (key number : ℕ) : Type 0 where
  pub floor : number ≤ floor_of state key
  pub windows : All (λ row. IsTrue (receives_with key row) → IsPast row.window number) state.associations

-- the key was loaded with these octets; that stays so when they are dropped
abbrev pub IsLoadedWith : State → ℕ → List ℕ → Type 0
IsLoadedWith state key octets = IsSomeAnd (key_row state key) (λ held. held.digest ≡ sha256 octets)
