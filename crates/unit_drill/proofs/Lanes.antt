-- The states of a drill's units: the marks, windows and floors of four lanes.
use Rattle.std.proofs.Common.{◌≡◌, ℕ, zero, suc, ◌+◌, ◌<◌, ◌≤◌, ◌==◌, max, if◌then◌else◌, nat_eq, Bool, true, false, []}
use Rattle.std.proofs.Common.{◌∷◌, IsSome, None, Some, refl, arith}
use Rattle.std.proofs.lemmas.Bool.{eqb-true}
use Rattle.sdls_base.specs.KeyId.{end_of}
use Rattle.sdls_base.specs.declared.entry.Change.TheVariants.{Marks, Accepted}
use Rattle.sdls_base.specs.declared.states.Direction.{Direction}
use Rattle.sdls_base.specs.declared.states.Direction.TheVariants.{Send, Receive}
use Rattle.sdls_base.specs.declared.states.Suite.{Suite}
use Rattle.sdls_base.specs.declared.states.Suite.TheVariants.{Cmac, Gcm}
use Rattle.key_book.specs.KeyBook.{place_of}
use Rattle.key_book.specs.declared.key_row.KeyRow.{KeyRow}
use Rattle.replay_window.specs.declared.window.Window.{Window}
use Rattle.replay_window.specs.Window.{accepted}
use Rattle.sa_book.specs.declared.sa_book.SaRow.{SaRow}
use Rattle.unit_state.specs.declared.state.State.{State}
use Rattle.unit_state.specs.State.{key_row}
use Rattle.unit_state.specs.Applied.{applied}
use Rattle.run_promise.specs.Numbers.{mark_of, floor_of}
use Rattle.unit_drill.proofs.Starting.{association_at, first_state, first_window, key_at}

abbrev pub key_on : ℕ → ℕ
key_on zero = 32769
key_on (suc zero) = 257
key_on (suc (suc zero)) = 32771
key_on (suc (suc (suc lane))) = 259

abbrev pub suite_on : ℕ → Suite
suite_on zero = Cmac
suite_on (suc zero) = Gcm
suite_on (suc (suc zero)) = Cmac
suite_on (suc (suc (suc lane))) = Gcm

-- a fact of each lane
pub four : (P : ℕ → Type 0) → P 0 → P 1 → P 2 → P 3 → (lane : ℕ) → lane < 4 → P lane
four P a b c d zero low = a
four P a b c d (suc zero) low = b
four P a b c d (suc (suc zero)) low = c
four P a b c d (suc (suc (suc zero))) low = d
four P a b c d (suc (suc (suc (suc lane)))) low = absurd (omega arith)

abbrev pub row_on : Direction → (ℕ → Window) → ℕ → SaRow
row_on direction windows lane = association_at direction (lane + 1) (suite_on lane) (key_on lane) (windows lane)

abbrev pub held_on : (ℕ → ℕ) → (ℕ → ℕ) → ℕ → KeyRow
held_on marks floors lane = key_at (key_on lane) (lane + 1) (marks lane) (floors lane)

abbrev pub state_at : ℕ → Direction → (ℕ → ℕ) → (ℕ → Window) → (ℕ → ℕ) → State
state_at digit direction marks windows floors = record {
  keys = held_on marks floors 0 ∷ held_on marks floors 1 ∷ held_on marks floors 2 ∷ held_on marks floors 3 ∷ [];
  associations = row_on direction windows 0 ∷ row_on direction windows 1 ∷ row_on direction windows 2 ∷ row_on direction
      windows 3 ∷ [];
  channels = 0 ∷ 1 ∷ 2 ∷ 3 ∷ [];
  device = 0 ∷ 0 ∷ 13 ∷ digit ∷ [];
}

abbrev pub each : {A : Type 0} → A → ℕ → A
each x lane = x

-- the windows at the start
abbrev pub begun : ℕ → Window
begun lane = first_window

-- another value on one lane
abbrev pub with_on : {A : Type 0} → ℕ → A → (ℕ → A) → ℕ → A
with_on lane x values other = if other == lane then x else values other

pub first_is : (digit : ℕ) (direction : Direction) → first_state digit direction
    ≡ state_at digit direction (each 1) begun (each 0)
first_is digit direction = refl

-- ---- keys

key_by : (a b c d : KeyRow) (key : ℕ) (p q r s : Bool) → nat_eq 32769 key ≡ p → nat_eq 257 key ≡ q
    → nat_eq 32771 key ≡ r → nat_eq 259 key ≡ s
    → IsSome (if p then Some a else (if q then Some b else (if r then Some c else (if s then Some d else None))))
    → (lane : ℕ) × (lane < 4) × (key_on lane ≡ key)
key_by a b c d key true q r s e f g h there = (0, omega arith, eqb-true 32769 key e)
key_by a b c d key false true r s e f g h there = (1, omega arith, eqb-true 257 key f)
key_by a b c d key false false true s e f g h there = (2, omega arith, eqb-true 32771 key g)
key_by a b c d key false false false true e f g h there = (3, omega arith, eqb-true 259 key h)
key_by a b c d key false false false false e f g h there = absurd (let k : false ≡ true = there in cc)

-- a key that is there is one of the lanes' keys
pub key_lane : (digit : ℕ) (direction : Direction) (marks : ℕ → ℕ) (windows : ℕ → Window) (floors : ℕ → ℕ) (key : ℕ)
    → IsSome (key_row (state_at digit direction marks windows floors) key)
    → (lane : ℕ) × (lane < 4) × (key_on lane ≡ key)
key_lane digit direction marks windows floors key there = key_by _ _ _ _ key _ _ _ _ refl refl refl refl there

pub mark_on : (digit : ℕ) (direction : Direction) (marks : ℕ → ℕ) (windows : ℕ → Window) (floors : ℕ → ℕ) (lane : ℕ)
    → lane < 4
    → mark_of (state_at digit direction marks windows floors) (key_on lane) ≡ marks lane
mark_on digit direction marks windows floors = four _ refl refl refl refl

pub floor_on : (digit : ℕ) (direction : Direction) (marks : ℕ → ℕ) (windows : ℕ → Window) (floors : ℕ → ℕ) (lane : ℕ)
    → lane < 4
    → floor_of (state_at digit direction marks windows floors) (key_on lane) ≡ floors lane
floor_on digit direction marks windows floors = four _ refl refl refl refl

pub place_on : (digit : ℕ) (direction : Direction) (marks : ℕ → ℕ) (windows : ℕ → Window) (floors : ℕ → ℕ) (lane : ℕ)
    → lane < 4
    → place_of (state_at digit direction marks windows floors).keys (key_on lane) ≡ Some lane
place_on digit direction marks windows floors = four _ refl refl refl refl

pub end_on : (lane : ℕ) → lane < 4 → 4294967296 ≤ end_of (key_on lane)
end_on = four _ (omega arith) (omega arith) (omega arith) (omega arith)

-- ---- changes

pub marked_on : (marks : ℕ → ℕ) (x lane : ℕ) → lane < 4
    → applied (state_at 1 Send marks begun (each 0)) (Marks (key_on lane) x 0)
    ≡ state_at 1 Send (with_on lane x marks) begun (each 0)
marked_on marks x = four _ refl refl refl refl

pub accepted_on : (windows : ℕ → Window) (floors : ℕ → ℕ) (n floor lane : ℕ) → lane < 4
    → applied (state_at 2 Receive (each 1) windows floors) (Accepted (lane + 1) (key_on lane) n floor)
    ≡ state_at 2 Receive (each 1) (with_on lane (accepted n (windows lane)) windows)
    (with_on lane (max (floors lane) floor) floors)
accepted_on windows floors n floor = four _ refl refl refl refl

-- no two lanes have one key
pub key_own : (lane : ℕ) → lane < 4 → (other : ℕ) → other < 4 → key_on lane ≡ key_on other → lane ≡ other
key_own = four _
    (four _ (λ h. refl) (λ h. absurd (omega arith)) (λ h. absurd (omega arith)) (λ h. absurd (omega arith)))
    (four _ (λ h. absurd (omega arith)) (λ h. refl) (λ h. absurd (omega arith)) (λ h. absurd (omega arith)))
    (four _ (λ h. absurd (omega arith)) (λ h. absurd (omega arith)) (λ h. refl) (λ h. absurd (omega arith)))
    (four _ (λ h. absurd (omega arith)) (λ h. absurd (omega arith)) (λ h. absurd (omega arith)) (λ h. refl))
