-- The numbers of states, directions and suites in messages and records (the states are those of CCSDS 355.1-B-1; the
-- numbers are profile).
use Rattle.std.specs.Prelude.{ℕ, ◌==◌, if◌then◌else◌, Option, Some, None}
use Rattle.sdls_base.specs.declared.states.Direction.{Direction}
use Rattle.sdls_base.specs.declared.states.Direction.TheVariants.{Send, Receive}
use Rattle.sdls_base.specs.declared.states.Suite.{Suite}
use Rattle.sdls_base.specs.declared.states.Suite.TheVariants.{Cmac, Gcm}
use Rattle.sdls_base.specs.declared.states.KeyState.{KeyState}
use Rattle.sdls_base.specs.declared.states.KeyState.TheVariants.{PreActive, Active, Deactivated, Destroyed}
use Rattle.sdls_base.specs.declared.states.SaState.{SaState}
use Rattle.sdls_base.specs.declared.states.SaState.TheVariants.{Unkeyed, Keyed, Operational}

abbrev pub key_state_code : KeyState → ℕ
key_state_code PreActive = 1
key_state_code Active = 2
key_state_code Deactivated = 3
key_state_code Destroyed = 4

abbrev pub sa_state_code : SaState → ℕ
sa_state_code Unkeyed = 1
sa_state_code Keyed = 2
sa_state_code Operational = 3

-- a state of an association, or its deletion
abbrev pub new_state_code : Option SaState → ℕ
new_state_code None = 0
new_state_code (Some state) = sa_state_code state

abbrev pub direction_code : Direction → ℕ
direction_code Send = 1
direction_code Receive = 2

abbrev pub suite_code : Suite → ℕ
suite_code Cmac = 1
suite_code Gcm = 2

-- ---- what a number that is in bounds stands for

abbrev pub key_state_of : ℕ → KeyState
key_state_of n = if n == 1 then PreActive else (if n == 2 then Active else (if n == 3 then Deactivated else Destroyed))

abbrev pub sa_state_of : ℕ → SaState
sa_state_of n = if n == 1 then Unkeyed else (if n == 2 then Keyed else Operational)

abbrev pub new_state_of : ℕ → Option SaState
new_state_of n = if n == 0 then None else Some (sa_state_of n)

abbrev pub direction_of : ℕ → Direction
direction_of n = if n == 1 then Send else Receive

abbrev pub suite_of : ℕ → Suite
suite_of n = if n == 1 then Cmac else Gcm
