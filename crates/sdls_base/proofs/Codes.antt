-- The number of a state, a direction or a suite stands for it. For the crates above, whose laws of reading again cite
-- these.
use Rattle.std.specs.Prelude.{◌≡◌, Option, Some, None}
use Rattle.std.proofs.Common.{refl}
use Rattle.sdls_base.specs.declared.states.Direction.{Direction}
use Rattle.sdls_base.specs.declared.states.Direction.TheVariants.{Send, Receive}
use Rattle.sdls_base.specs.declared.states.Suite.{Suite}
use Rattle.sdls_base.specs.declared.states.Suite.TheVariants.{Cmac, Gcm}
use Rattle.sdls_base.specs.declared.states.KeyState.{KeyState}
use Rattle.sdls_base.specs.declared.states.KeyState.TheVariants.{PreActive, Active, Deactivated, Destroyed}
use Rattle.sdls_base.specs.declared.states.SaState.{SaState}
use Rattle.sdls_base.specs.declared.states.SaState.TheVariants.{Unkeyed, Keyed, Operational}
use Rattle.sdls_base.specs.Code.{key_state_code, sa_state_code, new_state_code, direction_code, suite_code}
use Rattle.sdls_base.specs.Code.{key_state_of, sa_state_of, new_state_of, direction_of, suite_of}

pub key_state_again : (state : KeyState) → key_state_of (key_state_code state) ≡ state
key_state_again PreActive = refl
key_state_again Active = refl
key_state_again Deactivated = refl
key_state_again Destroyed = refl

pub sa_state_again : (state : SaState) → sa_state_of (sa_state_code state) ≡ state
sa_state_again Unkeyed = refl
sa_state_again Keyed = refl
sa_state_again Operational = refl

pub new_state_again : (to : Option SaState) → new_state_of (new_state_code to) ≡ to
new_state_again None = refl
new_state_again (Some Unkeyed) = refl
new_state_again (Some Keyed) = refl
new_state_again (Some Operational) = refl

pub direction_again : (direction : Direction) → direction_of (direction_code direction) ≡ direction
direction_again Send = refl
direction_again Receive = refl

pub suite_again : (suite : Suite) → suite_of (suite_code suite) ≡ suite
suite_again Cmac = refl
suite_again Gcm = refl
