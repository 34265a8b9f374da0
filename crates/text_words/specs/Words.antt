-- The words for states and octets in text (profile).
use Rattle.std.specs.Prelude.{ℕ, codes, List, [], ◌∷◌, ◌++◌}
use Rattle.hex.specs.Hex.{encode_lower}
use Rattle.sdls_base.specs.declared.states.KeyState.{KeyState}
use Rattle.sdls_base.specs.declared.states.KeyState.TheVariants.{PreActive, Active, Deactivated, Destroyed}
use Rattle.sdls_base.specs.declared.states.SaState.{SaState}
use Rattle.sdls_base.specs.declared.states.SaState.TheVariants.{Unkeyed, Keyed, Operational}
use Rattle.sdls_base.specs.declared.states.Direction.{Direction}
use Rattle.sdls_base.specs.declared.states.Direction.TheVariants.{Send, Receive}
use Rattle.sdls_base.specs.declared.states.Suite.{Suite}
use Rattle.sdls_base.specs.declared.states.Suite.TheVariants.{Cmac, Gcm}

-- a word behind a space
abbrev pub spaced : List ℕ → List ℕ
spaced word = codes " " ++ word

-- octets as a word: hexadecimal digits, or - for none
abbrev pub octets_word : List ℕ → List ℕ
octets_word [] = codes "-"
octets_word (octet ∷ octets) = encode_lower (octet ∷ octets)

abbrev pub key_state_word : KeyState → List ℕ
key_state_word PreActive = codes "preactive"
key_state_word Active = codes "active"
key_state_word Deactivated = codes "deactivated"
key_state_word Destroyed = codes "destroyed"

abbrev pub sa_state_word : SaState → List ℕ
sa_state_word Unkeyed = codes "unkeyed"
sa_state_word Keyed = codes "keyed"
sa_state_word Operational = codes "operational"

abbrev pub direction_word : Direction → List ℕ
direction_word Send = codes "send"
direction_word Receive = codes "receive"

abbrev pub suite_word : Suite → List ℕ
suite_word Cmac = codes "cmac"
suite_word Gcm = codes "gcm"
