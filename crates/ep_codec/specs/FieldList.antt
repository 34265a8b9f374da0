-- Lists of fields, which fill a message to its end (profile).
use Rattle.std.specs.Prelude.{ℕ, ◌+◌, not, List, [], ◌∷◌}
use Rattle.std.specs.Int.{w16, from_be_bytes, is_in_range}
use Rattle.sdls_base.specs.declared.states.KeyState.{KeyState}
use Rattle.sdls_base.specs.FirstFailing.{Check}
use Rattle.sdls_base.specs.Code.{key_state_of}
use Rattle.ep_codec.specs.Field.{is_key}

-- the keys in pairs of octets
abbrev pub keys_in : List ℕ → List ℕ
keys_in [] = []
keys_in (high ∷ []) = []
keys_in (high ∷ low ∷ octets) = from_be_bytes w16 (high ∷ low ∷ []) ∷ keys_in octets

-- from a place on, each pair of octets is a key
abbrev pub key_checks : ℕ → List ℕ → List (Check ℕ)
key_checks at [] = []
key_checks at (high ∷ []) = []
key_checks at (high ∷ low ∷ octets) = (not (is_key (from_be_bytes w16 (high ∷ low ∷ []))), at)
    ∷ key_checks (at + 2) octets

-- the keys with their states, three octets each
abbrev pub rows_in : List ℕ → List (ℕ × KeyState)
rows_in [] = []
rows_in (high ∷ []) = []
rows_in (high ∷ low ∷ []) = []
rows_in (high ∷ low ∷ state ∷ octets) = (from_be_bytes w16 (high ∷ low ∷ []), key_state_of state) ∷ rows_in octets

-- from a place on, each three octets are a key and a state
abbrev pub row_checks : ℕ → List ℕ → List (Check ℕ)
row_checks at [] = []
row_checks at (high ∷ []) = []
row_checks at (high ∷ low ∷ []) = []
row_checks at (high ∷ low ∷ state ∷ octets) =
    (not (is_key (from_be_bytes w16 (high ∷ low ∷ []))), at) ∷ (not (is_in_range 1 4 state), at + 2)
    ∷ row_checks (at + 3) octets

-- from a place on, each octet is a channel, at most 63 and above the one before it; the first is at or above the least
abbrev pub channel_checks : ℕ → ℕ → List ℕ → List (Check ℕ)
channel_checks at least [] = []
channel_checks at least (channel ∷ channels) =
    (not (is_in_range least 63 channel), at) ∷ channel_checks (at + 1) (channel + 1) channels
