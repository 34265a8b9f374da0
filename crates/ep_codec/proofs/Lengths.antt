-- How many octets the lists of a message take.
use Rattle.std.proofs.Common.{◌≡◌, ℕ, ◌*◌, List, [], ◌∷◌, length, refl, arith}
use Rattle.std.specs.List.{flat_map}
use Rattle.std.specs.Int.{w16, to_be_bytes}
use Rattle.sdls_base.specs.declared.states.KeyState.{KeyState}
use Rattle.ep_codec.specs.ReplyPdu.{row_octets}

pub keys_length : (keys : List ℕ) → length (flat_map (to_be_bytes w16) keys) ≡ 2 * length keys
keys_length [] = refl
keys_length (key ∷ keys) = omega (arith, keys_length keys)

pub rows_length : (rows : List (ℕ × KeyState)) → length (flat_map row_octets rows) ≡ 3 * length rows
rows_length [] = refl
rows_length (row ∷ rows) = omega (arith, rows_length rows)
