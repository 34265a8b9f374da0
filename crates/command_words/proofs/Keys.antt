-- Digits that are too many for a key: for `key_of`.
use Rattle.std.proofs.Common.{◌≡◌, ℕ, ◌<◌, ◌/◌, List, length, None, Result, Ok, Err, refl, arith}
use Rattle.std.proofs.lemmas.Bool.Decides.{nat_tests}
use Rattle.hex.proofs.HexLemmas.{decode_of-ok}
use Rattle.hex.specs.Hex.{decode_of}
use Rattle.hex.specs.declared.error.FromHexError.{FromHexError}
use Rattle.command_words.specs.Words.{key_of, key_within}

none_within : (digits : List ℕ) (decoded : Result (List ℕ) FromHexError) → decode_of digits ≡ decoded
    → 32 < length digits / 2 → None ≡ key_within decoded
none_within digits (Ok key) is long =
    let sized = (decode_of-ok digits key is).2 in
    grind (arith, nat_tests)
none_within digits (Err error) is long = refl

pub long_key : (digits : List ℕ) → 32 < length digits / 2 → None ≡ key_of digits
unfolding key_of
long_key digits long = none_within digits (decode_of digits) refl long
