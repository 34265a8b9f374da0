-- The frame error control field (CCSDS 232.0-B-4, 132.0-B-3 and 732.0-B-4, Frame Error Control Field).
-- A polynomial over GF(2) is seen as the number whose bit i is the coefficient of x^i: bit_xor adds, and * 2 ^ k
-- multiplies by x^k.
use Rattle.std.specs.Prelude.{◌≡◌, ℕ, ◌+◌, ◌-◌, ◌*◌, ◌^◌, ◌<◌, nat_lt, if◌then◌else◌, Bool, true, false, not, ◌&&◌}
use Rattle.std.specs.Prelude.{List, [], ◌∷◌, ◌++◌, length, take, drop, fold, bit_xor}
use Rattle.std.specs.Str.{bytes_eq}
use Rattle.std.specs.Int.{w16, to_be_bytes}

-- q times the generator x^16 + x^12 + x^5 + 1
abbrev pub times_generator : ℕ → ℕ
times_generator q = bit_xor (bit_xor (q * 2 ^ 16) (q * 2 ^ 12)) (bit_xor (q * 2 ^ 5) q)

-- r is what p leaves when it is divided by the generator
pub record IsRemainder (p r : ℕ) : Type 0 where
  pub degree : r < 2 ^ 16
  pub quotient : (q : ℕ) × (p ≡ bit_xor (times_generator q) r)

-- octets as one polynomial, their first bit the coefficient of the highest power
abbrev pub polynomial : List ℕ → ℕ
polynomial [] = 0
polynomial (octet ∷ octets) = octet * 2 ^ (8 * length octets) + polynomial octets

-- What is divided: the octets' n bits times x^16, and sixteen ones, to which the register is preset, times x^n.
abbrev pub dividend : List ℕ → ℕ
dividend octets = bit_xor (polynomial octets * 2 ^ 16) ((2 ^ 16 - 1) * 2 ^ (8 * length octets))

-- r times x, less the generator where the degree reaches 16
unfoldable pub times_x : ℕ → ℕ
times_x r = if nat_lt r (2 ^ 15) then 2 * r else bit_xor (2 * r) (2 ^ 16 + 0x1021)

-- the register after one more octet, its most significant bit first
unfoldable pub after_octet : ℕ → ℕ → ℕ
after_octet r octet = times_x (times_x (times_x (times_x
    (times_x (times_x (times_x (times_x (bit_xor r (octet * 2 ^ 8)))))))))

-- The register after the octets. `fecf` says that it is the remainder of what is divided.
unfoldable pub frame_error_control : List ℕ → ℕ
frame_error_control octets = fold after_octet (2 ^ 16 - 1) octets

-- the field as it stands in a frame
abbrev pub error_control : List ℕ → List ℕ
error_control octets = to_be_bytes w16 (frame_error_control octets)

-- the octets, with the field behind them where the layout has one
abbrev pub with_error_control : Bool → List ℕ → List ℕ
with_error_control false octets = octets
with_error_control true octets = octets ++ error_control octets

-- how many octets the field has
abbrev pub error_control_length : Bool → ℕ
error_control_length false = 0
error_control_length true = 2

-- the octets before the field
abbrev pub before_error_control : Bool → List ℕ → List ℕ
before_error_control fecf frame = take (length frame - error_control_length fecf) frame

-- whether a layout has the field, and the last two octets are not that over the octets before them
abbrev pub fails_error_control : Bool → List ℕ → Bool
fails_error_control fecf frame =
    fecf && not (bytes_eq (drop (length frame - 2) frame) (error_control (take (length frame - 2) frame)))
