-- The fields of a procedure message, numbers in whole octets, with their bounds (profile).
use Rattle.std.specs.Prelude.{ℕ, ◌+◌, ◌*◌, ◌-◌, ◌==◌, ◌&&◌, nat_le, not, Bool, true, false, if◌then◌else◌}
use Rattle.std.specs.Prelude.{List, length, Option, Some, None}
use Rattle.std.specs.Int.{is_in_range}
use Rattle.sdls_base.specs.declared.TheConstants.{MOST_WINDOW}
use Rattle.sdls_base.specs.declared.key_id.KeyClass.{KeyClass}
use Rattle.sdls_base.specs.declared.key_id.KeyClass.TheVariants as classes
use Rattle.sdls_base.specs.KeyId.{class_of}
use Rattle.sdls_base.specs.FirstFailing.{Check}
use Rattle.sdls_base.specs.Places.{octet_at, word_at, number_at}
use Rattle.replay_window.specs.declared.TheConstants.{MOST_BACK}
use Rattle.replay_window.specs.WindowField.{back_of, width_of}

-- ---- bounds

-- a key's identifier
abbrev pub is_key : ℕ → Bool
is_key n = is_in_range 1 65535 n

-- a security parameter index that is not reserved
abbrev pub is_spi : ℕ → Bool
is_spi n = is_in_range 1 65534 n

-- a window field: back window and width lie in their bounds
abbrev pub is_window : ℕ → Bool
is_window n = nat_le (back_of n) MOST_BACK && is_in_range 1 MOST_WINDOW (width_of n)

-- whether a key of the class seals, under GCM, or makes MACs
abbrev pub seals : KeyClass → Bool
seals classes.Master = true
seals classes.Gcm = true
seals classes.Cmac = false

-- a key that may be absent: 0 names none
abbrev pub optional_key : ℕ → Option ℕ
optional_key n = if n == 0 then None else Some n

-- ---- the tests of the field at a place: a value outside of its bounds is a fault there

abbrev pub key_check : ℕ → List ℕ → Check ℕ
key_check at octets = (not (is_key (word_at at octets)), at)

abbrev pub spi_check : ℕ → List ℕ → Check ℕ
spi_check at octets = (not (is_spi (word_at at octets)), at)

abbrev pub window_check : ℕ → List ℕ → Check ℕ
window_check at octets = (not (is_window (number_at at octets)), at)

-- the number of a state, a direction or a suite is from 1 to the most there is
abbrev pub code_check : ℕ → ℕ → List ℕ → Check ℕ
code_check most at octets = (not (is_in_range 1 most (octet_at at octets)), at)

-- a key whose class seals
abbrev pub sealing_key_check : ℕ → List ℕ → Check ℕ
sealing_key_check at octets = (not (is_key (word_at at octets) && seals (class_of (word_at at octets))), at)

-- a key whose class makes MACs
abbrev pub mac_key_check : ℕ → List ℕ → Check ℕ
mac_key_check at octets = (not (is_key (word_at at octets) && not (seals (class_of (word_at at octets)))), at)

-- `last` is not below `first`, which stands before it
abbrev pub last_check : ℕ → List ℕ → Check ℕ
last_check at octets = (not (is_in_range (word_at (at - 2) octets) 65535 (word_at at octets)), at)

-- the count of the octets behind it, to the end
abbrev pub count_check : ℕ → List ℕ → Check ℕ
count_check at octets = (not (octet_at at octets == length octets - (at + 1)), at)

-- the tag of a Rekeying command
abbrev pub inner_tag_check : ℕ → List ℕ → Check ℕ
inner_tag_check at octets = (not (octet_at at octets == 1), at)

-- the length in bits of what stands behind it, to the end
abbrev pub inner_length_check : ℕ → List ℕ → Check ℕ
inner_length_check at octets = (not (word_at at octets == 8 * (length octets - (at + 2))), at)
