-- The bounds of fields, and the fields at the end of a message.
use Rattle.std.proofs.Common.{◌≡◌, ℕ, ◌+◌, ◌-◌, ◌≤◌, Bool, true, false, List, ◌∷◌, ◌++◌, length, take, drop, None, refl}
use Rattle.std.proofs.Common.{sym, ap, ◌∙◌, arith}
use Rattle.std.specs.Prelude.{not, slice_range}
use Rattle.std.specs.Int.{w16, w64, to_be_bytes, is_in_range}
use Rattle.std.proofs.lemmas.Bool.{and_parts, and_from, leb-true, le-leb}
use Rattle.std.proofs.lemmas.List.{drop_all, take-append-drop, append-nil, drop-drop, length-take, length-drop}
use Rattle.sdls_base.specs.FirstFailing.{Check, first_failing}
use Rattle.sdls_base.specs.declared.TheConstants.{MOST_WINDOW}
use Rattle.replay_window.specs.WindowField.{width_of, IsWindowField}
use Rattle.sdls_base.specs.Places.{word_at, number_at}
use Rattle.sdls_base.proofs.PlaceFacts.{AreOctets, word_field, number_field}
use Rattle.ep_codec.specs.Field.{is_window}
use Rattle.ep_codec.proofs.Faults.{first_passed}

-- ---- bounds

pub low_bound : (low high n : ℕ) → is_in_range low high n ≡ true → low ≤ n
low_bound low high n h = leb-true low n (and_parts _ _ h).0

pub high_bound : (low high n : ℕ) → is_in_range low high n ≡ true → n ≤ high
high_bound low high n h = leb-true n high (and_parts _ _ h).1

-- a window field, as a test and as a fact
pub window_found : (n : ℕ) → is_window n ≡ true → IsWindowField n
window_found n is =
    let parts = and_parts _ _ is in
    record {
      back = leb-true _ _ parts.0;
      width = record {
        least = low_bound 1 MOST_WINDOW (width_of n) parts.1;
        most = high_bound 1 MOST_WINDOW (width_of n) parts.1;
      };
    }

pub in_bounds : (low high n : ℕ) → low ≤ n → n ≤ high → is_in_range low high n ≡ true
in_bounds low high n p q = and_from _ _ (le-leb low n p) (le-leb n high q)

not_not : (b : Bool) → not b ≡ false → b ≡ true
not_not true e = refl
not_not false e = sym e

-- a bound whose test finds no fault is kept
pub kept : (b : Bool) (at : ℕ) (checks : List (Check ℕ)) → first_failing ((not b, at) ∷ checks) ≡ None → b ≡ true
kept b at checks none = not_not b (first_passed (not b) at checks none)

-- a bound that is kept finds no fault
pub keeps : (b : Bool) (at : ℕ) (checks : List (Check ℕ)) → b ≡ true → first_failing checks ≡ None
    → first_failing ((not b, at) ∷ checks) ≡ None
keeps true at checks e none = none
keeps false at checks e none = absurd cc

-- ---- the octets of a range

pub range_field : (octets : List ℕ) (a b : ℕ) → a ≤ b → drop a octets ≡ slice_range octets a b ++ drop b octets
range_field octets a b h =
    let same : a + (b - a) ≡ b = omega arith in
    sym (take-append-drop (b - a) (drop a octets)) ∙ ap (λ (s : List ℕ). take (b - a) (drop a octets) ++ s)
    (drop-drop (b - a) a octets ∙ ap (λ (i : ℕ). drop i octets) same)

pub range_length : (octets : List ℕ) (a b : ℕ) → a ≤ b → b ≤ length octets → length (slice_range octets a b) ≡ b - a
range_length octets a b p q = omega (arith, length-take (b - a) (drop a octets), length-drop a octets)

-- ---- the last field, with nothing behind it

ended : (front octets : List ℕ) (at : ℕ) → length octets ≤ at → front ++ drop at octets ≡ front
ended front octets at h = ap (λ (s : List ℕ). front ++ s) (drop_all at octets h) ∙ append-nil front

pub word_end : (at : ℕ) (octets : List ℕ) → AreOctets octets → at + 2 ≡ length octets
    → drop at octets ≡ to_be_bytes w16 (word_at at octets)
word_end at octets are h = word_field at octets are (omega arith) ∙ ended (to_be_bytes w16 (word_at at octets)) octets
    (at + 2) (omega arith)

pub number_end : (at : ℕ) (octets : List ℕ) → AreOctets octets → at + 8 ≡ length octets
    → drop at octets ≡ to_be_bytes w64 (number_at at octets)
number_end at octets are h = number_field at octets are (omega arith) ∙ ended (to_be_bytes w64 (number_at at octets))
    octets (at + 8) (omega arith)

pub range_end : (octets : List ℕ) (a b : ℕ) → a ≤ b → b ≡ length octets → drop a octets ≡ slice_range octets a b
range_end octets a b p q = range_field octets a b p ∙ ended (slice_range octets a b) octets b (omega arith)
