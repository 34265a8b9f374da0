-- The end of a frame, with or without a frame error control field.
use Rattle.std.proofs.lemmas.List.{get_or_append_left}
use Rattle.std.proofs.Common.{◌≡◌, ℕ, ◌+◌, ◌-◌, ◌<◌, Bool, true, false, List, ◌++◌, length, take, drop, get_or, refl}
use Rattle.std.proofs.Common.{sym, ap, arith, length-append}
use Rattle.std.specs.Prelude.{not}
use Rattle.std.specs.Str.{bytes_eq}
use Rattle.std.proofs.lemmas.Grind.{common_steps}
use Rattle.std.proofs.lemmas.Slice.Eq.{bytes_eq-Decides}
use Rattle.sdls_base.specs.ErrorControl.{error_control, with_error_control, error_control_length, before_error_control}
use Rattle.sdls_base.specs.ErrorControl.{fails_error_control}

pub length-error_control : (octets : List ℕ) → length (error_control octets) ≡ 2
length-error_control octets = refl

pub length-with_error_control : (fecf : Bool) (octets : List ℕ)
    → length (with_error_control fecf octets) ≡ length octets + error_control_length fecf
length-with_error_control false octets = omega arith
length-with_error_control true octets = length-append octets (error_control octets)

pub take_front : (xs ys : List ℕ) (n : ℕ) → n ≡ length xs → take n (xs ++ ys) ≡ xs
take_front xs ys n e = rw e (grind (arith, common_steps))

pub drop_front : (xs ys : List ℕ) (n : ℕ) → n ≡ length xs → drop n (xs ++ ys) ≡ ys
drop_front xs ys n e = rw e (grind (arith, common_steps))

pub before_error_control-with : (fecf : Bool) (octets : List ℕ)
    → before_error_control fecf (with_error_control fecf octets) ≡ octets
before_error_control-with false octets = grind (arith, common_steps)
before_error_control-with true octets =
    take_front octets (error_control octets) _ (omega (arith, length-append octets (error_control octets)))

pub fails_error_control-with : (fecf : Bool) (octets : List ℕ)
    → fails_error_control fecf (with_error_control fecf octets) ≡ false
fails_error_control-with false octets = refl
fails_error_control-with true octets =
    let n : length (octets ++ error_control octets) - 2 ≡ length octets =
    omega (arith, length-append octets (error_control octets)) in
    rw (
      take_front octets (error_control octets) (length (octets ++ error_control octets) - 2) n,
      drop_front octets (error_control octets) (length (octets ++ error_control octets) - 2) n,
    )
    (ap not ((bytes_eq-Decides (error_control octets) (error_control octets)).1 refl))

not_false : (b : Bool) → not b ≡ false → b ≡ true
not_false true e = refl
not_false false e = sym e

-- a frame whose field is right is what stands before the field, with it
pub with-before_error_control : (fecf : Bool) (frame : List ℕ) → fails_error_control fecf frame ≡ false
    → with_error_control fecf (before_error_control fecf frame) ≡ frame
with-before_error_control false frame right = grind (arith, common_steps)
with-before_error_control true frame right =
    let same : drop (length frame - 2) frame ≡ error_control (take (length frame - 2) frame) =
    (bytes_eq-Decides (drop (length frame - 2) frame) (error_control (take (length frame - 2) frame))).0
    (not_false (bytes_eq (drop (length frame - 2) frame) (error_control (take (length frame - 2) frame))) right) in
    rw (← same) (grind (arith, common_steps))

-- an octet before the field
pub get_or-with_error_control : (fecf : Bool) (octets : List ℕ) (i : ℕ) → i < length octets
    → get_or (with_error_control fecf octets) i 0 ≡ get_or octets i 0
get_or-with_error_control false octets i h = refl
get_or-with_error_control true octets i h = get_or_append_left octets (error_control octets) 0 i h
