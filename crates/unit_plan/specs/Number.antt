-- Profile: numbers in a plan are decimal, in one spelling each.
use Rattle.std.specs.Prelude.{ℕ, ◌-◌, ◌^◌, ◌==◌, nat_lt, List, length, slice_index, Bool, false, ◌&&◌, Option, Some}
use Rattle.std.specs.Prelude.{None, if◌then◌else◌}
use Rattle.std.specs.Char.{is_ascii_digit}
use Rattle.std.specs.List.{list_all}
use Rattle.std.specs.Str.Parse.{digits_value}

-- digits alone, at least one, the first not 0 unless it stands alone
abbrev pub is_decimal : List ℕ → Bool
is_decimal word =
    if length word == 0 then false
    else if nat_lt 1 (length word) && (slice_index word 0 == 48) then false
    else list_all is_ascii_digit word

-- a number as code holds it: no bound lies as high as the greatest, so what is above it is taken for it
abbrev pub held : ℕ → ℕ
held n = if nat_lt n (2 ^ 64) then n else 2 ^ 64 - 1

-- the number that a word spells, if it does
unfoldable pub number_of : List ℕ → Option ℕ
number_of word = if is_decimal word then Some (held (digits_value 10 word)) else None
