-- Profile: the fields of a line, read from left to right.
use Rattle.std.specs.Prelude.{ℕ, min, Bool, true, false, List, [], ◌∷◌, codes, Option, Some, None, if◌then◌else◌}
use Rattle.std.specs.Str.{bytes_eq}
use denote.Ref.{Bor}
use Rattle.hex.specs.Hex.{decode_sized}
use Rattle.unit_plan.specs.Lines.{parts}
use Rattle.unit_plan.specs.Number.{number_of}
use Rattle.unit_plan.specs.Reading.{◌>>=◌, first_of, ok_of}

-- a number, in whatever bounds
unfoldable pub decimal_at : List (List ℕ) → Option (ℕ × List (List ℕ))
decimal_at words = do
  word ← first_of words
  n ← number_of word.0
  Some (n, word.1)

-- a number whose bounds lie below `most`, for which a greater one is taken
unfoldable pub capped_at : ℕ → List (List ℕ) → Option (ℕ × List (List ℕ))
capped_at most words = do
  n ← decimal_at words
  Some (min n.0 most, n.1)

-- a number, or - where there is none
abbrev pub optional : List ℕ → Option (Option ℕ)
optional word =
    if bytes_eq word (codes "-") then Some None
    else (number_of word >>= λ n. Some (Some (min n 255)))

unfoldable pub optional_at : List (List ℕ) → Option (Option ℕ × List (List ℕ))
optional_at words = do
  word ← first_of words
  n ← optional word.0
  Some (n, word.1)

-- one of two words: whether it is the first
abbrev pub choice : List ℕ → List ℕ → List ℕ → Option Bool
choice first second word = if bytes_eq word first then Some true else
    (if bytes_eq word second then Some false else None)

unfoldable pub choice_at : List ℕ → List ℕ → List (List ℕ) → Option (Bool × List (List ℕ))
choice_at first second words = do
  word ← first_of words
  is ← choice first second word.0
  Some (is, word.1)

-- so many octets, as hexadecimal digits of either case
abbrev pub decoded : ℕ → List ℕ → Option (List ℕ)
decoded count word = ok_of (decode_sized word count)

-- the items of a list: one comma stands between two
abbrev pub items_of : List ℕ → List (List ℕ)
items_of word = parts 44 ([] ∷ []) word

-- the items of what is left of a list, if anything is
abbrev pub items_left : Option (Bor (List ℕ)) → List (List ℕ)
items_left None = []
items_left (Some word) = items_of word.now

-- the numbers that items spell; one above 255 is taken for that
abbrev pub numbers_of : List (List ℕ) → Option (List ℕ)
numbers_of [] = Some []
numbers_of (item ∷ items) = number_of item >>= λ n. numbers_of items >>= λ ns. Some (min n 255 ∷ ns)

abbrev pub channel_numbers : List ℕ → Option (List ℕ)
channel_numbers word = numbers_of (items_of word)
