-- The words of a line of text, however it is spaced (profile).
use Rattle.std.specs.Prelude.{ℕ, ◌==◌, if◌then◌else◌, map, Bool, true, List, [], ◌∷◌}
use Rattle.std.specs.Char.{to_ascii_lowercase}
use Rattle.unit_plan.specs.Lines.{words_of}

-- a comma parts words as a space does, and a letter counts in either case
abbrev pub plain_octet : ℕ → ℕ
plain_octet octet = if octet == 44 then 32 else to_ascii_lowercase octet

-- however many spaces part two words; a word that begins with # begins a comment
abbrev pub said_words : List (List ℕ) → List (List ℕ)
said_words [] = []
said_words ([] ∷ words) = said_words words
said_words ((octet ∷ word) ∷ words) = if octet == 35 then [] else (octet ∷ word) ∷ said_words words

-- the words of a line, without its comment
abbrev pub line_said : List ℕ → List (List ℕ)
line_said text = said_words (words_of (map plain_octet text))

-- an empty line, or a comment, perhaps behind spaces, says nothing
abbrev pub is_skipped : List ℕ → Bool
is_skipped [] = true
is_skipped (octet ∷ octets) = if octet == 32 then is_skipped octets else octet == 35
