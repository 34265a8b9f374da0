-- Profile: a text is its lines, and a line its words.
use Rattle.std.specs.Prelude.{◌≡◌, ◌≢◌, ℕ, ◌<◌, List, [], ◌∷◌, length, slice_index, ◌==◌, if◌then◌else◌, Option, Some}
use Rattle.std.specs.Prelude.{None}
use Rattle.std.specs.List.{onto_first}
use denote.Ref.{Bor}

-- what stands before, between and after the marks, in order; where nothing stands after the last mark, `last` are the
-- parts there
abbrev pub parts : ℕ → List (List ℕ) → List ℕ → List (List ℕ)
parts mark last [] = last
parts mark last (x ∷ xs) = if x == mark then [] ∷ parts mark last xs else onto_first x (parts mark last xs)

-- the lines of a text: each ends with a line feed, which the last one may lack
abbrev pub lines_of : List ℕ → List (List ℕ)
lines_of text = parts 10 [] text

-- the words of a line: one space stands between two words
abbrev pub words_of : List ℕ → List (List ℕ)
words_of line = parts 32 ([] ∷ []) line

-- the words of what is left of a line, if anything is
abbrev pub words_left : Option (Bor (List ℕ)) → List (List ℕ)
words_left None = []
words_left (Some line) = words_of line.now

-- front is what stands before the first mark of a list, and after what stands behind it where there is one
abbrev pub IsCut : ℕ → List ℕ → List ℕ → Option (Bor (List ℕ)) → Type 0
IsCut mark xs front None = (front ≡ xs) × ((k : ℕ) → k < length xs → slice_index xs k ≢ mark)
IsCut mark xs front (Some after) = (last : List (List ℕ)) → parts mark last xs ≡ front ∷ parts mark last after.now
