-- The bare plan (profile): a plan's text without what its keys and associations say.
use Rattle.std.specs.Prelude.{ℕ, Bool, false, not, ◌&&◌, ◌||◌, List, [], ◌∷◌, ◌++◌, codes, filter}
use Rattle.std.specs.List.{flat_map}
use Rattle.std.specs.Str.{bytes_eq}
use Rattle.unit_plan.specs.Lines.{lines_of, words_of}
use Rattle.unit_plan.specs.Plan.{is_skipped}
use Rattle.unit_plan.specs.PlanLines.{PlanLines}

-- the line of a key or of an association, by its first word
abbrev pub names_rows : List (List ℕ) → Bool
names_rows [] = false
names_rows (word ∷ words) = bytes_eq word (codes "key") || bytes_eq word (codes "sa")

-- a line that the bare plan keeps
abbrev pub is_bare : List ℕ → Bool
is_bare line = not (is_skipped line) && not (names_rows (words_of line))

-- a line with its line feed
abbrev pub ended : List ℕ → List ℕ
ended line = line ++ 10 ∷ []

-- the lines that are kept, in order, each with a line feed
abbrev pub bare_of : List ℕ → List ℕ
bare_of text = flat_map ended (filter is_bare (lines_of text))

-- what the lines say but for keys and associations
abbrev pub without_rows : PlanLines → PlanLines
without_rows plan = record plan { keys = []; associations = [] }
