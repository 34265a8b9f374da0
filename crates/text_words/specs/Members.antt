-- The members of a JSON object (profile).
use Rattle.std.specs.Prelude.{ℕ, codes, List, ◌++◌}

-- a text between quotation marks
abbrev pub quoted : List ℕ → List ℕ
quoted text = codes "\"" ++ (text ++ codes "\"")

-- a member of a JSON object: its name, and its value as it is printed
abbrev pub member : List ℕ → List ℕ → List ℕ
member name value = codes "\"" ++ (name ++ (codes "\":" ++ value))
