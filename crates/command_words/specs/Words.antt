-- The words after the program's name, and what they ask for (profile).
use Rattle.std.specs.Prelude.{⊤, ℕ, ◌≤◌, ◌==◌, nat_le, ◌&&◌, ◌||◌, List, [], ◌∷◌, length, codes, Option, Some, None}
use Rattle.std.specs.Prelude.{Result}
use Rattle.std.specs.Prelude.{Ok, Err, if◌then◌else◌, map, String, string_bytes}
use Rattle.std.specs.declared.alloc.Global.{Global}
use Rattle.std.specs.Str.{bytes_eq}
use Rattle.hex.specs.Hex.{decode_of}
use Rattle.hex.specs.declared.error.FromHexError.{FromHexError}
use Rattle.unit_plan.specs.Number.{number_of}
use Rattle.command_words.specs.declared.reading.TheConstants.{MOST_FRAMES}
use Rattle.command_words.specs.declared.reading.Command.{Command}
use Rattle.command_words.specs.declared.reading.Command.TheVariants.{Check, Init, Stat, Run, Audit, Drill, LinkDrill}
use Rattle.command_words.specs.declared.reading.Command.TheVariants.{Usage}

-- what a word asks for by a table, whose rows have a word each
abbrev pub command_in : List (List ℕ × Command) → List ℕ → Command
command_in [] word = Usage
command_in (row ∷ rows) word = if bytes_eq word row.0 then row.1 else command_in rows word

-- one word
abbrev pub of_one : List ℕ → Command
of_one word =
    command_in ((codes "init", Init) ∷ (codes "stat", Stat) ∷ (codes "run", Run) ∷ (codes "audit", Audit) ∷ []) word

-- octets that are a key, which has 128 or 256 bits
abbrev pub key_within : Result (List ℕ) FromHexError → Option (List ℕ)
key_within (Ok key) = if (length key == 16) || (length key == 32) then Some key else None
key_within (Err error) = None

-- the key that hexadecimal digits spell, in either case
unfoldable pub key_of : List ℕ → Option (List ℕ)
key_of digits = key_within (decode_of digits)

-- a number of frames, at least one
abbrev pub frames_within : Option ℕ → Option ℕ
frames_within (Some number) = if nat_le 1 number && nat_le number MOST_FRAMES then Some number else None
frames_within None = None

-- the number of frames that decimal digits spell
abbrev pub frames_of : List ℕ → Option ℕ
frames_of digits = frames_within (number_of digits)

-- what is asked for with what digits spell; if they spell nothing, the usage line
abbrev pub asked : {X : Type 0} → (X → Command) → Option X → Command
asked command (Some spelled) = command spelled
asked command None = Usage

-- `check` and a key
abbrev pub check_of : List ℕ → Command
check_of digits = asked Check (key_of digits)

-- `drill` and a number
abbrev pub drill_of : List ℕ → Command
drill_of digits = asked Drill (frames_of digits)

-- two words
abbrev pub of_two : List ℕ → List ℕ → Command
of_two word digits =
    if bytes_eq word (codes "check") then check_of digits
    else if bytes_eq word (codes "drill") then drill_of digits
    else Usage

-- three words: `drill link` and a number
abbrev pub of_three : List ℕ → List ℕ → List ℕ → Command
of_three word second digits =
    if bytes_eq word (codes "drill") && bytes_eq second (codes "link") then asked LinkDrill (frames_of digits)
    else Usage

-- what words ask for, by their octets
abbrev pub of_words : List (List ℕ) → Command
of_words [] = Usage
of_words (word ∷ []) = of_one word
of_words (word ∷ digits ∷ []) = of_two word digits
of_words (word ∷ second ∷ digits ∷ []) = of_three word second digits
of_words (word ∷ second ∷ third ∷ fourth ∷ rest) = Usage

-- what the words after the program's name ask for
unfoldable pub command_of : List (String Global) → Command
command_of words = of_words (map string_bytes words)

-- commands that read nothing of the input
abbrev pub IsUnread : Command → Type 0
IsUnread (Check key) = ⊥
IsUnread Init = ⊥
IsUnread Stat = ⊤
IsUnread Run = ⊥
IsUnread Audit = ⊥
IsUnread (Drill number) = ⊤
IsUnread (LinkDrill number) = ⊤
IsUnread Usage = ⊤

-- a drill that is asked for has no more frames than it may
abbrev pub HasFewFrames : Command → Type 0
HasFewFrames (Check key) = ⊤
HasFewFrames Init = ⊤
HasFewFrames Stat = ⊤
HasFewFrames Run = ⊤
HasFewFrames Audit = ⊤
HasFewFrames (Drill number) = number ≤ MOST_FRAMES
HasFewFrames (LinkDrill number) = number ≤ MOST_FRAMES
HasFewFrames Usage = ⊤
