-- Profile: the kinds of lines, by their first word.
use Rattle.std.specs.Prelude.{ℕ, List, [], ◌∷◌, codes, Option, Some, None, if◌then◌else◌}
use Rattle.std.specs.Option.{option_or}
use Rattle.std.specs.Str.{bytes_eq}
use Rattle.unit_plan.specs.declared.kind.Kind.{Kind}
use Rattle.unit_plan.specs.declared.kind.Kind.TheVariants.{Version, Device, Slots, Block, Accept, Link, Channel, Key}
use Rattle.unit_plan.specs.declared.kind.Kind.TheVariants.{Association}

-- the kind that a word has in a table
abbrev pub kind_in : List (List ℕ × Kind) → List ℕ → Option Kind
kind_in [] word = None
kind_in (row ∷ rows) word = if bytes_eq word row.0 then Some row.1 else kind_in rows word

-- of the first five lines
abbrev pub first_kind_of : List ℕ → Option Kind
first_kind_of word =
    kind_in ((codes "sdls", Version) ∷ (codes "device", Device) ∷ (codes "slots", Slots) ∷ (codes "block", Block)
    ∷ (codes "accept", Accept) ∷ []) word

-- of those after them
abbrev pub later_kind_of : List ℕ → Option Kind
later_kind_of word =
    kind_in ((codes "link", Link) ∷ (codes "channel", Channel) ∷ (codes "key", Key) ∷ (codes "sa", Association) ∷ [])
    word

abbrev pub kind_of : List ℕ → Option Kind
kind_of word = option_or (first_kind_of word) (later_kind_of word)
