-- Profile: the association of a plan whose frames can be changed into others, for what a mask leaves out.
use Rattle.std.specs.Prelude.{ℕ, ◌==◌, nat_le, nat_lt, Bool, true, false, ◌&&◌, List, [], ◌∷◌, codes, get_or, Option}
use Rattle.std.specs.Prelude.{None, Some, if◌then◌else◌}
use Rattle.std.specs.List.{find, list_any}
use Rattle.std.specs.Option.{option_map, option_map_or}
use Rattle.std.specs.Str.{bytes_eq}
use Rattle.sdls_base.specs.declared.entry.NewSa.{NewSa}
use Rattle.sdls_base.specs.declared.link.AnyLayout.{AnyLayout}
use Rattle.sdls_base.specs.declared.link.AnyLayout.TheVariants.{Tc, Tm, Aos}
use Rattle.sdls_base.specs.declared.link.Link.{Link}
use Rattle.sdls_base.specs.declared.states.Suite.{Suite}
use Rattle.sdls_base.specs.declared.states.Suite.TheVariants.{Cmac, Gcm}
use Rattle.unit_plan.specs.Lines.{lines_of, words_of}
use Rattle.unit_plan.specs.Number.{number_of}
use Rattle.unit_plan.specs.PlanLines.{PlanLines, link_of}

abbrev pub is_tm : AnyLayout → Bool
is_tm (Tc layout) = false
is_tm (Tm layout) = true
is_tm (Aos layout) = false

-- a TM link whose mask leaves out the secondary header flag (CCSDS 132.0-B-3), the first bit of the fifth octet
abbrev pub leaves_flag : Link → Bool
leaves_flag link = is_tm link.layout && nat_lt (get_or link.mask.octets 4 0) 128

-- two numbers, if both are there
abbrev pub both : Option ℕ → Option ℕ → Option (ℕ × ℕ)
both None second = None
both (Some first) second = option_map (λ number. (first, number)) second

-- the channel and the link that the words of a line name, if they are those of a `channel` line
abbrev pub placed : List (List ℕ) → Option (ℕ × ℕ)
placed [] = None
placed (kind ∷ []) = None
placed (kind ∷ channel ∷ []) = None
placed (kind ∷ channel ∷ link ∷ words) =
    if bytes_eq kind (codes "channel") then both (number_of channel) (number_of link) else None

-- the words of a line put this channel on such a link
abbrev pub puts_on : List (ℕ × Link) → ℕ → List (List ℕ) → Bool
puts_on links channel words = option_map_or
    (λ place. (place.0 == channel)
    && (nat_le place.1 15 && option_map_or leaves_flag (link_of links place.1) false))
    (placed words) false

-- a line of the text does
abbrev pub lies_bare : List ℕ → List (ℕ × Link) → ℕ → Bool
lies_bare text links channel = list_any (λ line. puts_on links channel (words_of line)) (lines_of text)

abbrev pub is_cmac : Suite → Bool
is_cmac Cmac = true
is_cmac Gcm = false

-- one of these channels does
abbrev pub any_bare : List ℕ → List (ℕ × Link) → List ℕ → Bool
any_bare text links channels = list_any (λ channel. lies_bare text links channel) channels

-- an association under CMAC covers such a channel
abbrev pub is_moved : List ℕ → List (ℕ × Link) → NewSa → Bool
is_moved text links sa = is_cmac sa.suite && any_bare text links sa.channels

-- the line of the first such association of a plan, which has this text
abbrev pub moved_line : List ℕ → PlanLines → Option ℕ
moved_line text plan = option_map (λ found. found.line)
    (find (λ found. is_moved text plan.links found.sa) plan.associations)
