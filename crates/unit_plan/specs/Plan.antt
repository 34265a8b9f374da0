-- Profile: what the lines of a plan say, or the first line that has a cause with its first cause.
use Rattle.std.specs.Prelude.{◌≡◌, ⊤, ℕ, ◌+◌, ◌==◌, nat_le, nat_lt, Bool, true, not, List, [], ◌∷◌, ◌++◌, length}
use Rattle.std.specs.Prelude.{Option, Some, None, Result, Ok, Err, if◌then◌else◌}
use Rattle.unit_plan.specs.declared.link_line.ChannelPlace.{ChannelPlace}
use Rattle.unit_plan.specs.declared.kind.Kind.{Kind}
use Rattle.unit_plan.specs.declared.kind.Kind.TheVariants as kinds
use Rattle.sdls_base.specs.declared.link.Link.{Link}
use Rattle.unit_plan.specs.declared.plan.PlanSa.{PlanSa}
use Rattle.unit_plan.specs.declared.plan_error.PlanCause.TheVariants.{Long, Form, Order, Range, Twice, Unknown}
use Rattle.unit_plan.specs.declared.plan_error.PlanFault.{PlanFault}
use Rattle.unit_plan.specs.declared.plan_error.PlanError.{PlanError}
use Rattle.unit_plan.specs.declared.plan_error.PlanError.TheVariants.{Refused, NoMemory}
use Rattle.unit_plan.specs.Lines.{lines_of, words_of}
use Rattle.unit_plan.specs.LineForm.{bounded, channel_id, version_said, device_said, number_said, association_of}
use Rattle.unit_plan.specs.LinkLine.{link_said, is_link}
use Rattle.unit_plan.specs.ChannelLine.{channel_said, is_place}
use Rattle.unit_plan.specs.KeyLine.{key_said}
use Rattle.unit_plan.specs.AssociationLine.{association_said}
use Rattle.unit_plan.specs.Channels.{has_channel, has_place, are_known}
use Rattle.unit_plan.specs.Kind.{kind_of}
use Rattle.unit_plan.specs.PlanError.{◌>>=◌, fault, check, require}
use Rattle.unit_plan.specs.PlanLines.{PlanLines, no_lines, link_of, has_link, has_key, has_association}

-- the line stands behind so many of the first five
abbrev pub in_order : ℕ → PlanLines → ℕ → Result (Unit {0}) PlanFault
in_order line plan heads = check line Order (plan.heads == heads)

-- Each kind of line: its tests in order, each with its cause, and the plan with what it says.

unfoldable pub version_taken : ℕ → PlanLines → List (List ℕ) → Result PlanLines PlanFault
version_taken line plan words = do
  said ← require line Form (version_said words)
  ordered ← in_order line plan 0
  Ok (record plan { heads = 1 })

unfoldable pub device_taken : ℕ → PlanLines → List (List ℕ) → Result PlanLines PlanFault
device_taken line plan words = do
  device ← require line Form (device_said words)
  ordered ← in_order line plan 1
  Ok (record plan { heads = 2; device = device })

-- one number behind so many of the first five, within bounds
abbrev pub number_in_order : ℕ → PlanLines → ℕ → ℕ → ℕ → List (List ℕ) → Result ℕ PlanFault
number_in_order line plan heads least most words = do
  said ← require line Form (number_said words)
  ordered ← in_order line plan heads
  require line Range (bounded least most said)

unfoldable pub slots_taken : ℕ → PlanLines → List (List ℕ) → Result PlanLines PlanFault
slots_taken line plan words = do
  n ← number_in_order line plan 2 16 65536 words
  Ok (record plan { heads = 3; slots = n })

unfoldable pub block_taken : ℕ → PlanLines → List (List ℕ) → Result PlanLines PlanFault
block_taken line plan words = do
  n ← number_in_order line plan 3 1 65536 words
  Ok (record plan { heads = 4; block = n })

unfoldable pub accept_taken : ℕ → PlanLines → List (List ℕ) → Result PlanLines PlanFault
accept_taken line plan words = do
  n ← number_in_order line plan 4 1 65536 words
  Ok (record plan { heads = 5; accept = n })

abbrev pub link_admitted : ℕ → PlanLines → ℕ → Link → Result (Unit {0}) PlanFault
link_admitted line plan number link = do
  ordered ← in_order line plan 5
  bounds ← check line Range (is_link number link)
  check line Twice (not (has_link plan.links number))

unfoldable pub link_taken : ℕ → PlanLines → List (List ℕ) → Result PlanLines PlanFault
link_taken line plan words = do
  said ← require line Form (link_said words)
  known ← link_admitted line plan said.0 said.1
  Ok (record plan { links = plan.links ++ said ∷ [] })

-- a place is one on its link, where that has a line
abbrev pub is_on : Option Link → ChannelPlace → Bool
is_on None place = true
is_on (Some link) place = is_place link.layout place

abbrev pub is_on_link : List (ℕ × Link) → ChannelPlace → Bool
is_on_link links place = is_on (link_of links place.link) place

abbrev pub channel_admitted : ℕ → PlanLines → ℕ → ChannelPlace → Result ℕ PlanFault
channel_admitted line plan number place = do
  ordered ← in_order line plan 5
  id ← require line Range (channel_id number)
  link ← check line Range (nat_le place.link 15)
  bounds ← check line Range (is_on_link plan.links place)
  number_once ← check line Twice (not (has_channel plan.channels number))
  place_once ← check line Twice (not (has_place plan.channels place))
  known ← check line Unknown (has_link plan.links place.link)
  Ok id

unfoldable pub channel_taken : ℕ → PlanLines → List (List ℕ) → Result PlanLines PlanFault
channel_taken line plan words = do
  said ← require line Form (channel_said words)
  id ← channel_admitted line plan said.0 said.1
  Ok (record plan { channels = plan.channels ++ (id, said.1) ∷ [] })

abbrev pub key_admitted : ℕ → PlanLines → ℕ → Result ℕ PlanFault
key_admitted line plan number = do
  ordered ← in_order line plan 5
  id ← require line Range (bounded 1 65535 number)
  once ← check line Twice (not (has_key plan.keys id))
  Ok id

unfoldable pub key_taken : ℕ → PlanLines → List (List ℕ) → Result PlanLines PlanFault
key_taken line plan words = do
  said ← require line Form (key_said words)
  id ← key_admitted line plan said.id
  Ok (record plan {
    keys = plan.keys ++ record { line = line; item = record { id = id; bytes = said.octets }; state = said.state } ∷ [];
  })

abbrev pub admitted : PlanLines → PlanSa → Result (Unit {0}) PlanFault
admitted plan found = do
  once ← check found.line Twice (not (has_association plan.associations found.sa.spi))
  key ← check found.line Unknown (has_key plan.keys found.key)
  check found.line Unknown (are_known plan.channels found.sa.channels)

unfoldable pub association_added : PlanLines → PlanSa → Result PlanLines PlanFault
association_added plan found = do
  known ← admitted plan found
  Ok (record plan { associations = plan.associations ++ found ∷ [] })

unfoldable pub association_taken : ℕ → PlanLines → List (List ℕ) → Result PlanLines PlanFault
association_taken line plan words = do
  said ← require line Form (association_said words)
  ordered ← in_order line plan 5
  found ← require line Range (association_of line said)
  association_added plan found

abbrev pub taken_as : ℕ → PlanLines → Kind → List (List ℕ) → Result PlanLines PlanFault
taken_as line plan kinds.Version words = version_taken line plan words
taken_as line plan kinds.Device words = device_taken line plan words
taken_as line plan kinds.Slots words = slots_taken line plan words
taken_as line plan kinds.Block words = block_taken line plan words
taken_as line plan kinds.Accept words = accept_taken line plan words
taken_as line plan kinds.Link words = link_taken line plan words
taken_as line plan kinds.Channel words = channel_taken line plan words
taken_as line plan kinds.Key words = key_taken line plan words
taken_as line plan kinds.Association words = association_taken line plan words

-- a line with these words, its kind named by the first
unfoldable pub taken : ℕ → PlanLines → List (List ℕ) → Result PlanLines PlanFault
taken line plan [] = fault line Form
taken line plan (word ∷ words) = do
  kind ← require line Form (kind_of word)
  taken_as line plan kind words

-- an empty line, or a comment
abbrev pub is_skipped : List ℕ → Bool
is_skipped [] = true
is_skipped (octet ∷ octets) = octet == 35

abbrev pub line_taken : ℕ → PlanLines → List ℕ → Result PlanLines PlanFault
line_taken line plan text = if is_skipped text then Ok plan else taken line plan (words_of text)

-- the lines from this number on, behind those of a plan; skipped lines count
abbrev pub plan_after : ℕ → PlanLines → List (List ℕ) → Result PlanLines PlanFault
plan_after line plan [] = check line Order (plan.heads == 5) >>= λ ended. Ok plan
plan_after line plan (text ∷ lines) = line_taken line plan text >>= λ next. plan_after (line + 1) next lines

-- a whole text
abbrev pub plan_of : List ℕ → Result PlanLines PlanFault
plan_of text = if nat_lt 65536 (length text) then fault 1 Long else plan_after 1 no_lines (lines_of text)

-- what a call answers, and what it left, is what taking a line gives, unless memory ran out
abbrev pub TakesPlanLine : Result (Unit {0}) PlanError → Result PlanLines PlanFault → PlanLines → Type 0
TakesPlanLine (Ok u) said plan = said ≡ Ok plan
TakesPlanLine (Err (Refused first)) said plan = said ≡ Err first
TakesPlanLine (Err NoMemory) said plan = ⊤
