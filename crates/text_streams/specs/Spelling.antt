-- Items of the recorded input as lines (profile).
use Rattle.std.specs.Prelude.{◌≡◌, ⊤, ℕ, ◌⊎◌, ◌==◌, ◌&&◌, if◌then◌else◌, IsTrue, codes, decimal, List, [], ◌∷◌, ◌++◌}
use Rattle.std.specs.List.{flat_map, join_by}
use Rattle.unit_plan.specs.Lines.{lines_of}
use Rattle.record_io.specs.declared.reader.ItemKind.{ItemKind}
use Rattle.record_io.specs.declared.reader.ItemKind.TheVariants.{Fence, Recorded}
use Rattle.record_io.specs.declared.reader.RecordKind.TheVariants as records
use Rattle.record_io.specs.Input.{Item}
use Rattle.ep_codec.specs.declared.command.Command.{Command}
use Rattle.ep_codec.specs.Command.{IsCommandPdu}
use Rattle.fsr_log.specs.declared.messages.Monitoring.{Monitoring}
use Rattle.fsr_log.specs.Message.{IsMonitoring}
use Rattle.input_text.specs.declared.line.Asked.{Asked}
use Rattle.input_text.specs.declared.line.Asked.TheVariants as asks
use Rattle.input_text.specs.declared.line.Line.{Line}
use Rattle.input_text.specs.declared.line.Line.TheVariants as lines
use Rattle.text_words.specs.Words.{spaced}
use Rattle.input_text.specs.Plain.{is_skipped}
use Rattle.input_text.specs.Line.{SaysLine, line_item, line_words}

-- words, a space before each
abbrev pub all_spaced : List (List ℕ) → List ℕ
all_spaced words = flat_map spaced words

-- words, a space between two of them
abbrev pub joined : List (List ℕ) → List ℕ
joined words = join_by (λ word. word) (codes " ") words

-- where a Monitor record stands, in front of its message
abbrev pub at_text : ℕ → ℕ → List ℕ
at_text lane link = if (lane == 0) && (link == 0) then []
    else codes "at" ++ (all_spaced (decimal lane ∷ decimal link ∷ []) ++ codes " ")

-- a line with the line feed at its end
abbrev pub line_text : Line → List ℕ
line_text line = joined (line_words line) ++ codes "\n"

-- the lane that is looked at; that of a fence is not
abbrev pub seen_lane : ItemKind → ℕ → ℕ
seen_lane Fence lane = 0
seen_lane (Recorded kind) lane = lane

-- the link that is looked at; that of a fence and that of a command are not
abbrev pub seen_link : ItemKind → ℕ → ℕ
seen_link Fence link = 0
seen_link (Recorded records.Protect) link = link
seen_link (Recorded records.Open) link = link
seen_link (Recorded records.Command) link = 0
seen_link (Recorded records.Monitor) link = link

-- the item, where what is not looked at is 0
abbrev pub seen_item : Item → Item
seen_item item = record {
  kind = item.kind;
  lane = seen_lane item.kind item.lane;
  link = seen_link item.kind item.link;
  octets = item.octets;
}

-- a monitoring message is told by its name, and not by its octets
abbrev pub IsNamedAsked : Asked → Type 0
IsNamedAsked (asks.Message message) = ⊤
IsNamedAsked (asks.Octets octets) = (message : Monitoring) → IsMonitoring message octets → ⊥

-- a message of a command is told by its name and values, and not by its octets; a monitoring message by its name
abbrev pub IsNamed : Line → Type 0
IsNamed lines.Fence = ⊤
IsNamed (lines.Protect lane link octets) = ⊤
IsNamed (lines.Open lane link octets) = ⊤
IsNamed (lines.Command lane command) = ⊤
IsNamed (lines.Message lane octets) = (command : Command) → IsCommandPdu command octets → ⊥
IsNamed (lines.Monitor lane link asked) = IsNamedAsked asked

-- the text is one line, with its line feed, whatever stands behind it; and the line says this item
pub record Spells (item : Item) (text : List ℕ) : Type 0 where
  pub front : List ℕ
  pub one_line : (rest : List ℕ) → lines_of (text ++ rest) ≡ front ∷ lines_of rest
  pub line : Line
  pub says : SaysLine front line
  pub item_is : line_item line ≡ item
  pub named : IsNamed line

-- the item's line was put behind what there was
abbrev pub AddsLine : Item → List ℕ → List ℕ → Type 0
AddsLine item old new = (text : List ℕ) × Spells item text × (new ≡ old ++ text)

-- the text is the lines of these items, one after the other
abbrev pub SpellsAll : List Item → List ℕ → Type 0
SpellsAll [] text = text ≡ []
SpellsAll (item ∷ items) text = (front rest : List ℕ) × Spells item front × SpellsAll items rest
    × (text ≡ front ++ rest)

-- the lines say these items, in their order; a line that is skipped says none
abbrev pub SayItems : List (List ℕ) → List Item → Type 0
SayItems [] items = items ≡ []
SayItems (text ∷ texts) items = (IsTrue (is_skipped text) × SayItems texts items)
    ⊎ ((line : Line) × (rest : List Item) × SaysLine text line × SayItems texts rest × (items ≡ line_item line ∷ rest))
