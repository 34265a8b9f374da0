-- Recorded input as text, a line an item (profile).
use Rattle.std.specs.Prelude.{◌≡◌, ⊤, ℕ, ◌^◌, ◌<◌, ◌==◌, ◌&&◌, false, if◌then◌else◌}
use Rattle.std.specs.Prelude.{decimal, codes, List, [], ◌∷◌, ◌++◌}
use Rattle.record_io.specs.Input.{Item}
use Rattle.record_io.specs.declared.reader.ItemKind.TheVariants as items
use Rattle.record_io.specs.declared.reader.RecordKind.TheVariants as records
use Rattle.record_io.specs.declared.reader.TheConstants.{LANES}
use Rattle.ep_codec.specs.Command.{command_octets}
use Rattle.input_text.specs.declared.line.Line.{Line}
use Rattle.input_text.specs.declared.line.Line.TheVariants.{Fence, Protect, Open, Command, Message}
use Rattle.input_text.specs.declared.line.Line.TheVariants.{Monitor}
use Rattle.text_words.specs.Names.{item_word}
use Rattle.text_words.specs.Words.{octets_word}
use Rattle.input_text.specs.Plain.{line_said}
use Rattle.input_text.specs.Fields.{AreRecorded}
use Rattle.input_text.specs.Command.{command_words, IsCommand}
use Rattle.input_text.specs.Monitor.{IsAsked, asked_octets, asked_words}

-- a lane and a link of which one is not 0
abbrev pub IsElsewhere : ℕ → ℕ → Type 0
IsElsewhere lane link = ((lane == 0) && (link == 0)) ≡ false

-- where a Monitor record stands, which is not looked at: it is not said if lane and link are 0
abbrev pub at_words : ℕ → ℕ → List (List ℕ)
at_words lane link = if (lane == 0) && (link == 0) then [] else codes "at" ∷ decimal lane ∷ decimal link ∷ []

-- the words of a line
unfoldable pub line_words : Line → List (List ℕ)
line_words Fence = item_word items.Fence ∷ []
line_words (Protect lane link octets) =
    item_word (items.Recorded records.Protect) ∷ decimal lane ∷ decimal link ∷ octets_word octets ∷ []
line_words (Open lane link octets) =
    item_word (items.Recorded records.Open) ∷ decimal lane ∷ decimal link ∷ octets_word octets ∷ []
line_words (Command lane command) = item_word (items.Recorded records.Command) ∷ decimal lane ∷ command_words command
line_words (Message lane octets) =
    item_word (items.Recorded records.Command) ∷ decimal lane ∷ codes "octets" ∷ octets_word octets ∷ []
line_words (Monitor lane link asked) = at_words lane link ++ asked_words asked

-- a record has such a lane
abbrev pub IsLane : ℕ → Type 0
IsLane lane = lane < LANES

-- the values lie in their bounds
unfoldable pub IsLine : Line → Type 0
IsLine Fence = ⊤
IsLine (Protect lane link octets) = IsLane lane × (link < 2 ^ 8) × AreRecorded octets
IsLine (Open lane link octets) = IsLane lane × (link < 2 ^ 8) × AreRecorded octets
IsLine (Command lane command) = IsLane lane × IsCommand command
IsLine (Message lane octets) = IsLane lane × AreRecorded octets
IsLine (Monitor lane link asked) = (lane < 2 ^ 8) × (link < 2 ^ 8) × IsAsked asked

-- The text says this line: its words are those of the line.
pub record SaysLine (text : List ℕ) (line : Line) : Type 0 where
  pub bounds : IsLine line
  pub words : line_said text ≡ line_words line

-- the item of a line; what is not looked at is 0
unfoldable pub line_item : Line → Item
line_item Fence = record { kind = items.Fence; lane = 0; link = 0; octets = [] }
line_item (Protect lane link octets) = record {
  kind = items.Recorded records.Protect;
  lane = lane;
  link = link;
  octets = octets;
}
line_item (Open lane link octets) = record {
  kind = items.Recorded records.Open;
  lane = lane;
  link = link;
  octets = octets;
}
line_item (Command lane command) = record {
  kind = items.Recorded records.Command;
  lane = lane;
  link = 0;
  octets = command_octets command;
}
line_item (Message lane octets) = record {
  kind = items.Recorded records.Command;
  lane = lane;
  link = 0;
  octets = octets;
}
line_item (Monitor lane link asked) = record {
  kind = items.Recorded records.Monitor;
  lane = lane;
  link = link;
  octets = asked_octets asked;
}
