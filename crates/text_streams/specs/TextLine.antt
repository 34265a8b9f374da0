-- The lines of a text, and the recorded input that is made of them (profile).
use Rattle.std.specs.Prelude.{◌≡◌, ◌≢◌, ⊤, ℕ, ◌+◌, ◌-◌, ◌^◌, ◌<◌, ◌≤◌, ◌++◌, ◌∷◌, ◌⊎◌, [], codes, IsTrue, List, length}
use Rattle.sdls_outside.specs.Moments.{Between}
use Rattle.unit_plan.specs.Lines.{lines_of}
use Rattle.record_io.specs.Input.{Item, beginning, item_octets, items_octets}
use Rattle.input_text.specs.declared.line.Line.{Line}
use Rattle.input_text.specs.Plain.{is_skipped}
use Rattle.input_text.specs.Line.{SaysLine, line_item}
use Rattle.text_streams.specs.Spelling.{SayItems}
use Rattle.text_streams.specs.declared.ends.End.{End}
use Rattle.text_streams.specs.declared.ends.End.TheVariants.{Done, LineFault, LongLine, CutAnswer, NoAnswer, NoItem}
use Rattle.text_streams.specs.declared.ends.End.TheVariants.{SourceFault, OutputFault, NoMemory}
use Rattle.text_streams.specs.declared.streams.NextLine.{NextLine}
use Rattle.text_streams.specs.declared.streams.NextLine.TheVariants as next
use Rattle.text_streams.specs.declared.streams.TheConstants.{MOST_LINE}

-- the first line is longer than a line may be
pub record BeginsLong (left : List ℕ) : Type 0 where
  pub line : List ℕ
  pub more : List (List ℕ)
  pub lines_are : lines_of left ≡ line ∷ more
  pub long : MOST_LINE < length line

-- what stands behind the last line feed is the last line, unless nothing does
abbrev pub IsLast : List ℕ → NextLine → Type 0
IsLast part (next.Line text) = ⊥
IsLast part (next.Last text) = (text.items ≡ part) × (0 < length part)
IsLast part next.End = part ≡ []
IsLast part next.Long = ⊥
IsLast part next.SourceFault = ⊥

-- the first line was taken, with its line feed or, as the last one that lacks it, with all that was left; or there was
-- none, or it is too long
abbrev pub TakesLine : List ℕ → List ℕ → NextLine → Type 0
TakesLine left left_new (next.Line text) = (lines_of left ≡ text.items ∷ lines_of left_new)
    × (left ≡ text.items ++ (codes "\n" ++ left_new))
TakesLine left left_new (next.Last text) = (lines_of left ≡ text.items ∷ lines_of left_new) × (left ≡ text.items)
TakesLine left left_new next.End = left ≡ []
TakesLine left left_new next.Long = BeginsLong left
TakesLine left left_new next.SourceFault = ⊤

-- a line that is skipped adds nothing, and any other the octets of the item that it says
abbrev pub Adds : List ℕ → List ℕ → List ℕ → Type 0
Adds text old new =
    (IsTrue (is_skipped text) × (new ≡ old)) ⊎ ((line : Line) × SaysLine text line
    × (new ≡ old ++ item_octets (line_item line)))

-- the first line was taken, and added
pub record AddsNext (left left_new old new : List ℕ) : Type 0 where
  pub text : List ℕ
  pub lines_are : lines_of left ≡ text ∷ lines_of left_new
  pub adds : Adds text old new

-- the line says nothing
abbrev pub SaysNothing : List ℕ → Type 0
SaysNothing text = (line : Line) → SaysLine text line → ⊥

-- the fault of this line comes with its number, and only where the line says nothing; lack of memory needs no cause
abbrev pub EndsAt : ℕ → List ℕ → End → Type 0
EndsAt number text Done = ⊥
EndsAt number text (LineFault at fault) = (at ≡ number) × SaysNothing text
EndsAt number text (LongLine at) = ⊥
EndsAt number text (CutAnswer offset) = ⊥
EndsAt number text (NoAnswer offset) = ⊥
EndsAt number text (NoItem offset) = ⊥
EndsAt number text SourceFault = ⊥
EndsAt number text OutputFault = ⊥
EndsAt number text NoMemory = ⊤

-- the first line says nothing
pub record BeginsAtFault (left : List ℕ) : Type 0 where
  pub text : List ℕ
  pub more : List (List ℕ)
  pub lines_are : lines_of left ≡ text ∷ more
  pub nothing : SaysNothing text

-- Why no line is taken, where the next one has this number: nothing is left; or that line says nothing, or is too long.
abbrev pub EndsNext : ℕ → List ℕ → End → Type 0
EndsNext number left Done = left ≡ []
EndsNext number left (LineFault at fault) = (at ≡ number) × BeginsAtFault left
EndsNext number left (LongLine at) = (at ≡ number) × BeginsLong left
EndsNext number left (CutAnswer offset) = ⊥
EndsNext number left (NoAnswer offset) = ⊥
EndsNext number left (NoItem offset) = ⊥
EndsNext number left SourceFault = ⊤
EndsNext number left OutputFault = ⊥
EndsNext number left NoMemory = ⊤

-- So many lines of a text are read: there it counts as ended.
abbrev pub MOST_LINES : ℕ
MOST_LINES = 2 ^ 64 - 2

-- these lines were read from what was left, and say these items
pub record Reads (left left_new : List ℕ) (count : ℕ) (items : List Item) : Type 0 where
  pub lines : List (List ℕ)
  pub lines_are : lines_of left ≡ lines ++ lines_of left_new
  pub count_is : count ≡ length lines
  pub said : SayItems lines items

-- Why the text is read no further behind so many lines: as for the next line; the output may have failed, and a text of
-- 2^64 - 2 lines counts as ended.
abbrev pub EndsBehind : ℕ → List ℕ → End → Type 0
EndsBehind count left Done = (left ≡ []) ⊎ (count ≡ MOST_LINES)
EndsBehind count left (LineFault at fault) = (at ≡ count + 1) × BeginsAtFault left
EndsBehind count left (LongLine at) = (at ≡ count + 1) × BeginsLong left
EndsBehind count left (CutAnswer offset) = ⊥
EndsBehind count left (NoAnswer offset) = ⊥
EndsBehind count left (NoItem offset) = ⊥
EndsBehind count left SourceFault = ⊤
EndsBehind count left OutputFault = ⊤
EndsBehind count left NoMemory = ⊤

-- the octets stand behind those that were put before, also those in the buffer
pub record Stand (octets sunk out sunk_new out_new : List ℕ) : Type 0 where
  pub least : length sunk ≤ length sunk_new
  pub all : sunk_new ++ out_new ≡ sunk ++ (out ++ octets)

-- the same, or where the output failed a front of all this was put
abbrev pub StandAt : End → List ℕ → List ℕ → List ℕ → List ℕ → List ℕ → Type 0
StandAt Done octets sunk out sunk_new out_new = Stand octets sunk out sunk_new out_new
StandAt (LineFault at fault) octets sunk out sunk_new out_new = Stand octets sunk out sunk_new out_new
StandAt (LongLine at) octets sunk out sunk_new out_new = Stand octets sunk out sunk_new out_new
StandAt (CutAnswer offset) octets sunk out sunk_new out_new = Stand octets sunk out sunk_new out_new
StandAt (NoAnswer offset) octets sunk out sunk_new out_new = Stand octets sunk out sunk_new out_new
StandAt (NoItem offset) octets sunk out sunk_new out_new = Stand octets sunk out sunk_new out_new
StandAt SourceFault octets sunk out sunk_new out_new = Stand octets sunk out sunk_new out_new
StandAt OutputFault octets sunk out sunk_new out_new = Between sunk (sunk ++ (out ++ octets)) sunk_new
StandAt NoMemory octets sunk out sunk_new out_new = Stand octets sunk out sunk_new out_new

-- the lines were read up to an end, and what they say stands behind what there was
pub record ReadsLines (left sunk out sunk_new out_new : List ℕ) (end : End) : Type 0 where
  pub left_new : List ℕ
  pub count : ℕ
  pub items : List Item
  pub reads : Reads left left_new count items
  pub ends : EndsBehind count left_new end
  pub stand : StandAt end (items_octets items) sunk out sunk_new out_new

-- these octets were put, or where the output failed a front of them
abbrev pub WasPut : End → List ℕ → List ℕ → List ℕ → Type 0
WasPut Done octets old new = new ≡ old ++ octets
WasPut (LineFault at fault) octets old new = new ≡ old ++ octets
WasPut (LongLine at) octets old new = new ≡ old ++ octets
WasPut (CutAnswer offset) octets old new = new ≡ old ++ octets
WasPut (NoAnswer offset) octets old new = new ≡ old ++ octets
WasPut (NoItem offset) octets old new = new ≡ old ++ octets
WasPut SourceFault octets old new = new ≡ old ++ octets
WasPut OutputFault octets old new = Between old (old ++ octets) new
WasPut NoMemory octets old new = new ≡ old ++ octets

-- what was left in the buffer was put, and the end stays; or the output has failed, before or now
abbrev pub PutsRest : End → End → List ℕ → List ℕ → List ℕ → Type 0
PutsRest end result old out new = ((result ≡ end) × (new ≡ old ++ out) × (end ≢ OutputFault))
    ⊎ (((result ≡ OutputFault) × (end ≢ OutputFault) × Between old (old ++ out) new)
    ⊎ ((result ≡ OutputFault) × (end ≡ OutputFault) × (new ≡ old)))

-- The octets that were put are the beginning and those of the items that the lines say, up to the end of the text, or
-- to the first line that says nothing or is too long, which is told by its number; nothing of it or of a later one is
-- put.
pub record PutsRecords (left old new : List ℕ) (end : End) : Type 0 where
  pub left_new : List ℕ
  pub count : ℕ
  pub items : List Item
  pub reads : Reads left left_new count items
  pub ends : EndsBehind count left_new end
  pub put_is : WasPut end (beginning ++ items_octets items) old new

-- where the source failed this holds
abbrev pub IfSourceFault : NextLine → Type 0 → Type 0
IfSourceFault (next.Line text) P = ⊤
IfSourceFault (next.Last text) P = ⊤
IfSourceFault next.End P = ⊤
IfSourceFault next.Long P = ⊤
IfSourceFault next.SourceFault P = P

-- a fault of the source, or of the output, is told only where its count rose
abbrev pub IsFaultCause : Type 0 → Type 0 → End → Type 0
IsFaultCause source_rose sink_rose Done = ⊤
IsFaultCause source_rose sink_rose (LineFault at fault) = ⊤
IsFaultCause source_rose sink_rose (LongLine at) = ⊤
IsFaultCause source_rose sink_rose (CutAnswer offset) = ⊤
IsFaultCause source_rose sink_rose (NoAnswer offset) = ⊤
IsFaultCause source_rose sink_rose (NoItem offset) = ⊤
IsFaultCause source_rose sink_rose SourceFault = source_rose
IsFaultCause source_rose sink_rose OutputFault = sink_rose
IsFaultCause source_rose sink_rose NoMemory = ⊤
