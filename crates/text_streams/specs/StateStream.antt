-- The objects that are put for the lines of a source (profile).
use Rattle.std.specs.Prelude.{◌≡◌, ⊤, ℕ, ◌+◌, ◌⊎◌, ◌++◌, [], codes, List, length}
use Rattle.std.specs.List.{AllByRecursion, flat_map}
use Rattle.sdls_outside.specs.Moments.{Between}
use Rattle.record_io.specs.declared.status.TheConstants as statuses
use Rattle.text_streams.specs.TextLine.{BeginsLong, MOST_LINES}
use Rattle.text_streams.specs.declared.ends.StateEnd.{StateEnd}
use Rattle.text_streams.specs.declared.ends.StateEnd.TheVariants.{Done, NoLine, LongLine, SourceFault}
use Rattle.text_streams.specs.declared.ends.StateEnd.TheVariants.{OutputFault}
use Rattle.text_streams.specs.declared.ends.StateEnd.TheVariants.{NoMemory}
use Rattle.text_streams.specs.declared.state_line.StateLine.{StateLine}
use Rattle.text_streams.specs.StateText.{IsStateLine, state_text}
use Rattle.text_streams.specs.StateObject.{object_text}

-- the exit status by the end
abbrev pub state_status : StateEnd → ℕ
state_status Done = statuses.DONE
state_status (NoLine line) = statuses.REFUSED
state_status (LongLine line) = statuses.REFUSED
state_status SourceFault = statuses.SOURCE_FAULT
state_status OutputFault = statuses.SITE_FAULT
state_status NoMemory = statuses.NO_MEMORY

-- what is left does not begin with a line of `stat`
abbrev pub BeginsOther : List ℕ → Type 0
BeginsOther left = (line : StateLine) (rest : List ℕ) → IsStateLine line → left ≡ state_text line ++ rest → ⊥

-- what is left begins with this line
pub record BeginsWith (line : StateLine) (left left_new : List ℕ) : Type 0 where
  pub bounds : IsStateLine line
  pub taken : left ≡ state_text line ++ left_new

-- the text is a line of `stat` without its line feed, and its object was put
abbrev pub PutsText : List ℕ → List ℕ → List ℕ → Type 0
PutsText text old new = (line : StateLine) × IsStateLine line × (text ++ codes "\n" ≡ state_text line)
    × (new ≡ old ++ object_text line)

-- no line of `stat` has this text
abbrev pub HasNoLine : List ℕ → Type 0
HasNoLine text = (line : StateLine) → IsStateLine line → text ++ codes "\n" ≡ state_text line → ⊥

-- why no object was put, or only a front of it
abbrev pub FailsText : ℕ → List ℕ → List ℕ → List ℕ → StateEnd → Type 0
FailsText number text old new Done = ⊥
FailsText number text old new (NoLine at) = (at ≡ number) × HasNoLine text × (new ≡ old)
FailsText number text old new (LongLine at) = ⊥
FailsText number text old new SourceFault = ⊥
FailsText number text old new OutputFault = (line : StateLine) × IsStateLine line
    × (text ++ codes "\n" ≡ state_text line) × Between old (old ++ object_text line) new
FailsText number text old new NoMemory = new ≡ old

-- the next line was taken, and its object put
abbrev pub PutsObject : List ℕ → List ℕ → List ℕ → List ℕ → Type 0
PutsObject left left_new old new = (line : StateLine) × BeginsWith line left left_new × (new ≡ old ++ object_text line)

-- Why no object follows, where the next line has this number: nothing is left; or that is no line of `stat`, or too
-- long. Or a front of its object was put.
abbrev pub FailsNextLine : ℕ → List ℕ → List ℕ → List ℕ → StateEnd → Type 0
FailsNextLine number left old new Done = (left ≡ []) × (new ≡ old)
FailsNextLine number left old new (NoLine at) = (at ≡ number) × BeginsOther left × (new ≡ old)
FailsNextLine number left old new (LongLine at) = (at ≡ number) × BeginsLong left × (new ≡ old)
FailsNextLine number left old new SourceFault = new ≡ old
FailsNextLine number left old new OutputFault = (line : StateLine) × (left_new : List ℕ) × BeginsWith line left left_new
    × Between old (old ++ object_text line) new
FailsNextLine number left old new NoMemory = new ≡ old

-- why no object follows behind so many lines
abbrev pub EndsBehindLines : ℕ → List ℕ → StateEnd → Type 0
EndsBehindLines count left Done = (left ≡ []) ⊎ (count ≡ MOST_LINES)
EndsBehindLines count left (NoLine at) = (at ≡ count + 1) × BeginsOther left
EndsBehindLines count left (LongLine at) = (at ≡ count + 1) × BeginsLong left
EndsBehindLines count left SourceFault = ⊤
EndsBehindLines count left OutputFault = ⊤
EndsBehindLines count left NoMemory = ⊤

-- these objects were put, or where the output failed a front of them
abbrev pub WerePut : StateEnd → List ℕ → List ℕ → List ℕ → Type 0
WerePut Done objects old new = new ≡ old ++ objects
WerePut (NoLine at) objects old new = new ≡ old ++ objects
WerePut (LongLine at) objects old new = new ≡ old ++ objects
WerePut SourceFault objects old new = new ≡ old ++ objects
WerePut OutputFault objects old new = Between old (old ++ objects) new
WerePut NoMemory objects old new = new ≡ old ++ objects

-- What was put are the objects of the lines that were taken, in their order. They go up to the end of the text, or to
-- the first line that `stat` does not print, which is told by its number; nothing is put of it or of a later one.
pub record PutsObjects (left old new : List ℕ) (end : StateEnd) : Type 0 where
  pub lines : List StateLine
  pub bounds : AllByRecursion IsStateLine lines
  pub left_new : List ℕ
  pub taken : left ≡ flat_map state_text lines ++ left_new
  pub ends : EndsBehindLines (length lines) left_new end
  pub put_is : WerePut end (flat_map object_text lines) old new

-- a fault of the source, or of the output, is told only where its count rose
abbrev pub IsStateCause : Type 0 → Type 0 → StateEnd → Type 0
IsStateCause source_rose sink_rose Done = ⊤
IsStateCause source_rose sink_rose (NoLine at) = ⊤
IsStateCause source_rose sink_rose (LongLine at) = ⊤
IsStateCause source_rose sink_rose SourceFault = source_rose
IsStateCause source_rose sink_rose OutputFault = sink_rose
IsStateCause source_rose sink_rose NoMemory = ⊤
