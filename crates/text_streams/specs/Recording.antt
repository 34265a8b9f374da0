-- A run of a recording, which is written behind its length (profile).
use Rattle.std.specs.Prelude.{◌≡◌, ◌≢◌, ℕ, ◌<◌, ◌≤◌, ◌^◌, Bool, IsTrue, List, [], ◌++◌, length}
use Rattle.sdls_outside.specs.Moments.{Trace}
use Rattle.sdls_outside.specs.Output.{Sinks}
use Rattle.pair_audit.specs.Recording.{run_octets}
use Rattle.text_streams.specs.declared.recording.RunFault.{RunFault}
use Rattle.text_streams.specs.declared.recording.RunFault.TheVariants.{TooLong, Changed, SourceFault, OutputFault}

-- the octets of the source, so many, were written behind their length
pub record IsWritten (source_told sink_told : Bool) (len : ℕ) (left : List ℕ) (old new : Trace) : Type 0 where
  pub octets : List ℕ
  pub are : IsTrue source_told → left ≡ octets
  pub size : length octets ≡ len
  pub short : len < 2 ^ 32
  pub sinks : IsTrue sink_told → Sinks (run_octets octets) old new

-- why a run of so many octets was not written
abbrev pub FaultCause : Bool → ℕ → List ℕ → Type 0 → Type 0 → RunFault → Type 0
FaultCause told len left source_rose sink_rose TooLong = 2 ^ 32 ≤ len
FaultCause told len left source_rose sink_rose Changed = IsTrue told → length left ≢ len
FaultCause told len left source_rose sink_rose SourceFault = source_rose
FaultCause told len left source_rose sink_rose OutputFault = sink_rose

-- ---- its parts

-- these octets went from the front of the source to the sink
pub record Copied (source_told sink_told : Bool) (octets left_old left_new : List ℕ) (old new : Trace) : Type 0 where
  pub moved : IsTrue source_told → left_old ≡ octets ++ left_new
  pub sinks : IsTrue sink_told → Sinks octets old new

-- why so many octets were not copied
abbrev pub StopsCopy : Bool → ℕ → List ℕ → Type 0 → Type 0 → RunFault → Type 0
StopsCopy told len left source_rose sink_rose TooLong = ⊥
StopsCopy told len left source_rose sink_rose Changed = IsTrue told → length left < len
StopsCopy told len left source_rose sink_rose SourceFault = source_rose
StopsCopy told len left source_rose sink_rose OutputFault = sink_rose

-- why it is not known that nothing is left
abbrev pub MissesEnd : Bool → List ℕ → Type 0 → RunFault → Type 0
MissesEnd told left source_rose TooLong = ⊥
MissesEnd told left source_rose Changed = IsTrue told → left ≢ []
MissesEnd told left source_rose SourceFault = source_rose
MissesEnd told left source_rose OutputFault = ⊥
