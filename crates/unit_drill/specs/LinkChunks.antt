-- What the one worker of each unit of a drill over a link did, by its views: for proofs alone (profile).
use Rattle.std.specs.Prelude.{◌≡◌, ℕ, zero, suc, ◌+◌, ◌-◌, ◌*◌, min, List, [], ◌++◌}
use Rattle.record_io.specs.declared.answers.Answer.{Answer}
use Rattle.record_io.specs.declared.code.TheConstants as codes_of
use Rattle.counter_table.specs.declared.view.View.{View}
use Rattle.run_promise.specs.Call.{Begin}
use Rattle.unit_drill.specs.declared.chunk.TheConstants.{CHUNK_PLACES}
use Rattle.unit_drill.specs.declared.counts.Counts.{Counts}
use Rattle.unit_drill.specs.declared.records.TheConstants.{CHUNK}
use Rattle.unit_drill.specs.Arriving.{arrived_frames, arrived_tasks, count_lost}
use Rattle.unit_drill.specs.Counting.{count_code, count_given, no_counts, sum_of}
use Rattle.unit_drill.specs.Frames.{protect_tasks}
use Rattle.unit_drill.specs.Chunks.{HandlesSegment, UnitIsOpened}
use Rattle.unit_drill.specs.Plans.{receiver_plan, sender_plan}
use Rattle.unit_drill.specs.UnitRun.{chunks_of}

-- ---- chunks

-- A chunk, by its number: the first unit protected its frames, and the second opened those that arrived over the link,
-- in the order of their arrival. The counts are those of their answers.
pub record IsLinkChunk (sender receiver : Begin) (chunk end : ℕ) (s t v w : View) (counts : Counts) : Type 0 where
  pub sent : List Answer
  pub opened : List Answer
  pub protects : HandlesSegment sender s t (protect_tasks (CHUNK * chunk) (end - CHUNK * chunk)) sent
  pub opens : HandlesSegment receiver v w
      (arrived_tasks (CHUNK_PLACES * chunk) (CHUNK * chunk) sent (arrived_frames (CHUNK * chunk) sent)) opened
  pub protected : counts.protected ≡ count_code codes_of.PROTECTED sent
  pub lost : counts.lost ≡ count_lost sent
  pub accepted : counts.accepted ≡ count_given (arrived_frames (CHUNK * chunk) sent) opened
  pub rejected : counts.rejected ≡ count_code codes_of.NUMBER opened

-- the first chunks of a drill of so many frames, one after the other, with all answers
abbrev pub AreLinkChunks : Begin → Begin → ℕ → View → View → ℕ → View → View → List Answer → Counts → Type 0
AreLinkChunks sender receiver number s v zero t w answers counts =
    (t ≡ s) × (w ≡ v) × (answers ≡ []) × (counts ≡ no_counts)
AreLinkChunks sender receiver number s v (suc chunks) t w answers counts =
    (t0 : View) × (w0 : View) × (earlier : List Answer) × (before : Counts) × (more : Counts)
    × AreLinkChunks sender receiver number s v chunks t0 w0 earlier before
    × (chunk : IsLinkChunk sender receiver chunks (min number (CHUNK * (chunks + 1))) t0 t w0 w more)
    × (answers ≡ earlier ++ (chunk.sent ++ chunk.opened)) × (counts ≡ sum_of before more)

-- the counts of a drill over a link: two units were opened, and handled its frames to the last chunk, with these
-- answers
pub record HandlesLinkDrill (number : ℕ) (answers : List Answer) (counts : Counts) : Type 0 where
  pub sender : Begin
  pub receiver : Begin
  pub s : View
  pub t : View
  pub v : View
  pub w : View
  pub sends : UnitIsOpened sender_plan sender s
  pub receives : UnitIsOpened receiver_plan receiver v
  pub chunks : AreLinkChunks sender receiver number s v (chunks_of number) t w answers counts
