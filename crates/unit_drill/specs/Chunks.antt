-- What the one worker of each unit of a drill did, by its views: for proofs alone (profile).
use Rattle.std.specs.Prelude.{◌≡◌, ℕ, zero, suc, ◌+◌, ◌-◌, ◌*◌, ◌≤◌, min, Bool, true, false, List, [], ◌++◌, Ok}
use Rattle.std.specs.List.{All, list_any}
use Rattle.sdls_base.specs.declared.TheConstants.{MOST_KEYS}
use Rattle.unit_image.specs.Beginning.{SaysPlan, image_of_plan}
use Rattle.unit_image.specs.Image.{held}
use Rattle.record_io.specs.declared.answers.Answer.{Answer}
use Rattle.record_io.specs.Answers.{IsAnswer}
use Rattle.record_io.specs.declared.item_cursor.Record.{Record}
use Rattle.record_io.specs.declared.code.TheConstants as codes_of
use Rattle.unit_plan.specs.Plan.{plan_of}
use Rattle.unit_plan.specs.PlanLines.{PlanLines}
use Rattle.unit_state.specs.declared.state.State.{State}
use Rattle.unit_image.specs.Shows.{Shows}
use Rattle.counter_table.specs.declared.counters.Counters.{Counters}
use Rattle.counter_table.specs.declared.counters.Worker.{Worker}
use Rattle.counter_table.specs.declared.view.View.{View}
use Rattle.counter_table.specs.Numbers.{ALL_SHARES}
use Rattle.counter_table.specs.Whole.{IsWhole}
use Rattle.counter_table.specs.Worker.{view}
use Rattle.shared_unit.specs.Turn.{IsReady}
use Rattle.run_promise.specs.Call.{Begin}
use Rattle.law_workers.specs.Deeds.{deeds_of}
use Rattle.law_workers.specs.Order.{Layout, LiesIn, Handled}
use Rattle.law_workers.specs.Opened as runs
use Rattle.law_workers.specs.Began.{BeganWith}
use Rattle.law_workers.specs.Ends.{EndsSegment}
use Rattle.unit_drill.specs.declared.chunk.Pair.{Pair}
use Rattle.unit_drill.specs.declared.counts.Counts.{Counts}
use Rattle.unit_drill.specs.declared.records.TheConstants.{CHUNK}
use Rattle.unit_drill.specs.Counting.{count_accepted, count_code, count_fields, no_counts, sum_of}
use Rattle.unit_drill.specs.Frames.{protect_tasks, open_tasks, replay_tasks}
use Rattle.unit_drill.specs.Plans.{receiver_plan, sender_plan}
use Rattle.unit_drill.specs.UnitRun.{chunks_of, says_fault}

-- ---- the units

-- the one worker of a unit, with all shares, may make calls on it
pub record MayServe {B : Type 0} (counters : Counters B) (plan : PlanLines) (worker : Worker B) : Type 0 where
  pub ready : IsReady counters plan worker
  pub shares : (view worker).numbers.shares ≡ ALL_SHARES

-- A unit was opened on the image that this plan begins with; its one worker, with all shares, has this view and did
-- nothing yet: it spent no number, and each word `next` is its key's mark.
pub record UnitIsOpened (plan : List ℕ) (begin : Begin) (v : View) : Type 0 where
  pub lines : PlanLines
  pub first : State
  pub said : SaysPlan plan lines first
  pub began : BeganWith true begin v.turn.known.opening
  pub image : v.turn.known.opening.image ≡ image_of_plan plan lines first
  pub says : plan_of (held (image_of_plan plan lines first)).plan ≡ Ok begin.plan
  pub shows : Shows (image_of_plan plan lines first) begin.start
  pub whole : IsWhole MOST_KEYS v
  pub unspent : v.numbers.spent ≡ []
  pub opened : runs.IsJustOpened begin v

-- From the one view to the other the unit handled these records as a segment, with these answers: all of them are
-- answered, or those before one for which its history was full. No answer names a fault of its site, and the worker
-- still did all.
pub record HandlesSegment (begin : Begin) (v w : View) (tasks : List Record) (answers : List Answer) : Type 0 where
  pub handled : (layout : Layout) (number : ℕ) → LiesIn layout number tasks
      → Handled layout begin v w tasks (deeds_of number tasks answers)
  pub full : Bool
  pub ends : EndsSegment begin v w tasks answers full
  pub quiet : list_any says_fault answers ≡ false
  pub widths : All IsAnswer answers
  pub whole : IsWhole MOST_KEYS w

-- ---- both units

-- calls may be made on both
pub record MayServeBoth (pair : Pair) : Type 0 where
  pub sends : MayServe pair.sender.unit.counters pair.sender.unit.plan pair.sender.worker
  pub receives : MayServe pair.receiver.unit.counters pair.receiver.unit.plan pair.receiver.worker

-- each was opened on the image of its plan
pub record AreOpened (pair : Pair) : Type 0 where
  pub one : Begin
  pub other : Begin
  pub sends : UnitIsOpened sender_plan one (view pair.sender.worker)
  pub receives : UnitIsOpened receiver_plan other (view pair.receiver.worker)

-- From the one time to the other both units went on from what they began with, and R holds of it and of their views:
-- those of the first unit before and after, and those of the second.
abbrev pub GoOn : (Begin → Begin → View → View → View → View → Type 0) → Pair → Pair → Type 0
GoOn R old new = (one other : Begin)
    → BeganWith true one (view old.sender.worker).turn.known.opening
    → BeganWith true other (view old.receiver.worker).turn.known.opening
    → BeganWith true one (view new.sender.worker).turn.known.opening
    × BeganWith true other (view new.receiver.worker).turn.known.opening
    × R one other (view old.sender.worker) (view new.sender.worker) (view old.receiver.worker)
    (view new.receiver.worker)

-- the counts of one chunk
pub record AreFew (counts : Counts) : Type 0 where
  pub protected : counts.protected ≤ 1024
  pub lost : counts.lost ≤ 1024
  pub accepted : counts.accepted ≤ 1024
  pub rejected : counts.rejected ≤ 1024

-- ---- chunks

-- A chunk, by its number: the first unit protected its frames, the second opened those that were protected, and then
-- the first of them again. The counts are those of their answers.
pub record IsChunk (sender receiver : Begin) (chunk end : ℕ) (s t v w : View) (counts : Counts) : Type 0 where
  pub sent : List Answer
  pub opened : List Answer
  pub again : List Answer
  pub mid : View
  pub protects : HandlesSegment sender s t (protect_tasks (CHUNK * chunk) (end - CHUNK * chunk)) sent
  pub opens : HandlesSegment receiver v mid (open_tasks chunk (CHUNK * chunk) sent) opened
  pub replays : HandlesSegment receiver mid w (replay_tasks chunk (CHUNK * chunk) sent) again
  pub protected : counts.protected ≡ count_code codes_of.PROTECTED sent
  pub lost : counts.lost ≡ 0
  pub accepted : counts.accepted ≡ count_accepted chunk (open_tasks chunk (CHUNK * chunk) sent) opened
      + count_fields (CHUNK * chunk) again
  pub rejected : counts.rejected ≡ count_code codes_of.NUMBER opened + count_code codes_of.NUMBER again

-- the first chunks of a drill of so many frames, one after the other, with all answers
abbrev pub AreChunks : Begin → Begin → ℕ → View → View → ℕ → View → View → List Answer → Counts → Type 0
AreChunks sender receiver number s v zero t w answers counts = (t ≡ s) × (w ≡ v) × (answers ≡ []) × (counts ≡ no_counts)
AreChunks sender receiver number s v (suc chunks) t w answers counts =
    (t0 : View) × (w0 : View) × (earlier : List Answer) × (before : Counts) × (more : Counts)
    × AreChunks sender receiver number s v chunks t0 w0 earlier before
    × (chunk : IsChunk sender receiver chunks (min number (CHUNK * (chunks + 1))) t0 t w0 w more)
    × (answers ≡ earlier ++ (chunk.sent ++ (chunk.opened ++ chunk.again))) × (counts ≡ sum_of before more)

-- the counts of a drill: two units were opened, and handled its frames to the last chunk, with these answers
pub record HandlesDrill (number : ℕ) (answers : List Answer) (counts : Counts) : Type 0 where
  pub sender : Begin
  pub receiver : Begin
  pub s : View
  pub t : View
  pub v : View
  pub w : View
  pub sends : UnitIsOpened sender_plan sender s
  pub receives : UnitIsOpened receiver_plan receiver v
  pub chunks : AreChunks sender receiver number s v (chunks_of number) t w answers counts
