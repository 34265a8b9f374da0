-- What one unit of a drill did, judged as a run is (profile).
use Rattle.std.specs.Prelude.{◌≡◌, ℕ, suc, zero, ◌+◌, ◌-◌, ◌*◌, ◌/◌, ◌==◌, ◌||◌, Bool, false, List, [], ◌++◌, length}
use Rattle.std.specs.Prelude.{map, take, drop, Ok}
use Rattle.std.specs.List.{list_any, range_with_len}
use Rattle.unit_image.specs.Beginning.{SaysPlan, image_of_plan}
use Rattle.record_io.specs.declared.answers.Answer.{Answer}
use Rattle.record_io.specs.declared.code.TheConstants as codes_of
use Rattle.record_io.specs.declared.item_cursor.Record.{Record}
use Rattle.record_io.specs.Places.{Place}
use Rattle.run_promise.specs.Account.{deeds_from}
use Rattle.run_promise.specs.Fits.{Course}
use Rattle.run_promise.specs.Sound.{IsSound}
use Rattle.unit_image.specs.Image.{held}
use Rattle.unit_image.specs.Shows.{Shows}
use Rattle.unit_plan.specs.Plan.{plan_of}
use Rattle.unit_plan.specs.PlanLines.{PlanLines}
use Rattle.unit_state.specs.declared.state.State.{State}
use Rattle.unit_drill.specs.declared.records.TheConstants.{CHUNK}
use Rattle.unit_drill.specs.Frames.{protect_task}

-- the answer says that the site of its unit has failed, or that memory ran out
abbrev pub says_fault : Answer → Bool
says_fault answer = (answer.code == codes_of.SITE_FAULT) || (answer.code == codes_of.STOPPED)

abbrev pub says_no_memory : Answer → Bool
says_no_memory answer = answer.code == codes_of.NO_MEMORY

-- The unit was opened on the image that `init` makes of this plan, and ran with the records of these places. Each has
-- its answer, none of these says that the unit's own site has failed, and the run is sound.
pub record RunsSoundly (plan : List ℕ) (places : List Place) (answers : List Answer) : Type 0 where
  pub lines : PlanLines
  pub first : State
  pub said : SaysPlan plan lines first
  pub course : Course
  pub says : plan_of (held (image_of_plan plan lines first)).plan ≡ Ok course.begin.plan
  pub shows : Shows (image_of_plan plan lines first) course.begin.start
  pub answered : length answers ≡ length places
  pub quiet : list_any says_fault answers ≡ false
  pub sound : IsSound course places (deeds_from places answers)

-- ---- chunks

-- how many chunks so many frames have; the last one may be shorter
abbrev pub chunks_of : ℕ → ℕ
chunks_of number = (number + (CHUNK - 1)) / CHUNK

-- the answers to the frames of a chunk
abbrev pub answers_in : ℕ → List Answer → List Answer
answers_in chunk sent = take CHUNK (drop (CHUNK * chunk) sent)

-- what is made of the first chunks, one after the other: of each by its number and its answers
abbrev pub of_chunks : {A : Type 0} → (ℕ → List Answer → List A) → ℕ → List Answer → List A
of_chunks each zero sent = []
of_chunks each (suc chunks) sent = of_chunks each chunks sent ++ each chunks (answers_in chunks sent)

-- ---- the records of the first unit

-- a record of this segment
abbrev pub in_segment : ℕ → Record → Place
in_segment segment task = record { task = task; segment = segment }

-- the frame is to be protected, in the segment of its chunk
abbrev pub sent_place : ℕ → Place
sent_place number = in_segment (number / CHUNK) (protect_task number)

abbrev pub sent_places : ℕ → List Place
sent_places number = map sent_place (range_with_len 0 number)
