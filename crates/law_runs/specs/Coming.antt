-- How the reading and the serving of a run came to an end (profile).
use Rattle.std.specs.Prelude.{◌≡◌, ◌⊎◌, ⊤, ℕ, ◌+◌, ◌≤◌, IsTrue, List, [], length, map, slice_get, Some}
use Rattle.std.specs.Prelude.{Contains}
use Rattle.std.specs.List.{All}
use Rattle.sdls_outside.specs.Faults.{Rose}
use Rattle.sdls_outside.specs.Moments.{Between}
use Rattle.counter_table.specs.declared.view.View.{View}
use Rattle.record_io.specs.declared.answers.Answer.{Answer}
use Rattle.record_io.specs.Answers.{IsAnswer, answers_octets}
use Rattle.record_io.specs.Input.{Item, IsInput, Whole, MalformedAt}
use Rattle.record_io.specs.Places.{Place, places_of, records_of}
use Rattle.record_io.specs.Reading.{SourceSeen, Standing, IsReading, HasTaken}
use Rattle.run_promise.specs.declared.end.TheConstants.{MOST_ENTRIES}
use Rattle.run_promise.specs.History.{HasNoEntry}
use Rattle.fsr_log.specs.Noted.{Noted}
use Rattle.run_promise.specs.Deed.{is_entered}
use Rattle.run_promise.specs.Sound.{AreReported, noted_of}
use Rattle.run_promise.specs.Fits.{MayAppend}
use Rattle.run_promise.specs.Call.{Begin}
use Rattle.law_workers.specs.Views.{IsBetween, entries_in}
use Rattle.law_workers.specs.Deeds.{course_in}
use Rattle.law_workers.specs.Words.{MovesCounted}
use Rattle.run_promise.specs.declared.end.RunEnd.{RunEnd}
use Rattle.run_promise.specs.declared.end.RunEnd.TheVariants as ends
use Rattle.run_promise.specs.Account.{AreAnswered, answers_of_first, deeds_from}
use Rattle.law_runs.specs.Doing.{HasDone, HasFenced, HasSettled, IsFounded, MovedAlone, octets_put}

-- no put failed, and the answers were put; so many puts had failed before and have now
pub record HasPut (begin : Begin) (now : View) (failed_before failed : ℕ) (answers : List Answer) : Type 0 where
  pub octets : IsTrue begin.told → octets_put now ≡ answers_octets answers
  pub none_failed : failed ≡ failed_before

-- one put failed, and a front of the answers was put
pub record HasBroken (begin : Begin) (now : View) (failed_before failed : ℕ) (answers : List Answer) : Type 0 where
  pub octets : IsTrue begin.told → Between [] (answers_octets answers) (octets_put now)
  pub one_failed : failed ≡ failed_before + 1
  pub rose : Rose now.turn.known.opening.faults now.turn.known.faults

-- the answers to the records of these items, as the log takes them
abbrev pub notes_in : List Item → List Answer → List Noted
notes_in items answers = map noted_of (deeds_from (places_of items) answers)

-- Each record of these items was answered, and the answers were put.
pub record IsServed (begin : Begin) (first now : View) (failed_before failed stored : ℕ) (items : List Item)
    (answers : List Answer) : Type 0 where
  pub done : HasDone begin first now (places_of items) answers
  pub each : length answers ≡ length (places_of items)
  pub put : HasPut begin now failed_before failed answers
  pub settled : IsTrue begin.told → IsFounded begin first → HasSettled begin now stored (places_of items) answers
  pub exactly : MovedAlone begin first now (places_of items) answers
  pub moved : MovesCounted begin first now (records_of (places_of items)) (deeds_from (places_of items) answers)
  pub fenced : IsTrue begin.told → HasFenced now (places_of items) answers
  pub reports : AreReported [] (deeds_from (places_of items) answers)
  pub widths : All IsAnswer answers

-- Between two segments: the items so far end with a segment, the source did not fail, and each record of the items was
-- answered.
pub record IsUnderWay (start source : SourceSeen) (standing : Standing) (begin : Begin) (first now : View)
    (failed_before failed stored : ℕ) : Type 0 where
  pub items : List Item
  pub read : List ℕ
  pub answers : List Answer
  pub reading : IsReading start source standing items read
  pub stood : source.faults ≡ start.faults
  pub served : IsServed begin first now failed_before failed stored items answers

-- why the reading ended
abbrev pub EndsReading : SourceSeen → SourceSeen → List Item → List ℕ → List ℕ → RunEnd → Type 0
EndsReading start source items read part ends.Ended = (part ≡ []) × (IsTrue start.told → IsInput start.left items Whole)
    × (source.faults ≡ start.faults)
EndsReading start source items read part (ends.Malformed offset) =
    (offset ≡ length read) × (IsTrue start.told → IsInput start.left items (MalformedAt offset))
    × (source.faults ≡ start.faults)
EndsReading start source items read part (ends.SourceFault count) = Rose start.faults source.faults
    × (count ≡ source.faults)
EndsReading start source items read part (ends.SiteFault count) = ⊥
EndsReading start source items read part ends.NoMemory = ⊤
EndsReading start source items read part (ends.NoState offset) = ⊥
EndsReading start source items read part ends.SessionFull = ⊤
EndsReading start source items read part ends.PutFailed = ⊤

-- what was put, by what came
abbrev pub PutsBy : Begin → View → ℕ → ℕ → List Answer → RunEnd → Type 0
PutsBy begin now failed_before failed answers ends.Ended = HasPut begin now failed_before failed answers
PutsBy begin now failed_before failed answers (ends.Malformed offset) = HasPut begin now failed_before failed answers
PutsBy begin now failed_before failed answers (ends.SourceFault count) = HasPut begin now failed_before failed answers
PutsBy begin now failed_before failed answers (ends.SiteFault count) = ⊥
PutsBy begin now failed_before failed answers ends.NoMemory = HasPut begin now failed_before failed answers
PutsBy begin now failed_before failed answers (ends.NoState offset) = ⊥
PutsBy begin now failed_before failed answers ends.SessionFull = HasPut begin now failed_before failed answers
PutsBy begin now failed_before failed answers ends.PutFailed = HasBroken begin now failed_before failed answers

-- The history is full, and the first record without an answer, of which no entry was made, needs one, or may need one;
-- it is of the last segment, and the site had not failed.
pub record StopsAtFullHistory (begin : Begin) (first now : View) (places : List Place)
    (answers : List Answer) : Type 0 where
  pub place : Place
  pub first_without : slice_get places (length answers) ≡ Some place
  pub last_segment : All (λ other. other.segment ≤ place.segment) places
  pub full : MOST_ENTRIES ≤ length (entries_in now)
  pub not_failed : length (entries_in now) ≤ MOST_ENTRIES
      → ¬ Rose now.turn.known.opening.faults now.turn.known.faults
  pub due : IsTrue (is_entered place.task.kind) ⊎ MayAppend (IsBetween begin first now) (course_in begin now)
      MOST_ENTRIES
      place.task
  pub unmade : HasNoEntry (entries_in now) place.task.index

-- The reading and the serving came to this end. The records handled are those of a front of the items.
pub record HasCome (start source : SourceSeen) (begin : Begin) (first now : View) (failed_before failed stored : ℕ)
    (came : RunEnd) : Type 0 where
  pub items : List Item
  pub read : List ℕ
  pub part : List ℕ
  pub of : List Item
  pub answers : List Answer
  pub takes : HasTaken start source items read part
  pub reads : EndsReading start source items read part came
  pub answered : (told : RunEnd) (last : ℕ) → AreAnswered (record {
    came = came;
    named = told;
    items = items;
    read = read;
    part = part;
    handled = places_of of;
    answers = answers;
    faults_when_put = last;
  }) came
  pub few : length answers ≤ length (places_of of)
  pub done : HasDone begin first now (places_of of) answers
  pub put : PutsBy begin now failed_before failed answers came
  pub settled : IsTrue begin.told → IsFounded begin first → HasSettled begin now stored (places_of of) answers
  pub exactly : MovedAlone begin first now (places_of of) answers
  pub moved : MovesCounted begin first now (records_of (places_of of)) (deeds_from (places_of of) answers)
  pub reports : AreReported [] (deeds_from (places_of of) answers)
  pub widths : All IsAnswer answers
  pub full : came ≡ ends.SessionFull → StopsAtFullHistory begin first now (places_of of) answers
  pub fenced : IsTrue begin.told → HasFenced now (places_of of) answers
  -- all answers of the segments before that of a record that was handled were put
  pub earlier : IsTrue begin.told → (place : Place) → Contains (places_of of) place
      → length (answers_octets (answers_of_first place.segment (places_of of) answers)) ≤ length (octets_put now)
