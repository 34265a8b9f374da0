-- When a run is sound, and what a crash at one of its moments leaves (profile).
use Rattle.std.specs.Prelude.{◌≡◌, ⊤, ◌⊎◌, ℕ, List, [], ◌∷◌, ◌++◌, Result, ◌≤◌, length, ◌≢◌, ◌-◌, ◌<◌, IsTrue, map}
use Rattle.std.specs.Prelude.{take}
use Rattle.std.specs.List.{All, AllPairs}
use Rattle.sdls_base.specs.declared.entry.Entry.{Entry}
use Rattle.replay_window.specs.declared.TheConstants.{MOST_BACK}
use Rattle.unit_state.specs.declared.state.State.{State}
use Rattle.unit_state.specs.Restart.{restarted}
use Rattle.unit_state.specs.History.{after_first, epoch_after}
use Rattle.unit_image.specs.Image.{held, HasOneClosed, IsOpenedForm}
use Rattle.unit_image.specs.Shows.{Shows}
use Rattle.unit_image.specs.OpeningImage.{LeftByOpening}
use Rattle.record_io.specs.declared.code.TheConstants.{NO_MEMORY, SITE_FAULT}
use Rattle.record_io.specs.declared.reader.RecordKind.TheVariants.{Monitor}
use Rattle.record_io.specs.Places.{Place, records_of}
use Rattle.record_io.specs.Answers.{IsAnswer, answer_octets, answers_octets}
use Rattle.fsr_log.specs.Noted.{Noted}
use Rattle.fsr_log.specs.Report.{report_of}
use Rattle.fsr_log.specs.Reply.{Answers}
use Rattle.run_promise.specs.Answers.{monitored_told, plain, told_by, Uses, Accepts, IsUnmade}
use Rattle.run_promise.specs.Deed.{Deed, Differ, InTurn, StandsBehind, tells_entry, is_ordered, epoch_told}
use Rattle.run_promise.specs.Numbers.{mark_of, floor_of, kept_floor}
use Rattle.run_promise.specs.History.{NearWord, IsLegalHistory, HasNoEntry, AcceptsAt}
use Rattle.run_promise.specs.Fits.{Course, Fits}

-- ---- monitoring messages

-- the answer, as the log takes it
abbrev pub noted_of : Deed → Noted
noted_of deed = record { index = deed.task.index; kind = deed.task.kind; answer = deed.answer }

-- out of memory; or the reply, or the offset of the first fault, by what the log reports of the answers before
abbrev pub IsReported : List Noted → Deed → Type 0
IsReported before deed = (told_by deed.answer ≡ plain NO_MEMORY 0)
    ⊎ ((said : Result (List ℕ) ℕ) × Answers (report_of before) deed.task.octets said
    × (told_by deed.answer ≡ monitored_told said))

-- each monitoring message is answered so, behind these answers and those that stand before its own
abbrev pub AreReported : List Noted → List Deed → Type 0
AreReported before [] = ⊤
AreReported before (deed ∷ deeds) = (deed.task.kind ≡ Monitor → IsReported before deed)
    × AreReported (before ++ noted_of deed ∷ []) deeds

-- ---- what an image shows

-- the image has this plan, octet for octet, and so has each of its opened forms
pub record HasPlan (plan image : List ℕ) : Type 0 where
  pub here : (held image).plan ≡ plan
  pub forms : (form : List ℕ) → IsOpenedForm image form → (held form).plan ≡ plan

-- The image shows the state after the first p entries, and each of its opened forms that after these or more. One gate
-- at most is closed.
pub record ShowsAfter (start : State) (entries : List Entry) (p : ℕ) (image : List ℕ) : Type 0 where
  pub within : p ≤ length entries
  pub shows : Shows image (restarted (after_first start entries p))
  pub forms : (form : List ℕ) → IsOpenedForm image form → (q : ℕ) × (p ≤ q) × (q ≤ length entries)
      × Shows form (restarted (after_first start entries q))
  pub settled : HasOneClosed image

-- ---- the run and its moments

-- the octets of the answers
abbrev pub deeds_octets : List Deed → List ℕ
deeds_octets deeds = answers_octets (map (λ deed. deed.answer) deeds)

-- A number that the answer accepts is less than 64 below each that an entry before its own accepted under its key.
abbrev pub IsNearBehind : List Entry → Deed → Type 0
IsNearBehind entries deed = (place key high number : ℕ) → Accepts deed.answer key number
    → place < deed.answer.position - 1 → AcceptsAt entries place key high → high - number < MOST_BACK

-- The run is sound: its history is legal, each answer fits its record, no number is used or accepted twice under a key,
-- one accepted below what an entry before its own accepted under its key is less than 64 below, at most one answer says
-- that the site failed while an entry was stored, the answers stand in order, no entry is of a record whose answer says
-- that it made none, and the fields of each answer have their widths.
pub record IsSound (course : Course) (places : List Place) (deeds : List Deed) : Type 0 where
  pub history : IsLegalHistory course.begin.plan course.begin.start places course.entries
  pub answers : All (λ deed. Fits (NearWord course.begin.start course.entries (records_of places)) course deed.task
      deed.answer) deeds
  pub used_once : AllPairs (Differ Uses) deeds
  pub used_above : All (λ deed. (key number : ℕ) → Uses deed.answer key number
      → mark_of course.begin.start key ≤ number)
      deeds
  pub accepted : AllPairs (Differ Accepts) deeds
  pub accepted_above : All (λ deed. (key number : ℕ) → Accepts deed.answer key number
      → floor_of course.begin.start key < number) deeds
  pub accepted_near : All (IsNearBehind course.entries) deeds
  pub one_fault : AllPairs (λ one other. one.answer.code ≡ SITE_FAULT → other.answer.code ≢ SITE_FAULT) deeds
  pub order : AllPairs (λ one other. InTurn one other → StandsBehind course.begin course.entries one other) deeds
  pub none_made : All (λ deed. IsUnmade deed.answer.code → HasNoEntry course.entries deed.task.index) deeds
  pub widths : All (λ deed. IsAnswer deed.answer) deeds

-- The answer is covered by the state after the first p entries: its own entry, its epoch, its number and what it
-- accepted are among what that state knows.
pub record IsCoveredBy (course : Course) (p : ℕ) (deed : Deed) : Type 0 where
  pub entry : IsTrue (tells_entry deed) → deed.answer.position ≤ p
  pub epoch : IsTrue (is_ordered course.begin deed) → epoch_told course.entries deed
      ≤ epoch_after (take p course.entries)
  pub used : (key number : ℕ) → Uses deed.answer key number
      → number < mark_of (after_first course.begin.start course.entries p) key
  pub accepted : (key number : ℕ) → Accepts deed.answer key number
      → number ≤ kept_floor (after_first course.begin.start course.entries p) key

-- P holds of each answer of which an octet is among the first count octets of the answers
abbrev pub EachBegun : (Deed → Type 0) → ℕ → List Deed → Type 0
EachBegun P count [] = ⊤
EachBegun P count (deed ∷ deeds) = (0 < count → P deed) × EachBegun P (count - length (answer_octets deed.answer)) deeds

-- The image shows the state after the first p entries, which covers each answer that was begun; so does each later
-- state, as an opened form shows one.
pub record ShowsServed (course : Course) (deeds : List Deed) (image : List ℕ) (count : ℕ) : Type 0 where
  pub p : ℕ
  pub shows : ShowsAfter course.begin.start course.entries p image
  pub still_covers : (q : ℕ) → p ≤ q → q ≤ length course.entries → EachBegun (IsCoveredBy course q) count deeds

-- A moment of the run: what was sunk is a front of the octets of the answers and of End. While the book is opened no
-- answer was begun, and the image is one that the opening of that at the start may leave; while it serves, what the
-- image
-- shows covers the answers that were begun.
pub record SoundMoment (course : Course) (deeds : List Deed) (ends : List ℕ) (start image sunk : List ℕ) : Type 0 where
  pub front : sunk ≡ take (length sunk) (deeds_octets deeds ++ ends)
  pub image_shows : (EachBegun (λ deed. ⊥) (length sunk) deeds × LeftByOpening start image)
      ⊎ ShowsServed course deeds image (length sunk)
