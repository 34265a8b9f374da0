-- What a drill is, and how it ends (profile).
use Rattle.std.specs.Prelude.{◌≡◌, ◌⊎◌, ℕ, ◌+◌, ◌*◌, ◌==◌, Bool, false, List, [], ◌∷◌, ◌++◌, map, if◌then◌else◌, codes}
use Rattle.std.specs.List.{list_any}
use Rattle.sdls_outside.specs.Moments.{Trace}
use Rattle.record_io.specs.declared.answers.Answer.{Answer}
use Rattle.record_io.specs.declared.code.TheConstants as codes_of
use Rattle.record_io.specs.declared.status.TheConstants as statuses
use Rattle.record_io.specs.Outcome.{Ends, line}
use Rattle.record_io.specs.Places.{Place}
use Rattle.unit_drill.specs.declared.counts.Counts.{Counts}
use Rattle.unit_drill.specs.declared.records.TheConstants.{CHUNK}
use Rattle.unit_drill.specs.Counting.{count_code, count_given}
use Rattle.unit_drill.specs.Frames.{open_tasks, replay_tasks}
use Rattle.unit_drill.specs.Line.{drill_text}
use Rattle.unit_drill.specs.Plans.{receiver_plan, sender_plan}
use Rattle.unit_drill.specs.UnitRun.{RunsSoundly, chunks_of, in_segment, of_chunks, sent_places, says_no_memory}

-- ---- what the second unit is handed

-- Of a chunk, by its number and the first unit's answers: the frames that were protected, and in a segment of its own
-- the first of them again.
abbrev pub opened_places : ℕ → List Answer → List Place
opened_places chunk answers = map (in_segment (2 * chunk)) (open_tasks chunk (CHUNK * chunk) answers)
    ++ map (in_segment (2 * chunk + 1)) (replay_tasks chunk (CHUNK * chunk) answers)

-- the numbers of these frames: those that were protected, of the frames from a number on with these answers
abbrev pub protected_frames : ℕ → List Answer → List ℕ
protected_frames number [] = []
protected_frames number (answer ∷ answers) =
    if answer.code == codes_of.PROTECTED then number ∷ protected_frames (number + 1) answers
    else protected_frames (number + 1) answers

-- the first of them again, if it was protected
abbrev pub replayed_frames : ℕ → List Answer → List ℕ
replayed_frames number [] = []
replayed_frames number (answer ∷ answers) = if answer.code == codes_of.PROTECTED then number ∷ [] else []

abbrev pub opened_frames : ℕ → List Answer → List ℕ
opened_frames chunk answers = protected_frames (CHUNK * chunk) answers ++ replayed_frames (CHUNK * chunk) answers

-- ---- the counts

-- each frame is protected and accepted, and the first of each chunk rejected the second time
abbrev pub all_counts : ℕ → Counts
all_counts number = record { protected = number; lost = 0; accepted = number; rejected = chunks_of number }

-- if no answer says that memory ran out, all are counted
abbrev pub IsComplete : ℕ → List Answer → Counts → Type 0
IsComplete number answers counts = list_any says_no_memory answers ≡ false → counts ≡ all_counts number

-- These are the counts of a drill of so many frames. The first unit protected the frames, and the second opened what
-- the first had protected. Counted are the answers of the first that a frame was protected; and of the second, that it
-- was accepted with the data field that it was made with, and that it was refused for its number.
pub record IsDrilled (number : ℕ) (counts : Counts) : Type 0 where
  pub sent : List Answer
  pub received : List Answer
  pub sends : RunsSoundly sender_plan (sent_places number) sent
  pub receives : RunsSoundly receiver_plan (of_chunks opened_places (chunks_of number) sent) received
  pub protected : counts.protected ≡ count_code codes_of.PROTECTED sent
  pub lost : counts.lost ≡ 0
  pub accepted : counts.accepted ≡ count_given (of_chunks opened_frames (chunks_of number) sent) received
  pub rejected : counts.rejected ≡ count_code codes_of.NUMBER received
  pub complete : IsComplete number (sent ++ received) counts

-- ---- how it ends

-- the line and the status of a drill; that memory ran out needs no cause
abbrev pub DrillDue : ℕ → List ℕ → ℕ → Type 0
DrillDue number text status =
    ((counts : Counts) × IsDrilled number counts × (text ≡ drill_text number counts) × (status ≡ statuses.DONE))
    ⊎ ((text ≡ line (codes "no memory")) × (status ≡ statuses.NO_MEMORY))

-- How `drill N` ends: the text that is due is written once, and nothing else is done to the site.
abbrev pub EndsDrill : ℕ → Bool → Trace → Trace → Type 0 → ℕ → Type 0
EndsDrill number told old new site_rose status = (text : List ℕ) × (due : ℕ) × DrillDue number text due
    × Ends told old new site_rose text due status
