-- What a drill over a link is, and how it ends (profile).
use Rattle.std.specs.Prelude.{◌≡◌, ◌⊎◌, ℕ, suc, zero, ◌+◌, ◌*◌, ◌%◌, Bool, false, List, [], ◌∷◌, ◌++◌, map, sum, codes}
use Rattle.std.specs.Prelude.{if◌then◌else◌}
use Rattle.std.specs.List.{list_any}
use Rattle.sdls_outside.specs.Moments.{Trace}
use Rattle.link_world.specs.Chunk.{is_lost, delivery_count}
use Rattle.link_world.specs.Fate.{fate_of}
use Rattle.record_io.specs.declared.answers.Answer.{Answer}
use Rattle.record_io.specs.declared.code.TheConstants as codes_of
use Rattle.record_io.specs.declared.status.TheConstants as statuses
use Rattle.record_io.specs.Outcome.{Ends, line}
use Rattle.record_io.specs.Places.{Place}
use Rattle.unit_drill.specs.declared.chunk.TheConstants.{CHUNK_PLACES}
use Rattle.unit_drill.specs.declared.counts.Counts.{Counts}
use Rattle.unit_drill.specs.declared.records.TheConstants.{CHUNK}
use Rattle.unit_drill.specs.Arriving.{arrived_frames, arrived_tasks, count_lost}
use Rattle.unit_drill.specs.Counting.{count_code, count_given}
use Rattle.unit_drill.specs.Line.{link_text}
use Rattle.unit_drill.specs.Plans.{receiver_plan, sender_plan}
use Rattle.unit_drill.specs.UnitRun.{RunsSoundly, chunks_of, in_segment, of_chunks, sent_places, says_no_memory}

-- ---- what the second unit is handed

-- the numbers of the frames of a chunk that arrive over the link, by the chunk's number and the first unit's answers
abbrev pub frames_arrived : ℕ → List Answer → List ℕ
frames_arrived chunk answers = arrived_frames (CHUNK * chunk) answers

-- their records, in the order of arrival
abbrev pub arrived_places : ℕ → List Answer → List Place
arrived_places chunk answers = map (in_segment chunk)
    (arrived_tasks (CHUNK_PLACES * chunk) (CHUNK * chunk) answers (frames_arrived chunk answers))

-- how many frames of the chunk were protected and lost
abbrev pub lost_count : ℕ → List Answer → List ℕ
lost_count chunk answers = count_lost answers ∷ []

-- ---- the counts

-- of the first frames of a drill, so many, those that the link loses
abbrev pub lost_of : ℕ → ℕ
lost_of zero = 0
lost_of (suc frame) = lost_of frame + (if is_lost (fate_of (frame % CHUNK)) then 1 else 0)

-- how often they arrive
abbrev pub arrived_of : ℕ → ℕ
arrived_of zero = 0
arrived_of (suc frame) = arrived_of frame + delivery_count (fate_of (frame % CHUNK))

-- Each frame is protected, those that the link loses are lost, and each that arrives is accepted or rejected.
pub record AreAllCounted (number : ℕ) (counts : Counts) : Type 0 where
  pub protected : counts.protected ≡ number
  pub lost : counts.lost ≡ lost_of number
  pub told : counts.accepted + counts.rejected ≡ arrived_of number

-- if no answer says that memory ran out, all are counted
abbrev pub IsLinkComplete : ℕ → List Answer → Counts → Type 0
IsLinkComplete number answers counts = list_any says_no_memory answers ≡ false → AreAllCounted number counts

-- These are the counts of a drill of so many frames over a link. The first unit protected the frames, and the second
-- opened those that arrived over the link, in the order of their arrival. Counted are the answers of the first that a
-- frame was protected, and those of these frames that were lost; and of the second, that a frame was accepted with the
-- data field that it was made with, and that it was refused for its number.
pub record IsLinkDrilled (number : ℕ) (counts : Counts) : Type 0 where
  pub sent : List Answer
  pub received : List Answer
  pub sends : RunsSoundly sender_plan (sent_places number) sent
  pub receives : RunsSoundly receiver_plan (of_chunks arrived_places (chunks_of number) sent) received
  pub protected : counts.protected ≡ count_code codes_of.PROTECTED sent
  pub lost : counts.lost ≡ sum (of_chunks lost_count (chunks_of number) sent)
  pub accepted : counts.accepted ≡ count_given (of_chunks frames_arrived (chunks_of number) sent) received
  pub rejected : counts.rejected ≡ count_code codes_of.NUMBER received
  pub complete : IsLinkComplete number (sent ++ received) counts

-- ---- how it ends

-- the line and the status of a drill over a link; that memory ran out needs no cause
abbrev pub LinkDrillDue : ℕ → List ℕ → ℕ → Type 0
LinkDrillDue number text status =
    ((counts : Counts) × IsLinkDrilled number counts × (text ≡ link_text number counts) × (status ≡ statuses.DONE))
    ⊎ ((text ≡ line (codes "no memory")) × (status ≡ statuses.NO_MEMORY))

-- How `drill link N` ends: the text that is due is written once, and nothing else is done to the site.
abbrev pub EndsLinkDrill : ℕ → Bool → Trace → Trace → Type 0 → ℕ → Type 0
EndsLinkDrill number told old new site_rose status = (text : List ℕ) × (due : ℕ) × LinkDrillDue number text due
    × Ends told old new site_rose text due status
