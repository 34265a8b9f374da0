-- The frames of a drill that arrive over a link, chunk by chunk, and the records of the unit that opens them (profile).
use Rattle.std.specs.Prelude.{ℕ, ◌+◌, ◌-◌, ◌*◌, ◌%◌, ◌==◌, ◌&&◌, List, [], ◌∷◌, ◌++◌, length, map, if◌then◌else◌}
use Rattle.std.specs.Prelude.{Option, None, Some, slice_get}
use Rattle.std.specs.List.{count_by, range_with_len, zip}
use Rattle.link_world.specs.declared.link.LinkEvent.{LinkEvent}
use Rattle.link_world.specs.declared.link.LinkEvent.TheVariants.{Release, Deliver}
use Rattle.link_world.specs.Link.{arrivals}
use Rattle.link_world.specs.Fate.{fate_of}
use Rattle.link_world.specs.Chunk.{deliveries, is_lost}
use Rattle.record_io.specs.declared.answers.Answer.{Answer}
use Rattle.record_io.specs.declared.code.TheConstants.{PROTECTED}
use Rattle.record_io.specs.declared.item_cursor.Record.{Record}
use Rattle.unit_drill.specs.declared.records.TheConstants.{DRILL_LANES}
use Rattle.unit_drill.specs.Frames.{open_task}

-- ---- the link

-- the frames of a chunk that were protected are released, from this number in the chunk on
abbrev pub releases : ℕ → List Answer → List LinkEvent
releases k [] = []
releases k (answer ∷ answers) =
    if answer.code == PROTECTED then Release k ∷ releases (k + 1) answers else releases (k + 1) answers

-- what happens on the link with a chunk that was answered so
abbrev pub chunk_events : List Answer → List LinkEvent
chunk_events sent = releases 0 sent ++ map Deliver (deliveries (length sent))

-- the numbers of the frames that arrive, of a chunk from this frame on
abbrev pub arrived_frames : ℕ → List Answer → List ℕ
arrived_frames first sent = map (λ (k : ℕ). first + k) (arrivals (length sent) (chunk_events sent))

-- ---- the records

abbrev pub octets_in : Option Answer → List ℕ
octets_in None = []
octets_in (Some answer) = answer.body

-- A frame that arrived, to be opened. Each place has an index for each lane, and the record takes that of its lane.
abbrev pub arrived_task : ℕ → ℕ → List ℕ → Record
arrived_task place number octets = open_task (DRILL_LANES * place + number % DRILL_LANES) number octets

-- these frames, from this place on, of a chunk that was answered so
abbrev pub arrived_tasks : ℕ → ℕ → List Answer → List ℕ → List Record
arrived_tasks place first sent [] = []
arrived_tasks place first sent (number ∷ numbers) =
    arrived_task place number (octets_in (slice_get sent (number - first)))
    ∷ arrived_tasks (place + 1) first sent numbers

-- ---- the counts

-- the frames of a chunk that were protected and lost
abbrev pub count_lost : List Answer → ℕ
count_lost sent =
    count_by (λ (p : ℕ × Answer). (p.1.code == PROTECTED) && is_lost (fate_of p.0))
    (zip (range_with_len 0 (length sent)) sent)
