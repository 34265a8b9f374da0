-- A link between two units (profile): it loses, repeats and reorders released frames, and delivers no others.
use Rattle.std.specs.Prelude.{◌≡◌, ℕ, ◌<◌, nat_lt, length, ◌==◌, ◌&&◌, if◌then◌else◌, Bool, false, List, [], ◌∷◌, ◌++◌}
use Rattle.std.specs.List.{list_any, slice_index_or}
use Rattle.link_world.specs.declared.link.LinkEvent.{LinkEvent}
use Rattle.link_world.specs.declared.link.LinkEvent.TheVariants.{Release, Deliver}

-- the event releases the frame with this number
abbrev pub releases_frame : ℕ → LinkEvent → Bool
releases_frame frame (Release other) = other == frame
releases_frame frame (Deliver other) = false

-- What arrives at an event that comes after those before: a frame that is delivered, if it is one of so many and was
-- released before.
abbrev pub arrival : ℕ → List LinkEvent → LinkEvent → List ℕ
arrival count before (Release frame) = []
arrival count before (Deliver frame) =
    if nat_lt frame count && list_any (releases_frame frame) before then frame ∷ [] else []

-- what arrives at these events, which come after those before
abbrev pub arrivals_behind : ℕ → List LinkEvent → List LinkEvent → List ℕ
arrivals_behind count before [] = []
arrivals_behind count before (event ∷ events) =
    arrival count before event ++ arrivals_behind count (before ++ event ∷ []) events

-- the numbers of the frames that arrive, of so many, in the order of deliveries
abbrev pub arrivals : ℕ → List LinkEvent → List ℕ
arrivals count events = arrivals_behind count [] events

-- of each frame the list says whether one of these events released it
abbrev pub AreMarked : List LinkEvent → List Bool → Type 0
AreMarked before released = (frame : ℕ) → frame < length released
    → slice_index_or released frame false ≡ list_any (releases_frame frame) before
