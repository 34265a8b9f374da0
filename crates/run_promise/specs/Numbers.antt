-- The entries that move marks and floors: reserves and releases (profile).
use Rattle.std.specs.Prelude.{ℕ, ◌+◌, min, Bool, ◌&&◌, ◌==◌, if◌then◌else◌, List, [], ◌∷◌, slice_get, Option, Some}
use Rattle.std.specs.Prelude.{None, map, slice_index_or}
use Rattle.std.specs.Option.{option_map_or, option_and_then}
use Rattle.sdls_base.specs.KeyId.{end_of}
use Rattle.sdls_base.specs.declared.entry.Change.TheVariants.{Marks}
use Rattle.sdls_base.specs.declared.entry.Entry.{Entry}
use Rattle.sdls_base.specs.declared.entry.Seen.TheVariants.{Number, Word}
use Rattle.unit_plan.specs.PlanLines.{PlanLines}
use Rattle.key_book.specs.declared.key_row.KeyRow.{KeyRow}
use Rattle.sa_book.specs.SaRefusal.{receiver_with}
use Rattle.unit_state.specs.declared.state.State.{State}
use Rattle.unit_state.specs.State.{key_row}
use Rattle.unit_state.specs.Applied.{applied}

-- the mark of a key, 1 where the state lacks it; its floor, and 0 there
abbrev pub mark_of : State → ℕ → ℕ
mark_of state key = option_map_or (λ row. row.mark) (key_row state key) 1

abbrev pub floor_of : State → ℕ → ℕ
floor_of state key = option_map_or (λ row. row.floor) (key_row state key) 0

-- the marks of the keys, in loading order
abbrev pub marks_of : State → List ℕ
marks_of state = map (λ row. row.mark) state.keys

-- the mark of the key at a place; 1 where there is none
abbrev pub mark_at : State → ℕ → ℕ
mark_at state place = slice_index_or (marks_of state) place 1

-- The reserve of a number that was drawn: the mark becomes the lesser of number plus block and the key's end.
abbrev pub reserve_of : PlanLines → State → ℕ → ℕ → Entry
reserve_of plan state key number = record {
  index = None;
  seen = Number number;
  change = Marks key (min (number + plan.block) (end_of key)) (floor_of state key);
}

-- the floor that a release leaves: the highest number of the association that receives with the key, if one does
abbrev pub released_floor : State → KeyRow → ℕ
released_floor state held = option_map_or (λ row. row.window.high) (receiver_with state.associations held.id) held.floor

-- a key's release leaves its mark and its floor
abbrev pub is_released : State → KeyRow → ℕ → Bool
is_released state held word = (min held.mark word == held.mark) && (released_floor state held == held.floor)

-- The release of a key whose word `next` stands so: the mark becomes the lesser of both. None where nothing would move.
abbrev pub release_of : State → ℕ → KeyRow → Option Entry
release_of state word held = if is_released state held word then None else Some (record {
  index = None;
  seen = Word word;
  change = Marks held.id (min held.mark word) (released_floor state held);
})

-- the release of the key at this place, in loading order
abbrev pub release_at : State → ℕ → ℕ → Option Entry
release_at state place word = option_and_then (release_of state word) (slice_get state.keys place)

-- the releases of the keys from a place on, in loading order, each in the state that those before it leave
abbrev pub releases : State → ℕ → List ℕ → List Entry
releases state place [] = []
releases state place (word ∷ words) =
    option_map_or (λ entry. entry ∷ releases (applied state entry.change) (place + 1) words)
    (release_at state place word)
    (releases state (place + 1) words)

-- the floor that a release of the key leaves; 0 where the state lacks the key
abbrev pub kept_floor : State → ℕ → ℕ
kept_floor state key = option_map_or (released_floor state) (key_row state key) 0
