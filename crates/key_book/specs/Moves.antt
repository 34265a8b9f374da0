-- Keys that take a state (CCSDS 355.1-B-1, key activation, deactivation and destruction; order profile).
use Rattle.std.specs.Prelude.{ℕ, Bool, true, false, not, ◌==◌, if◌then◌else◌, min, List, [], ◌∷◌, map, filter, Option}
use Rattle.std.specs.Prelude.{Some, None}
use Rattle.std.specs.List.{list_any}
use Rattle.std.specs.Option.{option_or, option_map_or}
use Rattle.sdls_base.specs.FirstFailing.{fails_if}
use Rattle.sdls_base.specs.declared.states.KeyState.{KeyState}
use Rattle.sdls_base.specs.declared.states.KeyState.TheVariants.{PreActive, Active, Deactivated, Destroyed}
use Rattle.key_book.specs.declared.key_row.KeyRow.{KeyRow}
use Rattle.key_book.specs.declared.refusals.KeyRefusal.{KeyRefusal}
use Rattle.key_book.specs.declared.refusals.KeyRefusal.TheVariants.{WrongState, KeyInUse, UnknownKey}
use Rattle.key_book.specs.KeyRow.{in_state}
use Rattle.key_book.specs.KeyBook.{row_of}

-- whether a state is the one after another: each change takes a key one state on
abbrev pub is_next : KeyState → KeyState → Bool
is_next PreActive Active = true
is_next Active Deactivated = true
is_next Deactivated Destroyed = true
is_next _ _ = false

-- the least of some numbers
abbrev pub least : List ℕ → Option ℕ
least [] = None
least (n ∷ ns) = Some (option_map_or (min n) (least ns) n)

-- the lowest index of the associations that hold a key, of pairs of a key and an association that holds it
abbrev pub lowest_holder : List (ℕ × ℕ) → ℕ → Option ℕ
lowest_holder in_use id = least (map (λ pair. pair.1) (filter (λ pair. pair.0 == id) in_use))

-- a key that an association holds is not deactivated
abbrev pub in_use_refusal : KeyState → Option ℕ → Option KeyRefusal
in_use_refusal Deactivated (Some spi) = Some (KeyInUse spi)
in_use_refusal _ _ = None

-- a key in a state, to take another
abbrev pub state_refusal : KeyState → KeyState → Option ℕ → Option KeyRefusal
state_refusal from to holder = option_or (fails_if (not (is_next from to)) (WrongState from)) (in_use_refusal to holder)

abbrev pub move_refusal : List KeyRow → ℕ → KeyState → List (ℕ × ℕ) → Option KeyRefusal
move_refusal rows id to in_use =
    option_map_or (λ row. state_refusal row.state to (lowest_holder in_use id)) (row_of rows id) (Some (UnknownKey id))

-- the rows when these keys took a state
abbrev pub moved : List KeyRow → List ℕ → KeyState → List KeyRow
moved rows ids to = map (λ row. if list_any (λ id. id == row.id) ids then in_state row to else row) rows

-- keys to take a state, each judged on the rows that the earlier ones leave
abbrev pub moves_refusal : List KeyRow → List ℕ → KeyState → List (ℕ × ℕ) → Option KeyRefusal
moves_refusal rows [] to in_use = None
moves_refusal rows (id ∷ ids) to in_use =
    option_or (move_refusal rows id to in_use) (moves_refusal (moved rows (id ∷ []) to) ids to in_use)
