-- A number that is reserved under the turn, and spent (profile).
use Rattle.std.specs.Prelude.{◌≡◌, ◌⊎◌, ℕ, ◌<◌, ◌≤◌, Bool, List, Result, Ok, Err}
use Rattle.counter_table.specs.declared.view.View.{View}
use Rattle.counter_table.specs.Turn.{learning}
use Rattle.unit_book.specs.declared.fault.BookFault.{BookFault}
use Rattle.unit_book.specs.Book.{BookView, Made, Refuses}
use Rattle.run_promise.specs.Numbers.{mark_of, reserve_of, marks_of}
use Rattle.shared_unit.specs.declared.permit.Permit.{Permit}
use Rattle.shared_unit.specs.declared.permit.Done.{Done}
use Rattle.shared_unit.specs.Told.{known_of_book, entry_count}
use Rattle.shared_unit.specs.Turn.{Visits}
use Rattle.shared_unit.specs.Numbers.{Lifts}
use Rattle.shared_unit.specs.Permit.{IsProtectedUnder}

-- A number is reserved, or refused: the mark was above it already, or an entry raises it.
abbrev pub Reserves : ℕ → ℕ → Result ℕ BookFault → BookView → BookView → Type 0
Reserves key number (Ok mark) old new = (number < mark) × (mark ≡ mark_of new.state key)
    × (((number < mark_of old.state key) × (new ≡ old))
    ⊎ ((mark_of old.state key ≤ number) × ((position : ℕ)
    × Made (reserve_of old.plan old.state key number) old new position)))
Reserves key number (Err fault) old new =
    (mark_of old.state key ≤ number) × Refuses (reserve_of old.plan old.state key number) old new fault

-- a ticket of the holder of the turn, by the answer
abbrev pub IsFunded : ℕ → ℕ → ℕ → Result (ℕ × ℕ) BookFault → BookView → BookView → View → View → Type 0
IsFunded key row n (Ok funded) found given v w =
    (funded ≡ (row, n)) × ((mark : ℕ) × Reserves key n (Ok mark) found given)
    × Lifts row n v.numbers w.numbers × (w.turn ≡ learning (marks_of given.state) v.turn)
IsFunded key row n (Err fault) found given v w =
    Reserves key n (Err fault) found given × (w.numbers ≡ v.numbers) × (w.turn ≡ v.turn)

-- what `fund` does, by its answer
abbrev pub IsFundStep : Bool → Permit → ℕ → List ℕ → List ℕ → Result Done (BookFault × ℕ) → View → View → Type 0
IsFundStep told p n clear out (Ok done) v w =
    (done.number ≡ n) × IsProtectedUnder p clear out done × Lifts p.row n v.numbers w.numbers
    × ((found : BookView) × (given : BookView) × (mark : ℕ)
    × Visits told found given v.turn w.turn
    × Reserves p.binding.key n (Ok mark) found given)
IsFundStep told p n clear out (Err fault) v w =
    (w.numbers ≡ v.numbers)
    × ((found : BookView) × (given : BookView) × Visits told found given v.turn w.turn
    × Reserves p.binding.key n (Err fault.0) found given
    × (fault.1 ≡ entry_count (known_of_book given)))
