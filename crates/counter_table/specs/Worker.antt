-- What clauses say of the counters and of a worker.
use Rattle.std.specs.Prelude.{◌≡◌, ℕ}
use Rattle.counter_table.specs.declared.view.View.{View}
use Rattle.counter_table.specs.declared.counters.Counters.{Counters}
use Rattle.counter_table.specs.declared.counters.Worker.{Worker}
use Rattle.counter_table.specs.declared.drawing.Arm.{Arm}
use Rattle.counter_table.specs.declared.drawing.Arm.TheVariants.{Armed, Exhausted}

-- what the worker knows
abbrev pub view : {B : Type 0} → Worker B → View
view worker = worker.seat.me.0

-- how many rows there are
abbrev pub rows_of : {B : Type 0} → Counters B → ℕ
rows_of counters = counters.rows

-- the worker is of these counters
abbrev pub IsOf : {B : Type 0} → Counters B → Worker B → Type 0
IsOf counters worker = worker.seat.table_id ≡ counters.table.shared.table_id

-- the same worker of the same counters, whatever it knows
abbrev pub IsSame : {B : Type 0} → Worker B → Worker B → Type 0
IsSame one other = (other.seat.table_id ≡ one.seat.table_id) × (other.seat.id ≡ one.seat.id)

-- the same worker, which knows the same of the book
abbrev pub KeepsTurn : {B : Type 0} → Worker B → Worker B → Type 0
KeepsTurn one other = IsSame one other × ((view other).turn ≡ (view one).turn)

-- the same worker, which knows the same of the numbers
abbrev pub KeepsNumbers : {B : Type 0} → Worker B → Worker B → Type 0
KeepsNumbers one other = IsSame one other × ((view other).numbers ≡ (view one).numbers)

-- a fact for each answer of `arm`
abbrev pub MatchArm : Arm → (ℕ → Type 0) → (ℕ → Type 0) → Type 0
MatchArm (Armed row) P Q = P row
MatchArm (Exhausted n) P Q = Q n
