-- Profile: the book and the turn, as one worker knows them.
use Rattle.std.specs.Prelude.{ℕ, zero, suc, ◌+◌, ◌-◌, ◌==◌, ◌&&◌, ◌||◌, max, Bool, true, false, List, [], ◌∷◌, ◌++◌}
use Rattle.std.specs.Prelude.{Option, is_none, length, if◌then◌else◌}
use Rattle.counter_table.specs.declared.view.Known.{Known}
use Rattle.counter_table.specs.declared.view.Turn.{Turn}
use Rattle.counter_table.specs.Known.{unknown, later}

-- so many places of a log, the first of them from
abbrev pub places : ℕ → ℕ → List ℕ
places from zero = []
places from (suc count) = from ∷ places (suc from) count

-- how often the place stands in the list
abbrev pub stands : ℕ → List ℕ → ℕ
stands place [] = 0
stands place (p ∷ ps) = (if p == place then 1 else 0) + stands place ps

-- the epoch that a worker has seen
abbrev pub epoch_seen : Turn → ℕ
epoch_seen v = max v.epoch v.known.changes

abbrev pub no_turn : Turn
no_turn = record {
  holds = false;
  filled = false;
  turns = 0;
  epoch = 0;
  loads = 0;
  known = unknown;
  made = [];
  one = unknown;
  other = unknown;
}

-- after the first book was filled in
abbrev pub filling : Known → Turn → Turn
filling book v = record v { holds = false; filled = true; known = book; made = v.made ++ places 0 (length book.log) }

-- after the turn was taken, and this book found
abbrev pub taking : Known → Turn → Turn
taking book v = record v { holds = true; turns = v.turns + 1; known = book }

-- after this book was given back. The places that were added to its log since the take are this worker's
abbrev pub giving : Known → Turn → Turn
giving book v =
    record v {
      holds = false;
      known = book;
      made = v.made
          ++ places (length v.known.log) (length book.log - length v.known.log);
    }

-- after a limit was lifted, to the mark of a held book with these marks
abbrev pub learning : List ℕ → Turn → Turn
learning marks v = record v { known = record v.known { marks = marks } }

-- after so many loads of the word `epoch`, of which the last found this one
abbrev pub loading : ℕ → ℕ → Turn → Turn
loading count epoch v = record v { epoch = epoch; loads = v.loads + count }

-- after the word `epoch` was loaded, once
abbrev pub seeing : ℕ → Turn → Turn
seeing epoch v = loading 1 epoch v

-- after the word `epoch` was turned on
abbrev pub turning : Turn → Turn
turning v = record v { known = record v.known { changes = v.known.changes + 1 } }

-- a new worker, split from this one
abbrev pub beginner : Turn → Turn
beginner v = record no_turn { filled = v.filled; epoch = v.epoch; known = v.known }

-- the worker that took in another
abbrev pub merged : Turn → Turn → Turn
merged v w =
    record v {
      filled = v.filled || w.filled;
      turns = v.turns + w.turns;
      epoch = max v.epoch w.epoch;
      loads = v.loads + w.loads;
      made = v.made ++ w.made;
      one = v.known;
      other = w.known;
      known = if v.holds then v.known else later (if v.filled then v.known.opening else w.known.opening) v.known
          w.known;
    }

-- the slots of a worker: the book's place, empty, while it holds the turn
abbrev pub is_emptied : {B : Type 0} → List (ℕ × Option B) → Bool
is_emptied [] = false
is_emptied (s ∷ []) = (s.0 == 0) && is_none s.1
is_emptied (s ∷ t ∷ ss) = false

abbrev pub is_empty : {B : Type 0} → List B → Bool
is_empty [] = true
is_empty (s ∷ ss) = false

abbrev pub slots_fit : {B : Type 0} → Bool → List (ℕ × Option B) → Bool
slots_fit false slots = is_empty slots
slots_fit true slots = is_emptied slots
