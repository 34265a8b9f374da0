-- What each step shows the worker that makes it: of its view and slots before, the word found, and its view and slots
-- after.
use Rattle.std.specs.Prelude.{◌≡◌, ◌≢◌, ℕ, ◌<◌, ◌≤◌, true, List, [], ◌∷◌, Some, None, Option}
use Rattle.atomic_table.specs.Table.{Me}
use Rattle.counter_table.specs.declared.view.Known.{Known}
use Rattle.counter_table.specs.declared.view.Numbers.{Numbers}
use Rattle.counter_table.specs.declared.view.Turn.{Turn}
use Rattle.counter_table.specs.declared.view.View.{View}
use Rattle.counter_table.specs.Known.{Earlier, IsSparing, known_mark}
use Rattle.sdls_base.specs.Numbers.{tally, once_below}
use Rattle.counter_table.specs.Numbers.{top, arming, drawing, peeking, raising, lifting, first_numbers, no_numbers}
use Rattle.counter_table.specs.Numbers.{ALL_SHARES}
use Rattle.counter_table.specs.Whole.{IsWhole, Look}
use Rattle.counter_table.specs.Turn.{epoch_seen, taking, giving, filling, learning, seeing, turning, no_turn}

abbrev pub first_view : View
first_view = record { numbers = first_numbers; turn = no_turn }

abbrev pub no_view : View
no_view = record { numbers = no_numbers; turn = no_turn }

module _ {S : Type 0} where
  -- the numbers move, and nothing else
  abbrev pub MovesNumbers : Me S View → (Numbers → Numbers) → Me S View → Type 0
  MovesNumbers m f w = (w.1 ≡ m.1) × (w.0 ≡ record m.0 { numbers = f m.0.numbers })

  -- what is known of the book moves, and nothing else
  abbrev pub MovesTurn : Me S View → (Turn → Turn) → Me S View → Type 0
  MovesTurn m f w = (w.1 ≡ m.1) × (w.0 ≡ record m.0 { turn = f m.0.turn })

  abbrev pub arms : ℕ → ℕ → Me S View → ℕ → Me S View → Type 0
  arms row end m n w = MovesNumbers m (arming row end n) w × (top row m.0.numbers.nexts ≤ n)

  abbrev pub draws : ℕ → Me S View → ℕ → Me S View → Type 0
  draws row m n w = MovesNumbers m (drawing row n) w × (top row m.0.numbers.nexts ≤ n) × (0 < n)

  abbrev pub peeks : ℕ → ℕ → Me S View → ℕ → Me S View → Type 0
  peeks row x m n w = MovesNumbers m (peeking row x n) w × (top row m.0.numbers.limits ≤ n)

  abbrev pub raises : ℕ → ℕ → Me S View → ℕ → Me S View → Type 0
  raises row number m n w = MovesNumbers m (raising row number n) w × (top row m.0.numbers.nexts ≤ n) × (0 < n)

  abbrev pub lifts : ℕ → ℕ → List ℕ → Me S View → ℕ → Me S View → Type 0
  lifts row mark marks m n w = (w.1 ≡ m.1) × (w.0
      ≡ record { numbers = lifting row mark m.0.numbers; turn = learning marks m.0.turn })

  abbrev pub sees : Me S View → ℕ → Me S View → Type 0
  sees m n w = MovesTurn m (seeing n) w × (epoch_seen m.0.turn ≤ n)
      × (m.0.turn.holds ≡ true → n ≡ m.0.turn.known.changes)

  abbrev pub turns : Me S View → ℕ → Me S View → Type 0
  turns m n w = MovesTurn m turning w × (n ≡ m.0.turn.known.changes)

  -- no number of a row below the count was drawn twice, and a worker that has all shares did all
  abbrev pub looks : ℕ → Me S View → ℕ → Me S View → Type 0
  looks count m n w =
      (w ≡ m) × ((row x : ℕ) → row < count → tally row x m.0.numbers.drawn ≤ 1)
      × (m.0.numbers.shares ≡ ALL_SHARES → IsWhole count m.0)
      × Look m.0.turn

-- the book that was found follows what was known of it
pub record Follows (v : Turn) (book : Known) : Type 0 where
  pub earlier : Earlier v.known book
  pub sparing : IsSparing v.known book
  pub epoch : v.epoch ≤ book.changes
  pub opening : book.opening ≡ v.known.opening

-- the book that was found is the one that was known, but for its marks
pub record IsAsKnown (v : Turn) (book : Known) : Type 0 where
  pub log : book.log ≡ v.known.log
  pub changes : book.changes ≡ v.known.changes
  pub faults : book.faults ≡ v.known.faults
  pub standing : book.standing ≡ v.known.standing
  pub put_faults : book.put_faults ≡ v.known.put_faults

-- the numbers spent are below the book's marks
abbrev pub IsCovered : ℕ → Numbers → Known → Type 0
IsCovered count v book = (row x : ℕ) → row < count → tally row x v.spent ≤ once_below x (known_mark book row)

module _ {B : Type 0} (told : B → Known) where
  abbrev pub Took : ℕ → Me (Option B) View → Me (Option B) View → Type 0
  Took count m w =
      (b : B) × (w.1 ≡ (0, Some b) ∷ m.1) × (w.0 ≡ record m.0 { turn = taking (told b) m.0.turn })
      × Follows m.0.turn (told b) × IsCovered count m.0.numbers (told b)
      × (m.0.numbers.shares ≡ ALL_SHARES → IsAsKnown m.0.turn (told b))

  -- the turn was taken with the book, where it was free
  abbrev pub takes : ℕ → Me (Option B) View → ℕ → Me (Option B) View → Type 0
  takes count m n w = (n ≡ 0 → Took count m w) × (n ≢ 0 → w ≡ m)

  -- the book in the slot was given back
  abbrev pub gives : Me (Option B) View → ℕ → Me (Option B) View → Type 0
  gives m n w = (b : B) → m.1 ≡ (0, Some b) ∷ [] → (w.1 ≡ []) × (w.0 ≡ record m.0 { turn = giving (told b) m.0.turn })

  -- the empty slot was taken
  abbrev pub empties : Me (Option B) View → ℕ → Me (Option B) View → Type 0
  empties m n w = (w.1 ≡ (0, None) ∷ []) × (w.0 ≡ record m.0 { turn = record m.0.turn { holds = true } })

  -- the first book was filled in
  abbrev pub fills : Me (Option B) View → ℕ → Me (Option B) View → Type 0
  fills m n w = (b : B) → m.1 ≡ (0, Some b) ∷ [] → (w.1 ≡ []) × (w.0 ≡ record m.0 { turn = filling (told b) m.0.turn })
