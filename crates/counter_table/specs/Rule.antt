-- Profile: the rule of the counters, which holds between any two steps of any workers.
-- The words are the turn (0 free; else taken, and 3 if a worker waits for it), at `epoch_at` the epoch, and from word
-- ROW_WORDS on ROW_WORDS words for each row.
-- The first of these is `next`, and the second `limit`.
use Rattle.std.specs.Prelude.{◌≡◌, ◌⊎◌, ℕ, ◌+◌, ◌*◌, ◌^◌, ◌<◌, ◌≤◌, max, Bool, true, false, List, [], ◌∷◌, length, map}
use Rattle.std.specs.Prelude.{slice_index, Some, None, Option}
use mathlib.Core.Option as slot
use lib.ListN.{get_elem?}
use Rattle.atomic_table.specs.Table.{State}
use Rattle.counter_table.specs.declared.drawing.TheConstants.{ROW_WORDS}
use Rattle.counter_table.specs.declared.turns.TheConstants.{EPOCH}
use Rattle.counter_table.specs.declared.view.Known.{Known}
use Rattle.counter_table.specs.declared.view.Numbers.{Numbers}
use Rattle.counter_table.specs.declared.view.Turn.{Turn}
use Rattle.counter_table.specs.declared.view.View.{View}
use Rattle.counter_table.specs.Known.{known_mark, Earlier, IsSparing, unknown}
use Rattle.sdls_base.specs.Numbers.{one_if, tally, total, once_below}
use Rattle.counter_table.specs.Numbers.{ALL_SHARES, count_of, amount, top, is_armed, is_last, no_numbers}
use Rattle.counter_table.specs.Turn.{stands, no_turn}

-- the greatest over all workers
abbrev pub greatest : {V : Type 0} → (V → ℕ) → List V → ℕ
greatest f [] = 0
greatest f (v ∷ vs) = max (f v) (greatest f vs)

-- the places of the words
abbrev pub epoch_at : ℕ
epoch_at = EPOCH

abbrev pub next_at : ℕ → ℕ
next_at row = ROW_WORDS * row + ROW_WORDS

abbrev pub limit_at : ℕ → ℕ
limit_at row = next_at row + 1

-- the greatest end of a key, 2 ^ 48, and one for each share
abbrev pub most : ℕ
most = 2 ^ 48 + ALL_SHARES

-- what a worker knows of a row with these words
pub record SeatFits (row next limit : ℕ) (v : Numbers) : Type 0 where
  -- the words seen are past
  pub nexts : top row v.nexts ≤ next
  pub limits : top row v.limits ≤ limit
  -- each number spent is below the limit, and was spent once
  pub spent : (x : ℕ) → tally row x v.spent ≤ once_below x limit

pub record RowFits (row next limit : ℕ) (views : List Numbers) : Type 0 where
  -- the numbers drawn differ, and are below `next`
  pub once : (x : ℕ) → total (λ v. tally row x v.drawn) views ≤ once_below x next
  -- there is room for each worker that is armed
  pub room : next + total (λ v. is_armed row v.armed) views ≤ most
  -- what draws and raises added
  pub grown : next ≡ 1 + total (λ v. amount row v.added) views
  -- what draws and raises can have made of it
  pub bound : next ≤ max 1 (greatest (λ v. top row v.raised) views) + total (λ v. count_of row v.drawn) views
  pub each : (id : ℕ) (v : Numbers) → get_elem? views id ≡ slot.some v → SeatFits row next limit v
  -- a word that moved is the last one that some worker with a share knows
  pub last : (next ≡ 1) ⊎ ((id : ℕ) × (v : Numbers) × (get_elem? views id ≡ slot.some v) × (0 < v.shares)
      × (top row v.nexts ≡ next))

-- what a worker knows of its own numbers
pub record IsSane (v : Numbers) : Type 0 where
  -- what is spent was drawn here, and so was the last number, which is not spent
  pub drawn : (row x : ℕ) → tally row x v.spent + is_last row x v.last ≤ tally row x v.drawn
  pub alive : (v ≡ no_numbers) ⊎ (0 < v.shares)

pub record NumbersFit (count : ℕ) (words : List ℕ) (views : List Numbers) : Type 0 where
  pub size : length words ≡ ROW_WORDS * count + ROW_WORDS
  pub rows : (row : ℕ) → row < count → RowFits row (slice_index words (next_at row)) (slice_index words (limit_at row))
      views
  pub shares : total (λ v. v.shares) views ≡ ALL_SHARES
  pub sane : (id : ℕ) (v : Numbers) → get_elem? views id ≡ slot.some v → IsSane v

-- what a worker knows of the book, where this is the book at home, or out as its holder knows it
pub record KnowsBook (book : Known) (filled : Bool) (v : Turn) : Type 0 where
  pub earlier : Earlier v.known book
  pub sparing : v.filled ≡ true → IsSparing v.known book
  pub epoch : v.epoch ≤ book.changes
  pub opening : v.filled ≡ true → (filled ≡ true) × (v.known.opening ≡ book.opening)
  pub blank : v.filled ≡ false → v.known ≡ unknown
  pub made : (place : ℕ) → 0 < stands place v.made → place < length v.known.log
  pub one : Earlier v.one book
  pub other : Earlier v.other book

-- each count of the book is one that some worker knows
pub record IsReached (book : Known) (views : List Turn) : Type 0 where
  pub changes : book.changes ≤ greatest (λ v. v.known.changes) views
  pub faults : book.faults ≤ greatest (λ v. v.known.faults) views
  pub standing : book.standing ≤ greatest (λ v. v.known.standing) views
  pub put_faults : book.put_faults ≤ greatest (λ v. v.known.put_faults) views

module _ {B : Type 0} (told : B → Known) where
  -- where the book is
  pub record IsAtHome (word : ℕ) (homes : List (slot.Option (Option B))) (views : List Turn) (known : Known)
      (full : Bool) : Type 0 where
    pub turn : word ≡ 0
    pub book : (b : B) × (homes ≡ slot.some (Some b) ∷ []) × (told b ≡ known)
    pub free : total (λ v. one_if v.holds) views ≡ 0
    pub filled : full ≡ true

  pub record IsUnfilled (word : ℕ) (homes : List (slot.Option (Option B))) (views : List Turn) (known : Known)
      (full : Bool) : Type 0 where
    pub turn : word ≡ 0
    pub none : homes ≡ slot.some None ∷ []
    pub free : total (λ v. one_if v.holds) views ≡ 0
    pub filled : full ≡ false
    pub book : known ≡ unknown

  pub record IsOut (word : ℕ) (homes : List (slot.Option (Option B))) (views : List Turn) (known : Known)
      (full : Bool) : Type 0 where
    pub turn : 0 < word
    pub out : homes ≡ slot.none ∷ []
    pub held : total (λ v. one_if v.holds) views ≡ 1
    pub holder : (id : ℕ) (v : Turn) → get_elem? views id ≡ slot.some v → v.holds ≡ true → v.known ≡ known
    pub book : full ≡ false → known ≡ unknown

  -- the turn, the epoch and the limits fit the book and what each worker knows of it
  pub record TurnFits (count : ℕ) (words : List ℕ) (homes : List (slot.Option (Option B))) (views : List Turn)
      (book : Known) (filled : Bool) : Type 0 where
    pub place : IsAtHome (slice_index words 0) homes views book filled
        ⊎ (IsUnfilled (slice_index words 0) homes views book filled
        ⊎ IsOut (slice_index words 0) homes views book filled)
    pub epoch : slice_index words epoch_at ≡ book.changes
    pub limits : (row : ℕ) → row < count → slice_index words (limit_at row) ≤ known_mark book row
    -- all places of the log, each made once
    pub made : (place : ℕ) → total (λ v. stands place v.made) views ≡ once_below place (length book.log)
    pub known : filled ≡ true → 0 < total (λ v. one_if v.filled) views
    pub reached : IsReached book views
    pub each : (id : ℕ) (v : Turn) → get_elem? views id ≡ slot.some v → KnowsBook book filled v

  -- the rule
  pub record IsKept (count : ℕ) (s : State (Option B) View) : Type 0 where
    pub numbers : NumbersFit count s.words (map (λ v. v.numbers) s.views)
    pub book : Known
    pub filled : Bool
    pub turn : TurnFits count s.words s.homes (map (λ v. v.turn) s.views) book filled
    -- a worker that ended knows nothing
    pub ended : (id : ℕ) (v : View) → get_elem? s.views id ≡ slot.some v → v.numbers.shares ≡ 0 → v.turn ≡ no_turn
