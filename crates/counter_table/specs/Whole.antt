-- What a worker that has all shares knows: it did all that was done.
use Rattle.std.specs.Prelude.{◌≡◌, ◌⊎◌, ℕ, ◌+◌, ◌<◌, ◌≤◌, max, length}
use Rattle.counter_table.specs.declared.view.Numbers.{Numbers}
use Rattle.counter_table.specs.declared.view.View.{View}
use Rattle.sdls_base.specs.Numbers.{tally, once_below}
use Rattle.counter_table.specs.Numbers.{count_of, amount, top}
use Rattle.counter_table.specs.Turn.{stands}
use Rattle.counter_table.specs.declared.view.Known.{Known}
use Rattle.counter_table.specs.declared.view.Turn.{Turn}
use Rattle.counter_table.specs.Known.{Earlier}
use Rattle.counter_table.specs.Turn.{merged}
use Rattle.std.specs.Prelude.{true}

-- a row's word `next`, by what the one worker did
pub record RowStands (row next : ℕ) (v : Numbers) : Type 0 where
  -- what draws and raises added, and what they can have made of it
  pub grown : next ≡ 1 + amount row v.added
  pub bound : next ≤ max 1 (top row v.raised) + count_of row v.drawn
  -- the numbers drawn differ and are below it
  pub drawn : (x : ℕ) → tally row x v.drawn ≤ once_below x next
  -- it is the last one that was seen
  pub seen : top row v.nexts ≤ next
  pub last : (next ≡ 1) ⊎ (top row v.nexts ≡ next)

pub record IsWhole (count : ℕ) (v : View) : Type 0 where
  pub rows : (row : ℕ) → row < count → (next : ℕ) × RowStands row next v.numbers
  -- each place of the log was made once
  pub made : (place : ℕ) → stands place v.turn.made ≡ once_below place (length v.turn.known.log)

-- what two workers knew is of an earlier time than what they know as one, and neither made a place that the other made
pub record Meet (v w : Turn) : Type 0 where
  pub earlier : Earlier v.known (merged v w).known
  pub other_earlier : Earlier w.known (merged v w).known
  pub made : (place : ℕ) → stands place v.made + stands place w.made ≤ 1

-- what a look shows of the last join
pub record Look (v : Turn) : Type 0 where
  pub made : (place : ℕ) → stands place v.made ≤ 1
  pub book : Known
  pub known : Earlier v.known book
  pub one : Earlier v.one book
  pub other : Earlier v.other book
  pub opening : v.filled ≡ true → v.known.opening ≡ book.opening
