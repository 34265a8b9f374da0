-- What is left once all workers were joined and the counters are closed.
use Rattle.std.specs.Prelude.{◌≡◌, ℕ, ◌<◌, List, length, slice_index}
use Rattle.counter_table.specs.declared.view.Known.{Known}
use Rattle.counter_table.specs.declared.view.View.{View}
use Rattle.counter_table.specs.Turn.{stands}
use Rattle.sdls_base.specs.Numbers.{once_below}
use Rattle.counter_table.specs.Play.{Follows, IsAsKnown, IsCovered}
use Rattle.counter_table.specs.Whole.{RowStands}

pub record ClosesCounters (count : ℕ) (v : View) (book : Known) (nexts : List ℕ) : Type 0 where
  pub rows : length nexts ≡ count
  pub each : (row : ℕ) → row < count → RowStands row (slice_index nexts row) v.numbers
  pub covered : IsCovered count v.numbers book
  pub follows : Follows v.turn book
  -- the book is as it was seen, and each place of its log was made once
  pub log : book.log ≡ v.turn.known.log
  pub as_known : IsAsKnown v.turn book
  pub made : (place : ℕ) → stands place v.turn.made ≡ once_below place (length book.log)
