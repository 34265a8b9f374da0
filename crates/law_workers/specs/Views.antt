-- What lies between two views of a worker (profile).
use Rattle.std.specs.Prelude.{◌≡◌, ℕ, ◌+◌, ◌<◌, ◌≤◌, List, [], ◌++◌, Some}
use Rattle.sdls_base.specs.Numbers.{tally}
use Rattle.sdls_base.specs.declared.entry.Entry.{Entry}
use Rattle.sdls_base.specs.declared.entry.Logged.{Logged}
use Rattle.key_book.specs.KeyBook.{place_of}
use Rattle.unit_state.specs.History.{after_all}
use Rattle.counter_table.specs.declared.view.View.{View}
use Rattle.counter_table.specs.Known.{Earlier}
use Rattle.counter_table.specs.Numbers.{top, keeper, newcomer, joined}
use Rattle.counter_table.specs.Turn.{stands, epoch_seen, beginner, merged}
use Rattle.run_promise.specs.Log.{entries_of}
use Rattle.run_promise.specs.Call.{Begin}

abbrev pub log_of : View → List Logged
log_of view = view.turn.known.log

abbrev pub entries_in : View → List Entry
entries_in view = entries_of (log_of view)

-- the row of the key: its place in loading order, as the view knows the history
abbrev pub IsRow : Begin → View → ℕ → ℕ → Type 0
IsRow begin view key row = place_of (after_all begin.start (entries_in view)).keys key ≡ Some row

-- the number stands between the words `next` of the key's row that the two views knew last
pub record IsBetween (begin : Begin) (old new : View) (key number : ℕ) : Type 0 where
  pub row : ℕ
  pub row_is : IsRow begin new key row
  pub least : top row old.numbers.nexts ≤ number
  pub most : number ≤ top row new.numbers.nexts

-- the new view knows all that the old one knew, or more
pub record KnowsMore (old new : View) : Type 0 where
  pub nexts : (row : ℕ) → top row old.numbers.nexts ≤ top row new.numbers.nexts
  pub earlier : Earlier old.turn.known new.turn.known
  pub opening : new.turn.known.opening ≡ old.turn.known.opening
  pub epochs : epoch_seen old.turn ≤ epoch_seen new.turn

-- What was added to the lists of a view: the numbers drawn, spent and raised to, what was added to words, and the
-- places of the log that were made.
pub record Gains : Type 0 where
  pub drawn : List (ℕ × ℕ)
  pub spent : List (ℕ × ℕ)
  pub raised : List (ℕ × ℕ)
  pub added : List (ℕ × ℕ)
  pub made : List ℕ

abbrev pub no_gains : Gains
no_gains = record { drawn = []; spent = []; raised = []; added = []; made = [] }

abbrev pub both_gains : Gains → Gains → Gains
both_gains g h = record {
  drawn = g.drawn ++ h.drawn;
  spent = g.spent ++ h.spent;
  raised = g.raised ++ h.raised;
  added = g.added ++ h.added;
  made = g.made ++ h.made;
}

-- the lists of the view grew by these, and its shares, its turn and its knowledge of a filled book are as they were
pub record Gained (old new : View) (gains : Gains) : Type 0 where
  pub drawn : new.numbers.drawn ≡ old.numbers.drawn ++ gains.drawn
  pub spent : new.numbers.spent ≡ old.numbers.spent ++ gains.spent
  pub raised : new.numbers.raised ≡ old.numbers.raised ++ gains.raised
  pub added : new.numbers.added ≡ old.numbers.added ++ gains.added
  pub made : new.turn.made ≡ old.turn.made ++ gains.made
  pub shares : new.numbers.shares ≡ old.numbers.shares
  pub holds : new.turn.holds ≡ old.turn.holds
  pub filled : new.turn.filled ≡ old.turn.filled

-- a worker that gave a share away, the one that got it, and a worker that took in another
abbrev pub keeping : View → View
keeping v = record { numbers = keeper v.numbers; turn = v.turn }

abbrev pub starting : View → View
starting v = record { numbers = newcomer v.numbers; turn = beginner v.turn }

abbrev pub meeting : View → View → View
meeting v w = record { numbers = joined v.numbers w.numbers; turn = merged v.turn w.turn }

-- What a join shows of the two views: both are of an earlier time than the joined one, and neither drew a number or
-- made a place that the other did.
pub record Meets (rows : ℕ) (v w : View) : Type 0 where
  pub earlier : Earlier v.turn.known (meeting v w).turn.known
  pub other_earlier : Earlier w.turn.known (meeting v w).turn.known
  pub drawn : (row number : ℕ) → row < rows → tally row number v.numbers.drawn + tally row number w.numbers.drawn ≤ 1
  pub made : (place : ℕ) → stands place v.turn.made + stands place w.turn.made ≤ 1
