-- Profile: the counters at one time, and the world of the pure core that words, views and book stand for.
use Rattle.std.specs.Prelude.{◌≡◌, ℕ, suc, ◌≤◌, if◌then◌else◌, false, List, [], ◌∷◌, length, Option, Some, None}
use Rattle.std.specs.Prelude.{slice_get, slice_index}
use mathlib.Core.Option as slot
use Rattle.counter_table.specs.declared.view.Known.{Known}
use Rattle.counter_table.specs.declared.view.Numbers.{Numbers}
use Rattle.counter_table.specs.declared.view.View.{View}
use Rattle.counter_table.specs.Known.{known_mark, LowersNoMark}
use Rattle.counter_table.specs.Rule.{epoch_at, next_at, limit_at}
use Rattle.counter_table.specs.Rule as rules
use Rattle.sdls_base.specs.Numbers.{tally, total}
use Rattle.sdls_world.specs.declared.world.Key.{Key}
use Rattle.sdls_world.specs.Core.{Doer, Core}

-- the words, what each worker knows, the book at home or held, the identifiers of its keys by row, and the pairs that
-- were spent, in the order in which they were
pub record Scene : Type 0 where
  pub words : List ℕ
  pub views : List View
  pub book : Known
  pub ids : List ℕ
  pub used : List (ℕ × ℕ)

abbrev pub next_of : Scene → ℕ → ℕ
next_of s row = slice_index s.words (next_at row)

abbrev pub limit_of : Scene → ℕ → ℕ
limit_of s row = slice_index s.words (limit_at row)

abbrev pub turn_of : Scene → ℕ
turn_of s = slice_index s.words 0

abbrev pub epoch_of : Scene → ℕ
epoch_of s = slice_index s.words epoch_at

-- the worker at a place, as an actor. It funds and spends in one step, so what was funded is what was spent
abbrev pub doer : ℕ → Numbers → Doer
doer id v = record {
  id = id;
  armed = v.armed;
  last = v.last;
  is_funded = false;
  drawn = v.drawn;
  funded = v.spent;
  spent = v.spent;
}

-- the workers from a place on
abbrev pub doers : ℕ → List View → List Doer
doers id [] = []
doers id (v ∷ vs) = doer id v.numbers ∷ doers (suc id) vs

-- the key of a row. What a book shows is stored, so its mark is the durable one too
abbrev pub key_at : List ℕ → Known → ℕ → ℕ → Key
key_at words book row id = record {
  id = id;
  next = slice_index words (next_at row);
  limit = slice_index words (limit_at row);
  mark = known_mark book row;
  durable = known_mark book row;
}

-- the keys from a row on
abbrev pub keys_from : List ℕ → Known → ℕ → List ℕ → List Key
keys_from words book row [] = []
keys_from words book row (id ∷ ids) = key_at words book row id ∷ keys_from words book (suc row) ids

-- the first worker, from a place on, that holds the turn
abbrev pub holder_from : ℕ → List View → Option ℕ
holder_from id [] = None
holder_from id (v ∷ vs) = if v.turn.holds then Some id else holder_from (suc id) vs

-- the world that the scene stands for
abbrev pub world_of : Scene → Core
world_of s = record {
  keys = keys_from s.words s.book 0 s.ids;
  actors = doers 0 s.views;
  holder = holder_from 0 s.views;
  epoch = epoch_of s;
  used = s.used;
}

-- each pair stands among the used ones as often as the workers together spent it
abbrev pub AreSpent : List View → List (ℕ × ℕ) → Type 0
AreSpent views used = (row x : ℕ) → tally row x used ≡ total (λ v. tally row x v.numbers.spent) views

module _ {B : Type 0} (told : B → Known) where
  -- the rule of the counters holds, of so many rows
  pub record IsRuled (count : ℕ) (s : Scene) : Type 0 where
    -- where the book is, and the rule
    pub homes : List (slot.Option (Option B))
    pub rule : rules.IsKept told count (record { words = s.words; homes = homes; views = s.views })
    -- no mark of the book is below what the rule knows: the mark at home, or the holder's
    pub marks : LowersNoMark rule.book s.book
    -- each key of the book has a row, and one alone
    pub rows : length s.ids ≤ count
    pub apart : (i j id : ℕ) → slice_get s.ids i ≡ Some id → slice_get s.ids j ≡ Some id → i ≡ j
    pub used : AreSpent s.views s.used
