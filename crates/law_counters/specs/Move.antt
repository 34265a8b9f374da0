-- Profile: what one step of the counters does to a scene, where it is made, and its steps in the pure core.
use Rattle.std.specs.Prelude.{◌≡◌, ℕ, ◌+◌, ◌<◌, ◌≤◌, ◌^◌, ◌==◌, max, nat_lt, true, false, ⊤, if◌then◌else◌, List, []}
use Rattle.std.specs.Prelude.{◌∷◌, ◌++◌, Option, Some, slice_get, slice_set}
use Rattle.atomic_table.specs.Table.{Me}
use Rattle.counter_table.specs.declared.view.Known.{Known}
use Rattle.counter_table.specs.declared.view.View.{View}
use Rattle.counter_table.specs.Known.{known_mark}
use Rattle.counter_table.specs.Numbers.{arming, drawing, peeking, raising, lifting}
use Rattle.counter_table.specs.Turn.{seeing, taking, giving, learning, turning}
use Rattle.counter_table.specs.Rule.{epoch_at, next_at, limit_at}
use Rattle.counter_table.specs.Play as plays
use Rattle.sdls_base.specs.KeyId.{end_of}
use Rattle.sdls_world.specs.declared.world.Step.{Step}
use Rattle.sdls_world.specs.declared.world.Step.TheVariants.{Arm, Draw, Peek, Spend, See, Take, Give, Lift, RaiseNext}
use Rattle.sdls_world.specs.declared.world.Step.TheVariants.{Turn}
use Rattle.law_counters.specs.Scene.{Scene, next_of, limit_of, turn_of, epoch_of}

-- one step of the counters: the row, the identifier of its key, and what the call is given
pub data Move : Type 0 where
  arms : (row key end : ℕ) → Move
  draws : (row key : ℕ) → Move
  peeks : (row key number : ℕ) → Move
  sees : Move
  takes : Move
  gives : Move
  lifts : (row key : ℕ) → Move
  raises : (row key number : ℕ) → Move
  turns : Move

-- what the worker that steps then knows. Who finds the turn taken knows no more
abbrev pub view_after : View → Move → Scene → View
view_after v (arms row key end) s = record v { numbers = arming row end (next_of s row) v.numbers }
view_after v (draws row key) s = record v { numbers = drawing row (next_of s row) v.numbers }
view_after v (peeks row key number) s = record v { numbers = peeking row number (limit_of s row) v.numbers }
view_after v sees s = record v { turn = seeing (epoch_of s) v.turn }
view_after v takes s = record v { turn = if turn_of s == 0 then taking s.book v.turn else v.turn }
view_after v gives s = record v { turn = giving s.book v.turn }
view_after v (lifts row key) s =
    record { numbers = lifting row (known_mark s.book row) v.numbers; turn = learning s.book.marks v.turn }
view_after v (raises row key number) s = record v { numbers = raising row number (next_of s row) v.numbers }
view_after v turns s = record v { turn = turning v.turn }

-- the words: a load leaves them, and each other step writes one. The turn is 2 where it is taken, 0 where it is free
abbrev pub words_after : Move → Scene → List ℕ
words_after (arms row key end) s = s.words
words_after (draws row key) s = slice_set s.words (next_at row) (next_of s row + 1)
words_after (peeks row key number) s = s.words
words_after sees s = s.words
words_after takes s = slice_set s.words 0 2
words_after gives s = slice_set s.words 0 0
words_after (lifts row key) s = slice_set s.words (limit_at row) (max (limit_of s row) (known_mark s.book row))
words_after (raises row key number) s = slice_set s.words (next_at row) (max (next_of s row) number)
words_after turns s = slice_set s.words epoch_at (epoch_of s + 1)

-- a number is spent by the look that finds the limit above it
abbrev pub used_after : Move → Scene → List (ℕ × ℕ)
used_after (arms row key end) s = s.used
used_after (draws row key) s = s.used
used_after (peeks row key number) s = if nat_lt number (limit_of s row) then s.used ++ (row, number) ∷ [] else s.used
used_after sees s = s.used
used_after takes s = s.used
used_after gives s = s.used
used_after (lifts row key) s = s.used
used_after (raises row key number) s = s.used
used_after turns s = s.used

-- the scene after a step of the worker at this place, which knew v
abbrev pub moved : ℕ → View → Move → Scene → Scene
moved id v move s = record s {
  words = words_after move s;
  views = slice_set s.views id (view_after v move s);
  used =
      used_after move s;
}

-- what the calls of the counters ask for, and that the row is that of this key of the book
abbrev pub MayMove : View → Move → Scene → Type 0
MayMove v (arms row key end) s = (slice_get s.ids row ≡ Some key) × (end ≡ end_of key)
MayMove v (draws row key) s = (slice_get s.ids row ≡ Some key) × (v.numbers.armed ≡ Some row)
MayMove v (peeks row key number) s = (slice_get s.ids row ≡ Some key) × (v.numbers.last ≡ Some (row, number))
MayMove v sees s = ⊤
MayMove v takes s = v.turn.holds ≡ false
MayMove v gives s = v.turn.holds ≡ true
MayMove v (lifts row key) s = (slice_get s.ids row ≡ Some key) × (v.turn.holds ≡ true)
MayMove v (raises row key number) s = (slice_get s.ids row ≡ Some key) × (v.turn.holds ≡ true) × (number ≤ end_of key)
MayMove v turns s = (v.turn.holds ≡ true) × (epoch_of s + 1 < 2 ^ 64)

-- the steps of the core
abbrev pub steps_of : ℕ → Move → Scene → List Step
steps_of id (arms row key end) s = Arm id key ∷ []
steps_of id (draws row key) s = Draw id ∷ []
steps_of id (peeks row key number) s = if nat_lt number (limit_of s row) then Peek id ∷ Spend id ∷ [] else Peek id ∷ []
steps_of id sees s = See id ∷ []
steps_of id takes s = Take id ∷ []
steps_of id gives s = Give id ∷ []
steps_of id (lifts row key) s = Lift id key ∷ []
steps_of id (raises row key number) s = RaiseNext id key number ∷ []
steps_of id turns s = Turn id ∷ []

module _ {B : Type 0} (told : B → Known) where
  -- what the counters tell the worker that steps: of its view and slots before and after
  abbrev pub Tells : ℕ → Move → Scene → Me (Option B) View → Me (Option B) View → Type 0
  Tells count (arms row key end) s m w = plays.arms row end m (next_of s row) w
  Tells count (draws row key) s m w = plays.draws row m (next_of s row) w
  Tells count (peeks row key number) s m w = plays.peeks row number m (limit_of s row) w
  Tells count sees s m w = plays.sees m (epoch_of s) w
  Tells count takes s m w = plays.takes told count m (turn_of s) w
  Tells count gives s m w = plays.gives told m (turn_of s) w
  Tells count (lifts row key) s m w = plays.lifts row (known_mark s.book row) s.book.marks m (limit_of s row) w
  Tells count (raises row key number) s m w = plays.raises row number m (next_of s row) w
  Tells count turns s m w = plays.turns m (epoch_of s) w

  -- the book that is found, and the one that is given back, is the scene's
  abbrev pub MovesBook : Move → Scene → Me (Option B) View → Me (Option B) View → Type 0
  MovesBook (arms row key end) s m w = ⊤
  MovesBook (draws row key) s m w = ⊤
  MovesBook (peeks row key number) s m w = ⊤
  MovesBook sees s m w = ⊤
  MovesBook takes s m w = (book : B) → w.1 ≡ (0, Some book) ∷ m.1 → told book ≡ s.book
  MovesBook gives s m w = (book : B) × (m.1 ≡ (0, Some book) ∷ []) × (told book ≡ s.book)
  MovesBook (lifts row key) s m w = ⊤
  MovesBook (raises row key number) s m w = ⊤
  MovesBook turns s m w = ⊤
