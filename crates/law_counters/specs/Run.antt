-- Profile: steps of any workers, one after the other, with marks stored among them.
use Rattle.std.specs.Prelude.{◌≡◌, ℕ, ◌≤◌, true, ⊤, List, [], ◌∷◌, ◌++◌, Some, slice_get}
use Rattle.counter_table.specs.declared.view.Known.{Known}
use Rattle.counter_table.specs.declared.view.View.{View}
use Rattle.sdls_base.specs.KeyId.{end_of}
use Rattle.sdls_world.specs.declared.world.Step.{Step}
use Rattle.sdls_world.specs.declared.world.Step.TheVariants.{Write, Sync}
use Rattle.sdls_world.specs.Core.{world_after_all}
use Rattle.law_counters.specs.Scene.{Scene, IsRuled, world_of}
use Rattle.law_counters.specs.Move.{Move, moved, MayMove, steps_of}
use Rattle.law_counters.specs.Laws.{MarksOne}

-- a step of the worker at a place, which knew v; or a mark that the book of such a worker stored, which then is the
-- later one
pub data Event : Type 0 where
  steps : (id : ℕ) (v : View) (move : Move) → Event
  stores : (id : ℕ) (v : View) (row key mark : ℕ) (later : Known) → Event

abbrev pub scene_after : Event → Scene → Scene
scene_after (steps id v move) s = moved id v move s
scene_after (stores id v row key mark later) s = record s { book = later }

abbrev pub core_steps : Event → Scene → List Step
core_steps (steps id v move) s = steps_of id move s
core_steps (stores id v row key mark later) s = Write id key mark ∷ Sync id ∷ []

-- the worker is there, and may do it
abbrev pub MayHappen : Event → Scene → Type 0
MayHappen (steps id v move) s = (slice_get s.views id ≡ Some v) × MayMove v move s
MayHappen (stores id v row key mark later) s =
    (slice_get s.views id ≡ Some v) × (v.turn.holds ≡ true) × (slice_get s.ids row ≡ Some key) × (mark ≤ end_of key)
    × MarksOne row mark s.book later

abbrev pub scene_at_end : Scene → List Event → Scene
scene_at_end s [] = s
scene_at_end s (e ∷ es) = scene_at_end (scene_after e s) es

abbrev pub all_core_steps : Scene → List Event → List Step
all_core_steps s [] = []
all_core_steps s (e ∷ es) = core_steps e s ++ all_core_steps (scene_after e s) es

module _ {B : Type 0} (told : B → Known) where
  -- each happens where the rule holds
  abbrev pub MayAllHappen : ℕ → Scene → List Event → Type 0
  MayAllHappen count s [] = ⊤
  MayAllHappen count s (e ∷ es) = IsRuled told count s × MayHappen e s × MayAllHappen count (scene_after e s) es

  -- whatever the workers do, one after the other, is a list of steps of the core
  abbrev pub RunsTie : Type 0
  RunsTie = (count : ℕ) (s : Scene) (events : List Event) → MayAllHappen count s events
      → world_of (scene_at_end s events) ≡ world_after_all (world_of s) (all_core_steps s events)
