-- A run of the counters is a list of steps of the core.
use Rattle.std.proofs.Common.{◌≡◌, ℕ, List, [], ◌∷◌, ◌++◌, refl, sym, ap, ◌∙◌}
use Rattle.counter_table.specs.declared.view.Known.{Known}
use Rattle.sdls_world.specs.declared.world.Step.{Step}
use Rattle.sdls_world.specs.Core.{Core, world_after, world_after_all}
use Rattle.law_counters.specs.Scene.{Scene, IsRuled, world_of}
use Rattle.law_counters.specs.Run.{Event, steps, stores, scene_after, core_steps, all_core_steps, MayHappen, RunsTie}
use Rattle.law_counters.proofs.Moves.{moves_tie, stores_tie}

world_after_all-append : (w : Core) (xs ys : List Step) → world_after_all w (xs ++ ys)
    ≡ world_after_all (world_after_all w xs) ys
world_after_all-append w [] ys = refl
world_after_all-append w (x ∷ xs) ys = world_after_all-append (world_after w x) xs ys

module _ {B : Type 0} (told : B → Known) where
  event_ties : (count : ℕ) (s : Scene) → IsRuled told count s → (e : Event) → MayHappen e s
      → world_of (scene_after e s) ≡ world_after_all (world_of s) (core_steps e s)
  event_ties count s ruled (steps id v move) may = moves_tie told count s ruled id v may.0 move may.1
  event_ties count s ruled (stores id v row key mark later) may =
      stores_tie told count s ruled id v may.0 may.1 row key mark later may.2 may.3 may.4

  pub runs_tie : RunsTie told
  runs_tie count s [] may = refl
  runs_tie count s (e ∷ es) may =
      let more = all_core_steps (scene_after e s) es in
      runs_tie count (scene_after e s) es may.2
      ∙ ap (λ (w : Core). world_after_all w more) (event_ties count s may.0 e may.1)
      ∙ sym (world_after_all-append (world_of s) (core_steps e s) more)
