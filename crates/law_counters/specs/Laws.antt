-- What the laws that tie the counters to the pure core say.
use Rattle.std.specs.Prelude.{◌≡◌, ◌≢◌, ℕ, ◌≤◌, [], ◌∷◌, ◌++◌, length, false, true, Option, Some, slice_get, slice_set}
use Rattle.atomic_table.specs.Table.{Me}
use Rattle.counter_table.specs.declared.view.Known.{Known}
use Rattle.counter_table.specs.declared.view.View.{View}
use Rattle.counter_table.specs.Known.{known_mark}
use Rattle.counter_table.specs.Numbers.{keeper, newcomer, joined}
use Rattle.counter_table.specs.Turn.{beginner, merged}
use Rattle.counter_table.specs.Play.{no_view}
use Rattle.sdls_base.specs.KeyId.{end_of}
use Rattle.sdls_world.specs.declared.world.Step.TheVariants.{Write, Sync}
use Rattle.sdls_world.specs.Core.{idle, world_after_all}
use Rattle.sdls_world.specs.Kept.{IsWorldKept}
use Rattle.law_counters.specs.Scene.{Scene, AreSpent, IsRuled, doer, doers, world_of}
use Rattle.law_counters.specs.Move.{Move, moved, view_after, MayMove, steps_of, Tells, MovesBook}

module _ {B : Type 0} (told : B → Known) where
  -- where the rule of the counters holds, the world is kept
  abbrev pub RuledAreKept : Type 0
  RuledAreKept = (count : ℕ) (s : Scene) → IsRuled told count s → IsWorldKept (world_of s)

  -- a step of the counters leads to the world that its steps in the core give
  abbrev pub MovesTie : Type 0
  MovesTie = (count : ℕ) (s : Scene) → IsRuled told count s → (id : ℕ) (v : View) → slice_get s.views id ≡ Some v
      → (move : Move) → MayMove v move s
      → world_of (moved id v move s) ≡ world_after_all (world_of s) (steps_of id move s)

  -- what the counters tell the worker that steps is what it then knows in the scene
  abbrev pub ToldAfter : Type 0
  ToldAfter = (count : ℕ) (s : Scene) (move : Move) (m w : Me (Option B) View) → Tells told count move s m w
      → MovesBook told move s m w
      → w.0 ≡ view_after m.0 move s

-- the used pairs stay those that the workers spent
abbrev pub SpentStay : Type 0
SpentStay = (s : Scene) → AreSpent s.views s.used → (id : ℕ) (v : View) → slice_get s.views id ≡ Some v → (move : Move)
    → AreSpent (moved id v move s).views (moved id v move s).used

-- the later book has this mark at the row, and at others the same
pub record MarksOne (row mark : ℕ) (book later : Known) : Type 0 where
  pub here : known_mark later row ≡ mark
  pub others : (other : ℕ) → other ≢ row → known_mark later other ≡ known_mark book other
  pub above : known_mark book row ≤ mark

-- the holder's book stored a mark: the core writes it and syncs
abbrev pub StoresTie : {B : Type 0} → (B → Known) → Type 0
StoresTie told = (count : ℕ) (s : Scene) → IsRuled told count s → (id : ℕ) (v : View) → slice_get s.views id ≡ Some v
    → v.turn.holds ≡ true
    → (row key mark : ℕ) (later : Known) → slice_get s.ids row ≡ Some key → mark ≤ end_of key
    → MarksOne row mark s.book later
    → world_of (record s { book = later }) ≡ world_after_all (world_of s) (Write id key mark ∷ Sync id ∷ [])

-- the worker at this place gave a share to a new one, which has the next place
abbrev pub split_at : ℕ → View → Scene → Scene
split_at id v s = record s {
  views = slice_set s.views id (record v { numbers = keeper v.numbers })
      ++ (record { numbers = newcomer v.numbers; turn = beginner v.turn }) ∷ [];
}

-- no step of the core: one more actor, which is idle
abbrev pub SplitTies : Type 0
SplitTies = (s : Scene) (id : ℕ) (v : View) → slice_get s.views id ≡ Some v
    → world_of (split_at id v s) ≡ record (world_of s) { actors = doers 0 s.views ++ idle (length s.views) ∷ [] }
    × (AreSpent s.views s.used → AreSpent (split_at id v s).views s.used)

-- the worker at the first place took in the one at the other, which ended
abbrev pub join_at : ℕ → View → ℕ → View → Scene → Scene
join_at id v other u s = record s {
  views = slice_set (slice_set s.views id (record {
    numbers = joined v.numbers u.numbers;
    turn = merged v.turn
        u.turn;
  })) other no_view;
}

-- no step of the core: the one actor has what both drew and used, the other is idle, and the same actor holds the turn
abbrev pub JoinTies : Type 0
JoinTies = (s : Scene) (id other : ℕ) (v u : View) → slice_get s.views id ≡ Some v → slice_get s.views other ≡ Some u
    → other ≢ id
    → u.turn.holds ≡ false
    → (world_of (join_at id v other u s)
    ≡ record (world_of s) {
      actors = slice_set (slice_set (doers 0 s.views) id (doer id (joined v.numbers u.numbers)))
          other (idle other);
    })
    × (AreSpent s.views s.used → AreSpent (join_at id v other u s).views s.used)
