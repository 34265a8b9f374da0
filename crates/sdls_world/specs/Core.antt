-- Profile: the pure core. What one atomic step does to words, actors and marks, on plain data. A row is the place of a
-- key, and a pair is a row with a number.
use Rattle.std.specs.Prelude.{ℕ, suc, ◌+◌, ◌==◌, ◌&&◌, max, nat_lt, nat_le, Bool, true, false, List, [], ◌∷◌, ◌++◌, map}
use Rattle.std.specs.Prelude.{Option, Some, None, slice_get, slice_set, if◌then◌else◌}
use Rattle.sdls_base.specs.KeyId.{end_of}
use Rattle.sdls_world.specs.declared.world.Key.{Key}
use Rattle.sdls_world.specs.declared.world.Step.{Step}
use Rattle.sdls_world.specs.declared.world.Step.TheVariants.{Arm, Draw, Peek, Spend, See, Take, Give, Write, Sync, Lift}
use Rattle.sdls_world.specs.declared.world.Step.TheVariants.{RaiseNext, Turn, Crash}

-- an actor: the row that it is armed for, the number that it drew last, until it is used, and whether that one is
-- funded; and the numbers that it drew, that were funded and that it used since the words began
pub record Doer : Type 0 where
  pub id : ℕ
  pub armed : Option ℕ
  pub last : Option (ℕ × ℕ)
  pub is_funded : Bool
  pub drawn : List (ℕ × ℕ)
  pub funded : List (ℕ × ℕ)
  pub spent : List (ℕ × ℕ)

abbrev pub idle : ℕ → Doer
idle id = record { id = id; armed = None; last = None; is_funded = false; drawn = []; funded = []; spent = [] }

-- the keys by row, the actors, who holds the turn, the epoch, and the pairs that were used in all lives
pub record Core : Type 0 where
  pub keys : List Key
  pub actors : List Doer
  pub holder : Option ℕ
  pub epoch : ℕ
  pub used : List (ℕ × ℕ)

-- the first element that passes, with its place
abbrev pub further : {X : Type 0} → Option (ℕ × X) → Option (ℕ × X)
further None = None
further (Some f) = Some (suc f.0, f.1)

abbrev pub find_place : {X : Type 0} → (X → Bool) → List X → Option (ℕ × X)
find_place p [] = None
find_place p (x ∷ xs) = if p x then Some (0, x) else further (find_place p xs)

abbrev pub key_of : ℕ → List Key → Option (ℕ × Key)
key_of id keys = find_place (λ k. k.id == id) keys

abbrev pub doer_of : ℕ → List Doer → Option (ℕ × Doer)
doer_of id actors = find_place (λ a. a.id == id) actors

-- the world after a step on what was found, and as it was where nothing was
abbrev pub on_found : {X : Type 0} → Core → Option X → (X → Core) → Core
on_found w None f = w
on_found w (Some x) f = f x

abbrev pub holds_turn : ℕ → Option ℕ → Bool
holds_turn id None = false
holds_turn id (Some h) = h == id

-- the actor after one step of its own
abbrev pub drawing : ℕ → ℕ → Doer → Doer
drawing row n a = record a { armed = None; last = Some (row, n); is_funded = false; drawn = a.drawn ++ (row, n) ∷ [] }

abbrev pub funding : ℕ × ℕ → Doer → Doer
funding p a = record a { is_funded = true; funded = a.funded ++ p ∷ [] }

abbrev pub spending : ℕ × ℕ → Doer → Doer
spending p a = record a { last = None; is_funded = false; spent = a.spent ++ p ∷ [] }

-- an actor that has not stepped yet is idle
abbrev pub arm_found : List Doer → ℕ → ℕ → Option (ℕ × Doer) → List Doer
arm_found actors id row None = actors ++ (record (idle id) { armed = Some row }) ∷ []
arm_found actors id row (Some f) = slice_set actors f.0 (record f.1 { armed = Some row })

abbrev pub arm_step : Core → ℕ → ℕ × Key → Core
arm_step w id k =
    if nat_lt k.1.next (end_of k.1.id)
    then record w { actors = arm_found w.actors id k.0 (doer_of id w.actors) }
    else w

abbrev pub draw_at : Core → ℕ × Doer → ℕ → Option Key → Core
draw_at w a row None = w
draw_at w a row (Some k) =
    record w {
      keys = slice_set w.keys row (record k { next = k.next + 1 });
      actors = slice_set w.actors a.0
          (drawing row k.next a.1);
    }

abbrev pub draw_step : Core → ℕ × Doer → Option ℕ → Core
draw_step w a None = w
draw_step w a (Some row) = draw_at w a row (slice_get w.keys row)

abbrev pub peek_at : Core → ℕ × Doer → ℕ × ℕ → Option Key → Core
peek_at w a p None = w
peek_at w a p (Some k) = if nat_lt p.1 k.limit then record w { actors = slice_set w.actors a.0 (funding p a.1) } else w

abbrev pub peek_step : Core → ℕ × Doer → Bool → Option (ℕ × ℕ) → Core
peek_step w a funded None = w
peek_step w a true (Some p) = w
peek_step w a false (Some p) = peek_at w a p (slice_get w.keys p.0)

abbrev pub spend_step : Core → ℕ × Doer → Bool → Option (ℕ × ℕ) → Core
spend_step w a funded None = w
spend_step w a false (Some p) = w
spend_step w a true (Some p) = record w { actors = slice_set w.actors a.0 (spending p a.1); used = w.used ++ p ∷ [] }

abbrev pub take_step : Core → ℕ → Option ℕ → Core
take_step w id None = record w { holder = Some id }
take_step w id (Some h) = w

abbrev pub write_step : Core → ℕ → ℕ × Key → Core
write_step w mark k =
    if (nat_le k.1.mark mark) && (nat_le mark (end_of k.1.id)) then
    record w { keys = slice_set w.keys k.0 (record k.1 { mark = mark }) } else w

abbrev pub lift_step : Core → ℕ × Key → Core
lift_step w k = record w { keys = slice_set w.keys k.0 (record k.1 { limit = max k.1.limit k.1.durable }) }

abbrev pub raise_step : Core → ℕ → ℕ × Key → Core
raise_step w number k =
    if nat_le number (end_of k.1.id) then record w {
      keys = slice_set w.keys k.0
          (record k.1 { next = max k.1.next number });
    } else w

abbrev pub synced : Key → Key
synced k = record k { durable = k.mark }

abbrev pub restarted : Key → Key
restarted k = record k { next = k.durable; limit = k.durable; mark = k.durable }

-- what is open to the holder of the turn alone
abbrev pub if_holder : Core → ℕ → Core → Core
if_holder w id after = if holds_turn id w.holder then after else w

-- one step. One that is not open to its actor, or names a key that is not there, changes nothing
abbrev pub world_after : Core → Step → Core
world_after w (Arm actor key) = on_found w (key_of key w.keys) (arm_step w actor)
world_after w (Draw actor) = on_found w (doer_of actor w.actors) (λ a. draw_step w a a.1.armed)
world_after w (Peek actor) = on_found w (doer_of actor w.actors) (λ a. peek_step w a a.1.is_funded a.1.last)
world_after w (Spend actor) = on_found w (doer_of actor w.actors) (λ a. spend_step w a a.1.is_funded a.1.last)
world_after w (See actor) = w
world_after w (Take actor) = take_step w actor w.holder
world_after w (Give actor) = if_holder w actor (record w { holder = None })
world_after w (Write actor key mark) = if_holder w actor (on_found w (key_of key w.keys) (write_step w mark))
world_after w (Sync actor) = if_holder w actor (record w { keys = map synced w.keys })
world_after w (Lift actor key) = if_holder w actor (on_found w (key_of key w.keys) (lift_step w))
world_after w (RaiseNext actor key number) = if_holder w actor (on_found w (key_of key w.keys) (raise_step w number))
world_after w (Turn actor) = if_holder w actor (record
    w { epoch = if nat_lt w.epoch 18446744073709551615 then w.epoch + 1 else w.epoch })
world_after w Crash = record { keys = map restarted w.keys; actors = []; holder = None; epoch = 0; used = w.used }

abbrev pub world_after_all : Core → List Step → Core
world_after_all w [] = w
world_after_all w (s ∷ ss) = world_after_all (world_after w s) ss

-- the keys at the beginning, each with its durable mark
abbrev pub begun : ℕ × ℕ → Key
begun k = record { id = k.0; next = k.1; limit = k.1; mark = k.1; durable = k.1 }

abbrev pub beginning : List (ℕ × ℕ) → Core
beginning keys = record { keys = map begun keys; actors = []; holder = None; epoch = 0; used = [] }
