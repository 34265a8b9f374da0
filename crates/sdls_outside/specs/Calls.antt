-- Calls that are numbered, some of them to fail (profile).
use Rattle.std.specs.Prelude.{◌≡◌, ℕ, ◌+◌, ◌-◌, ◌^◌, ◌==◌, ◌||◌, nat_le, min, Bool, false, List, Option, Result, is_err}
use Rattle.std.specs.List.{list_any}
use Rattle.std.specs.Option.{option_map_or}
use Rattle.sdls_outside.specs.declared.calls.Calls.{Calls}

-- the calls that are to fail, the call from which on all do, and how many calls were made
pub record Plan : Type 0 where
  pub failing : List ℕ
  pub dead_from : Option ℕ
  pub made : ℕ

-- no call was made yet
abbrev pub planned : List ℕ → Option ℕ → Plan
planned failing dead_from = record { failing = failing; dead_from = dead_from; made = 0 }

-- one more, up to the last value that a count has
abbrev pub counted : ℕ → ℕ
counted n = min (n + 1) (2 ^ 64 - 1)

-- whether the next call is to fail: it is listed, counted from 0, or the device is dead by then
abbrev pub fails_next : Plan → Bool
fails_next plan =
    list_any (λ call. call == plan.made) plan.failing || option_map_or (λ from. nat_le from plan.made) plan.dead_from
    false

-- a call was made that failed just where it was to fail
pub record FailsWhenDue {T E : Type 0} (old new : Plan) (result : Result T E) : Type 0 where
  pub fails : is_err result ≡ fails_next old
  pub counts : new ≡ record old { made = counted old.made }

abbrev pub plan_of : Calls → Plan
plan_of calls = record { failing = calls.failing.items; dead_from = calls.dead_from; made = calls.made }
