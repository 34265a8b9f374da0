-- Histories that go on.
use Rattle.std.proofs.Common.{◌≡◌, ℕ, zero, suc, ◌+◌, ◌≤◌, Bool, true, false, cond, List, [], ◌∷◌, ◌++◌, refl, arith}
use Rattle.sdls_base.specs.declared.entry.Entry.{Entry}
use Rattle.unit_state.specs.declared.state.State.{State}
use Rattle.unit_state.specs.Applied.{applied}
use Rattle.unit_state.specs.Restart.{counts}
use Rattle.unit_state.specs.History.{after_all, epoch_after, at_epoch}

pub after_more : (state : State) (entries more : List Entry)
    → after_all state (entries ++ more) ≡ after_all (after_all state entries) more
after_more state [] more = refl
after_more state (entry ∷ entries) more = after_more (applied state entry.change) entries more

pub epochs_more : (entries more : List Entry) → epoch_after (entries ++ more) ≡ epoch_after entries + epoch_after more
epochs_more [] more = omega arith
epochs_more (entry ∷ entries) more =
    let rest = epochs_more entries more in
    next (cond (counts entry.change) 1 0) (epoch_after (entries ++ more)) (epoch_after entries) (epoch_after more) rest
  where
    next : (n a b c : ℕ) → a ≡ b + c → n + a ≡ n + b + c
    next n a b c e = omega arith

reached_by : (b : Bool) (epoch rest : ℕ) → suc epoch ≤ cond b 1 0 + rest → cond b epoch (suc epoch) ≤ rest
reached_by true epoch rest h = omega arith
reached_by false epoch rest h = omega arith

-- an epoch that was reached keeps its state
pub at_epoch_more : (state : State) (entries more : List Entry) (epoch : ℕ) → epoch ≤ epoch_after entries
    → at_epoch state (entries ++ more) epoch ≡ at_epoch state entries epoch
at_epoch_more state [] [] zero reached = refl
at_epoch_more state [] (entry ∷ more) zero reached = refl
at_epoch_more state (entry ∷ entries) more zero reached = refl
at_epoch_more state [] more (suc epoch) reached = absurd (omega arith)
at_epoch_more state (entry ∷ entries) more (suc epoch) reached =
    at_epoch_more (applied state entry.change) entries more (cond (counts entry.change) epoch (suc epoch))
    (reached_by (counts entry.change) epoch (epoch_after entries) reached)
