-- The history of a run: its entries, each with a change, in order (profile).
use Rattle.std.specs.Prelude.{ℕ, zero, suc, ◌+◌, if◌then◌else◌, List, [], ◌∷◌, take}
use Rattle.sdls_base.specs.declared.entry.Entry.{Entry}
use Rattle.unit_state.specs.declared.state.State.{State}
use Rattle.unit_state.specs.Applied.{applied}
use Rattle.unit_state.specs.Restart.{counts}

-- the state after the changes of all entries
abbrev pub after_all : State → List Entry → State
after_all state [] = state
after_all state (entry ∷ entries) = after_all (applied state entry.change) entries

-- the state after the first p entries
abbrev pub after_first : State → List Entry → ℕ → State
after_first state entries p = after_all state (take p entries)

-- the epoch after the entries: how many of them count
abbrev pub epoch_after : List Entry → ℕ
epoch_after [] = 0
epoch_after (entry ∷ entries) = (if counts entry.change then 1 else 0) + epoch_after entries

-- the state after the entry that made the epoch this one, and the first state for epoch 0
abbrev pub at_epoch : State → List Entry → ℕ → State
at_epoch state entries zero = state
at_epoch state [] (suc epoch) = state
at_epoch state (entry ∷ entries) (suc epoch) =
    at_epoch (applied state entry.change) entries (if counts entry.change then epoch else suc epoch)
