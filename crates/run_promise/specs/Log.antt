-- What books and laws say of a run beside the claim: the lines of its log, and which entries are stored (profile).
use Rattle.std.specs.Prelude.{ℕ, List, [], ◌∷◌, ◌++◌, Bool, is_some}
use Rattle.sdls_base.specs.declared.entry.Entry.{Entry}
use Rattle.sdls_base.specs.declared.entry.Logged.{Logged}
use Rattle.sdls_base.specs.declared.entry.Logged.TheVariants as logged
use Rattle.unit_state.specs.declared.state.State.{State}
use Rattle.unit_state.specs.Restart.{stored_as}

-- ---- the lines of a log

-- the entries of a log, and the octets of its pieces
abbrev pub entries_of : List Logged → List Entry
entries_of [] = []
entries_of (logged.Entry entry ∷ log) = entry ∷ entries_of log
entries_of (logged.Piece octets ∷ log) = entries_of log

abbrev pub pieces_of : List Logged → List ℕ
pieces_of [] = []
pieces_of (logged.Entry entry ∷ log) = pieces_of log
pieces_of (logged.Piece octets ∷ log) = octets ++ pieces_of log

-- ---- what is stored

-- something is stored for the entry
abbrev pub IsStored : State → Entry → Bool
IsStored state entry = is_some (stored_as state entry.change)
