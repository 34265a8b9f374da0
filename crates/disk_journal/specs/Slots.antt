-- A row of slots (profile): one gate octet each, then a body.
use Rattle.std.specs.Prelude.{ℕ, zero, suc, ◌+◌, ◌==◌, if◌then◌else◌, List, [], ◌∷◌}
use Rattle.disk_journal.specs.declared.layout.TheConstants.{OPEN}

-- the bodies of n slots from slot i on, up to the first whose gate is not open
abbrev pub gated : (ℕ → ℕ) → (ℕ → List ℕ) → ℕ → ℕ → List (List ℕ)
gated gate body zero i = []
gated gate body (suc n) i = if gate i == OPEN then body i ∷ gated gate body n (i + 1) else []
