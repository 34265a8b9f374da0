-- The numbers of a list, as they are read one after the other.
use Rattle.std.proofs.Common.{ℕ, List, ◌++◌, Option, Some, None}

-- numbers that were read, and those of the rest
abbrev pub with_rest : List ℕ → Option (List ℕ) → Option (List ℕ)
with_rest numbers None = None
with_rest numbers (Some others) = Some (numbers ++ others)
