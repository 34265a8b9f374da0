-- A MAC whose text comes in pieces.
use Rattle.std.specs.Prelude.{◌≡◌, ℕ, ◌*◌, List, length, drop}
use Rattle.cmac.specs.Cmac.{before_last, chain}

-- what is kept of a text: the key, the chain over the blocks that cannot be its last, and the octets
-- after them
pub record Kept : Type 0 where
  pub key : List ℕ
  pub chained : List ℕ
  pub rest : List ℕ

-- the text so far is m
pub record Holds (kept : Kept) (m : List ℕ) : Type 0 where
  pub chained : kept.chained ≡ chain kept.key m (before_last (length m))
  pub rest : kept.rest ≡ drop (16 * before_last (length m)) m
