use Rattle.std.proofs.Common.{◌≡◌, ℕ, ◌+◌, ◌*◌, List, drop}
use Rattle.cmac.specs.Cmac.{chain}
use Rattle.cmac.proofs.block.chained_over.Given as goal

abbrev pub invariant-blocks-2 : goal.invariant-blocks-2
invariant-blocks-2 l = (whole : List ℕ) (before : ℕ) → l.fn.chained ≡ chain l.key whole before
    → l.text ≡ drop (16 * before) whole → l.last ≡ chain l.key whole (before + l.i)
