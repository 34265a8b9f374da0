use Rattle.std.proofs.Common.{ℕ, List, [], ◌∷◌, ◌++◌, get_or, ◌∙◌, ap, arith}
use Rattle.std.specs.Int.{w64, to_be_bytes}
use Rattle.sdls_header.proofs.Splits.{four_cells}
use Rattle.sdls_header.proofs.splitting.wide_octets.Goals as goal

pub returns : goal.returns
returns c =
    let s : List ℕ = c.args.device in
    ap (λ r. get_or s 0 0 ∷ get_or s 1 0 ∷ get_or s 2 0 ∷ get_or s 3 0 ∷ get_or r 0 0 ∷ get_or r 1 0 ∷ get_or r 2 0
    ∷ get_or r 3 0
    ∷ get_or r 4 0 ∷ get_or r 5 0 ∷ get_or r 6 0 ∷ get_or r 7 0 ∷ []) c.to_be_bytes.ensures
    ∙ ap (λ l. l ++ to_be_bytes w64 c.args.number) (four_cells s (omega arith))
