use Rattle.std.proofs.Common.{ℕ, ◌-◌, ◌*◌, ◌/◌, List, length, replicate, bit_xor, ◌++◌, refl, ap, ◌∙◌, arith}
use Rattle.std.specs.Int.{w128, from_be_bytes}
use Rattle.std.proofs.lemmas.List.{take_rest}
use Rattle.gcm.specs.Field.{block_product}
use Rattle.gcm.specs.Folded.{folded}
use Rattle.gcm.specs.Gcm.{blocks}
use Rattle.gcm.proofs.BlockFacts.{fold_rest}
use Rattle.gcm.proofs.hash.fold_padded.Goals as goal

pub returns : goal.returns
returns c =
    let h : ℕ = c.args.table.now in
    let octets : List ℕ = c.args.octets.now in
    let w : ℕ = length octets / 16 * 16 in
    c.product.ensures
    ∙ ap (λ (y : ℕ). block_product (bit_xor y c.last_block.result) h) c.fold_whole-y.ensures
    ∙ ap (λ (x : ℕ). block_product (bit_xor (folded h c.args.start (blocks octets)) x) h)
    (c.last_block.ensures
    ∙ ap (λ (rest : List ℕ). from_be_bytes w128 (rest ++ replicate (16 - length rest) 0)) (take_rest octets w))
    ∙ fold_rest h c.args.start octets w refl (omega arith)
