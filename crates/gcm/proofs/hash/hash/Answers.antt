use Rattle.std.proofs.Common.{ℕ, ◌<◌, ◌^◌, bit_xor, ap, subst, ◌∙◌}
use Rattle.gcm.specs.Field.{block_product}
use Rattle.gcm.specs.Folded.{folded}
use Rattle.gcm.specs.Gcm.{blocks, padded}
use Rattle.gcm.proofs.BlockFacts.{hash_is}
use Rattle.gcm.proofs.hash.hash.Goals as goal

pub returns : goal.returns
returns c =
    let h : ℕ = c.args.table.now in
    let y : ℕ = c.fold_padded-y.result in
    c.product.ensures
    ∙ ap (λ (x : ℕ). block_product (bit_xor y x) h) c.lengths.ensures
    ∙ hash_is h y c.args.aad.now c.args.text.now (subst (λ (k : ℕ). k < 2 ^ 128) c.table.view_is c.table.invariant.fits)
    (c.fold_padded-y.ensures ∙ ap (λ (s : ℕ). folded h s (blocks (padded c.args.text.now))) c.fold_padded.ensures)
