use Rattle.std.proofs.Common.{◌≡◌, ◌+◌, ◌-◌, subst, arith}
use Rattle.aes_block.specs.Aes.{octet_product, inverse}
use Rattle.aes_block.proofs.OctetFacts.{times_inverse}
use Rattle.aes_block.proofs.substitution.inverse_is_inverse.Goals as goal

pub returns : goal.returns
returns c = λ a some lt.
    let here : a - 1 + 1 ≡ a = omega arith in
    subst (λ b. octet_product b (inverse b) ≡ 1) here (times_inverse (a - 1) (omega arith))
