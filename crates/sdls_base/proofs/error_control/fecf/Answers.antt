use Rattle.std.proofs.Common.{arith, refl, rules, sym, subst}
use Rattle.sdls_base.specs.ErrorControl.{frame_error_control, dividend, IsRemainder}
use Rattle.sdls_base.proofs.Remainders.{frame_error_control-remainder, one_remainder}
use Rattle.sdls_base.proofs.error_control.fecf.Goals as goal

pub eights-init : goal.eights-init
unfolding frame_error_control
eights-init c = refl

pub returns-clause-register : goal.returns-clause-register
unfolding frame_error_control
returns-clause-register c = search rules

pub returns-clause-remainder : goal.returns-clause-remainder
returns-clause-remainder c =
    subst (λ r. IsRemainder (dividend c.args.octets.now) r) (sym (returns-clause-register c))
    (frame_error_control-remainder c.args.octets.now (λ i. omega (arith, c.type_inv.octets i)))

pub returns-clause-only : goal.returns-clause-only
returns-clause-only c = λ r is. one_remainder (dividend c.args.octets.now) r c.fold.result is
    (returns-clause-remainder c)
