-- What was kept of the image stands where it stood before.
use Rattle.std.proofs.Common.{◌≡◌, ◌+◌, ◌-◌, List, ℕ, ◌++◌, length, take, drop, min, ◌∙◌, ap, arith}
use Rattle.std.proofs.lemmas.Grind.{common_steps}
use Rattle.sdls_outside.specs.Site.{overwritten}
use Rattle.sdls_outside.proofs.Undos.{write_undone, written_over}
use Rattle.sdls_outside.proofs.history.Undo.of.Goals as goal

pub returns-clause-undone : goal.returns-clause-undone
returns-clause-undone c =
    let image = c.args.image.now in
    let octets = c.args.octets.now in
    let at = c.args.at in
    let fewest : c.min.result ≡ min (length octets) (length image - at) = grind (arith, common_steps) in
    let kept = c.in_ok-from_slice.ensures.items ∙ written_over image octets at c.min.result fewest in
    let written = overwritten image at octets in
    ap (λ (before : List ℕ). take at written ++ before ++ drop (at + length octets) written) kept
    ∙ write_undone image octets at c.requires
