use Rattle.std.proofs.Common.{refl, ap}
use Rattle.input_text.proofs.Texts.{tail_is}
use Rattle.input_text.proofs.commands.from_direction.Goals as goal

pub returns-clause-only : goal.returns-clause-only
returns-clause-only c direction suite window covered width are small is =
    let behind = tail_is _ _ _ _ _ c.in_ok-direction.ensures.read is in
    let first = c.in_ok-direction.ensures.only direction _ is in
    let others = c.in_ok-suite.ensures.only suite window covered width are small behind in
    rw (first, ap (λ read. read.0) others, ap (λ read. read.1) others, ap (λ read. read.2) others) refl
