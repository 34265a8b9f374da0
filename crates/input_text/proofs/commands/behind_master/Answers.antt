use Rattle.std.proofs.Common.{refl, ap}
use Rattle.input_text.proofs.Texts.{tail_is}
use Rattle.input_text.proofs.commands.behind_master.Goals as goal

pub returns-clause-only : goal.returns-clause-only
returns-clause-only c vector sealed tag are_vector twelve are_sealed bounds are_tag sixteen is =
    let behind = tail_is _ _ _ _ _ c.in_ok-vector.ensures.read is in
    let first = c.in_ok-vector.ensures.only vector _ are_vector twelve is in
    let others = c.in_ok-sealed.ensures.only sealed tag are_sealed bounds are_tag sixteen behind in
    rw (first, ap (λ read. read.0) others, ap (λ read. read.1) others) refl
