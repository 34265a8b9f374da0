use Rattle.std.proofs.Common.{ap, arith, sym, refl, ◌∙◌}
use Rattle.text_streams.proofs.StateWords.{rest_is, some_is}
use Rattle.text_streams.proofs.state_line.key.Goals as goal

pub returns-clause-only : goal.returns-clause-only
returns-clause-only c id state mark floor some small mark_small floor_small is =
    let behind = rest_is (sym c.in_ok-id.ensures.read.0 ∙ is) in
    let first = some_is (c.in_ok-id.ensures.only id _ (omega (arith, some)) (omega (arith, small)) is) in
    let others = some_is (c.in_ok-state.ensures.only state mark floor mark_small floor_small behind) in
    rw (first, ap (λ read. read.0) others, ap (λ read. read.1) others, ap (λ read. read.2) others) refl
