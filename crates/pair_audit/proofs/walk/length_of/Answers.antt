use Rattle.std.proofs.Common.{ap, ◌∙◌, sym, arith}
use Rattle.std.specs.Int.{w32, to_be_bytes}
use Rattle.pair_audit.proofs.Runs.{spelled_length}
use Rattle.pair_audit.proofs.walk.length_of.Goals as goal

pub returns-clause-spelled : goal.returns-clause-spelled
returns-clause-spelled c =
    spelled_length c.args.octets.now (λ i. omega (arith, c.type_inv.octets i)) c.requires
    ∙ ap (to_be_bytes w32) (sym c.double_word_at.ensures)
