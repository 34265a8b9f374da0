use Rattle.std.proofs.Common.{arith, rules}
use Rattle.record_io.proofs.AnswerHeaders.{unknown_front}
use Rattle.record_io.proofs.answers.known_head.Goals as goal

pub returns-then-not-is_code : goal.returns-then-not-is_code
returns-then-not-is_code c =
    let size = c.requires in
    unknown_front c.args.header.now (λ i. omega (arith, c.type_inv.header i)) (omega arith) (search rules)
