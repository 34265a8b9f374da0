use Rattle.std.proofs.Common.{arith}
use Rattle.record_io.proofs.AnswerHeaders.{fields_spelled}
use Rattle.record_io.proofs.answers.answer_head.Goals as goal

pub returns-clause-spelled : goal.returns-clause-spelled
returns-clause-spelled c =
    fields_spelled c.args.header.now c.word_at.result c.double_word_at.result c.number_at.result c.number_at-2.result
    (λ i. omega (arith, c.type_inv.header i)) c.requires c.word_at.ensures c.double_word_at.ensures c.number_at.ensures
    c.number_at-2.ensures
