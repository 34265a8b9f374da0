use Rattle.input_text.proofs.AskedWords.{only_asked}
use Rattle.input_text.proofs.line.read_asked.Goals as goal

pub returns-clause-only : goal.returns-clause-only
returns-clause-only c = λ asked. only_asked c.by_word.result c.args.word.now c.args.fields.now asked
    c.by_word.ensures.octets c.by_word.ensures.block c.by_word.ensures.named
