use Rattle.std.proofs.Common.{◌∙◌}
use Rattle.text_streams.proofs.StateWords.{read_as, read_each, words_are}
use Rattle.text_streams.proofs.state_line.read_state_line.Goals as goal

pub returns-clause-read : goal.returns-clause-read
returns-clause-read c = read_as c.line_of.result c.args.text.now c.of.result c.of.ensures c.line_of.ensures.read

pub returns-clause-only : goal.returns-clause-only
returns-clause-only c line is same =
    read_each c.line_of.result c.of.result c.line_of.ensures.slots c.line_of.ensures.key c.line_of.ensures.association
    line is
    (c.of.ensures ∙ words_are c.args.text.now line is same)
