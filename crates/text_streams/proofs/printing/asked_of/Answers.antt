use Rattle.std.proofs.Common.{sym, ◌∙◌}
use Rattle.input_text.specs.Monitor.{IsAsked}
use Rattle.text_streams.proofs.MessageOctets.{has_bytes}
use Rattle.text_streams.proofs.printing.asked_of.Goals as goal

pub returns-in-Ok-clause-bounds : goal.returns-in-Ok-clause-bounds
unfolding IsAsked
returns-in-Ok-clause-bounds c are =
    let found = c.in-Ok.ensures in
    (found.block, has_bytes c.in-Ok.message c.args.octets are.each (sym c.as_slice.ensures ∙ found.spelled))
