use Rattle.std.proofs.Common.{sym, ◌∙◌}
use Rattle.input_text.specs.Line.{IsLine}
use Rattle.text_streams.proofs.MessageOctets.{has_octets}
use Rattle.text_streams.proofs.printing.command_line.Goals as goal

pub returns-in-Ok-clause-bounds : goal.returns-in-Ok-clause-bounds
unfolding IsLine
returns-in-Ok-clause-bounds c is =
    let found = c.in-Ok.ensures.found in (
      is.0,
      record {
        types = found.types;
        bounds = found.bounds;
        octets = has_octets c.in-Ok.command c.args.octets is.1.each (sym c.as_slice.ensures ∙ found.spelled);
      },
    )
