use Rattle.std.proofs.Common.{arith, ◌∙◌, ap, get_or, ◌≡◌}
use Rattle.sdls_base.specs.Fields.{bit}
use Rattle.sdls_base.proofs.FieldLemmas.{cells_six, bool_byte_is, bit_small}
use Rattle.aos_frame.specs.AosFrame.{view}
use Rattle.aos_frame.proofs.Words.{header_cells, first_word, signals_octet}
use Rattle.aos_frame.proofs.frame.header_of.Goals as goal

pub returns : goal.returns
returns c =
    let p = c.args.parts.now in
    let first = first_word c.from.result c.from-2.result (omega (arith, c.from.ensures, c.requires.spacecraft))
    (omega (arith, c.from-2.ensures, c.requires.channel)) in
    let replay : c.from-3.result ≡ bit p.replay = c.from-3.ensures ∙ bool_byte_is p.replay in
    let cycle_use : c.from-4.result ≡ bit p.cycle_use = c.from-4.ensures ∙ bool_byte_is p.cycle_use in
    let signals = signals_octet c.from-3.result c.from-4.result p.cycle (omega (arith, replay, bit_small p.replay))
    (omega (arith, cycle_use, bit_small p.cycle_use)) c.requires.cycle in
    rw (header_cells (view p) c.requires.spacecraft c.requires.channel c.requires.count c.requires.cycle)
    (cells_six
    (ap (λ l. get_or l 0 0) c.to_be_bytes.ensures ∙ omega (
      arith,
      first,
      c.from.ensures,
      c.from-2.ensures,
      c.requires.spacecraft,
      c.requires.channel,
    ))
    (ap (λ l. get_or l 1 0) c.to_be_bytes.ensures ∙ omega (
      arith,
      first,
      c.from.ensures,
      c.from-2.ensures,
      c.requires.spacecraft,
      c.requires.channel,
    ))
    (ap (λ l. get_or l 1 0) c.to_be_bytes-2.ensures ∙ omega (arith, c.requires.count))
    (ap (λ l. get_or l 2 0) c.to_be_bytes-2.ensures ∙ omega (arith, c.requires.count))
    (ap (λ l. get_or l 3 0) c.to_be_bytes-2.ensures ∙ omega (arith, c.requires.count))
    (signals ∙ omega (arith, replay, cycle_use)))
