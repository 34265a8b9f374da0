use Rattle.std.proofs.Common.{◌-◌, arith, ◌∙◌, ap, get_or, ◌≡◌, refl}
use Rattle.sdls_base.specs.Fields.{bit}
use Rattle.sdls_base.proofs.FieldLemmas.{cells_five, bool_byte_is, bit_small}
use Rattle.tc_frame.specs.TcFrame.{view}
use Rattle.tc_frame.proofs.Words.{header_cells, first_word, second_word}
use Rattle.tc_frame.proofs.frame.header_of.Goals as goal

pub returns : goal.returns
returns c =
    let p = c.args.parts.now in
    let bypass : c.from.result ≡ bit p.bypass = c.from.ensures ∙ bool_byte_is p.bypass in
    let control : c.from-2.result ≡ bit p.control = c.from-2.ensures ∙ bool_byte_is p.control in
    let first = first_word c.from.result c.from-2.result p.spacecraft (omega (arith, bypass, bit_small p.bypass))
    (omega (arith, control, bit_small p.control)) c.requires.spacecraft in
    let second = second_word c.from-3.result (c.args.length - 1) (omega (arith, c.from-3.ensures, c.requires.channel))
    (omega (arith, c.requires.least, c.requires.most)) in
    rw (header_cells (view p) c.args.length c.requires.spacecraft c.requires.channel c.requires.sequence
    c.requires.most)
    (cells_five
    (ap (λ l. get_or l 0 0) c.to_be_bytes.ensures ∙ omega (
      arith,
      first,
      bypass,
      control,
      c.requires.spacecraft,
      bit_small p.bypass,
      bit_small p.control,
    ))
    (ap (λ l. get_or l 1 0) c.to_be_bytes.ensures ∙ omega (
      arith,
      first,
      bypass,
      control,
      c.requires.spacecraft,
      bit_small p.bypass,
      bit_small p.control,
    ))
    (ap (λ l. get_or l 0 0) c.to_be_bytes-2.ensures ∙ omega (
      arith,
      second,
      c.from-3.ensures,
      c.requires.channel,
      c.requires.least,
      c.requires.most,
    ))
    (ap (λ l. get_or l 1 0) c.to_be_bytes-2.ensures ∙ omega (
      arith,
      second,
      c.from-3.ensures,
      c.requires.channel,
      c.requires.least,
      c.requires.most,
    ))
    refl)
