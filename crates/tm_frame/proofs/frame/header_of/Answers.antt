use Rattle.std.proofs.Common.{◌*◌, ◌^◌, ◌%◌, arith, ◌∙◌, ap, sym, get_or, ◌≡◌, refl}
use Rattle.std.specs.Prelude.{is_some, bit_or}
use Rattle.sdls_base.specs.Fields.{bit}
use Rattle.sdls_base.proofs.FieldLemmas.{cells_six, bool_byte_is, bit_small}
use Rattle.tm_frame.specs.TmFrame.{view}
use Rattle.tm_frame.proofs.Words.{header_cells, low_word, first_word, is_some-option_map}
use Rattle.tm_frame.proofs.frame.header_of.Goals as goal

pub returns : goal.returns
returns c =
    let p = view c.args.parts.now in
    let ocf : c.from-2.result ≡ bit (is_some p.ocf) =
    c.from-2.ensures ∙ bool_byte_is c.is_some.result
    ∙ ap bit (c.is_some.ensures ∙ sym (is_some-option_map (λ field. field.now) c.args.parts.now.ocf)) in
    let small = bit_small (is_some p.ocf) in
    let low = low_word c.from.result c.from-2.result (omega (arith, c.from.ensures, c.requires.channel))
    (omega (arith, ocf, small)) in
    let first = first_word p.spacecraft (bit_or (c.from.result * 2 ^ 1 % 2 ^ 16) c.from-2.result) c.requires.spacecraft
    (omega (arith, low, ocf, small, c.from.ensures, c.requires.channel)) in
    rw (header_cells p c.requires.spacecraft c.requires.channel c.requires.master_count c.requires.channel_count
    c.requires.status)
    (cells_six
    (ap (λ l. get_or l 0 0) c.to_be_bytes.ensures ∙ omega (
      arith,
      first,
      low,
      ocf,
      small,
      c.from.ensures,
      c.requires.spacecraft,
      c.requires.channel,
    ))
    (ap (λ l. get_or l 1 0) c.to_be_bytes.ensures ∙ omega (
      arith,
      first,
      low,
      ocf,
      small,
      c.from.ensures,
      c.requires.spacecraft,
      c.requires.channel,
    ))
    refl
    refl
    (ap (λ l. get_or l 0 0) c.to_be_bytes-2.ensures ∙ omega (arith, c.requires.status))
    (ap (λ l. get_or l 1 0) c.to_be_bytes-2.ensures ∙ omega (arith, c.requires.status)))
