use Rattle.std.proofs.Common.{◌≡◌, sym, ap, ◌∙◌, rules, inl, inr}
use Rattle.hex.specs.Hex.{encode_lower}
use Rattle.hex.proofs.HexLemmas.{decode_of-ok}
use Rattle.text_words.proofs.Numbers.{ok_is}
use Rattle.input_text.proofs.Texts.{octets_decoded}
use Rattle.input_text.proofs.fields.octets_of.Goals as goal

pub returns-then-eq-clause-read : goal.returns-then-eq-clause-read
returns-then-eq-clause-read c = (search rules, (decode_of-ok c.args.word.now c.in-Ok.octets.items c.in-Ok.ensures.ok).3)

pub returns-then-eq-clause-only : goal.returns-then-eq-clause-only
returns-then-eq-clause-only c octets bytes is = ok_is _ _ _ c.in-Ok.ensures.ok (octets_decoded octets _ bytes is)

pub returns-else-eq-clause-only : goal.returns-else-eq-clause-only
returns-else-eq-clause-only c octets bytes is =
    let value = ok_is _ _ _ c.in-Ok.ensures.ok (octets_decoded octets _ bytes is) in
    let same : c.as_bytes.result.now ≡ c.args.word.now = search (rules, ap encode_lower value, is) in
    absurd (search rules)

pub returns-in_default-clause-only : goal.returns-in_default-clause-only
returns-in_default-clause-only c octets bytes is =
    elim c.in-Err.ensures.err [
      | inl memory ↦ absurd (c.in_default.not-OutOfMemory memory)
      | inr bad ↦ cc (sym bad ∙ octets_decoded octets _ bytes is)
    ]
