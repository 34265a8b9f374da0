use Rattle.std.proofs.Common.{◌≡◌, length, ap, arith, length-append}
use Rattle.std.proofs.lemmas.List.{length-take}
use Rattle.ep_codec.proofs.FieldFacts.{in_bounds}
use Rattle.ep_codec.specs.ReplyPdu.{IsInBounds}
use Rattle.ep_core.specs.Step.{clear_text}
use Rattle.ep_core.proofs.sealing.seal_reply.Goals as goal

pub returns-clause-bounds : goal.returns-clause-bounds
unfolding IsInBounds
returns-clause-bounds c =
    let long : length c.new.result ≡ length (clear_text c.args.state.now c.args.keys.now) =
    omega (
      arith,
      simp (length-take, length-append) at (ap length c.new.ensures),
      c.seal_in_place-tag.auto.text,
      c.deref_mut.ensures.len,
      ap length c.deref_mut.ensures.value,
      ap length c.in_ok-sealed.ensures,
    ) in
    in_bounds 19 280 (length c.new.result) (omega arith) (omega arith)
