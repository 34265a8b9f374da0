use Rattle.std.proofs.Common.{◌++◌, ◌∙◌, subst, length, ap, arith, length-append, take}
use Rattle.std.specs.List.{flat_map}
use Rattle.std.specs.Int.{w16, to_be_bytes}
use Rattle.std.proofs.lemmas.List.Folds.{length-flat_map-take}
use Rattle.book_record.specs.Record.{IsKey}
use Rattle.book_record.proofs.Lists.{all_next, octets_next}
use Rattle.book_record.proofs.writing.put_keys.Goals as goal

pub put_word-requires : goal.put_word-requires
put_word-requires c =
    let room = length-flat_map-take (to_be_bytes w16) c.args.keys.now c.loop-key.key-index 0 c.loop-key-test.true in
    omega (
      arith,
      room,
      ap length c.loop-key.invariant.put,
      c.requires,
      length-append c.args.data_octets.now (flat_map (to_be_bytes w16) (take c.loop-key.key-index c.args.keys.now)),
    )

pub loop-key-preserved : goal.loop-key-preserved
loop-key-preserved c = record {
  put = c.put_word.ensures
      ∙ ap (λ s. s ++ to_be_bytes w16 c.get.result) c.loop-key.invariant.put
      ∙ ap (λ key. (c.args.data_octets.now ++ flat_map (to_be_bytes w16) (take c.loop-key.key-index c.args.keys.now))
      ++ to_be_bytes w16 key) (c.get.ensures.number ∙ c.key-item.is)
      ∙ octets_next (to_be_bytes w16) c.args.data_octets.now c.args.keys.now c.loop-key.key-index c.key-item.result
      c.loop-key-test.true;
  types = all_next IsKey c.args.keys.now c.loop-key.key-index c.key-item.result c.loop-key-test.true
      c.loop-key.invariant.types
      (subst IsKey (c.get.ensures.number ∙ c.key-item.is) (c.get.ensures.bounds, c.get.type_inv));
}
