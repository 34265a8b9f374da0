use Rattle.std.proofs.Common.{◌++◌, ◌∙◌, subst, length, ap, arith, length-append, take}
use Rattle.std.specs.List.{flat_map}
use Rattle.std.proofs.lemmas.List.Folds.{length-flat_map-take}
use Rattle.sdls_base.specs.declared.key_id.KeyItem.{KeyItem}
use Rattle.sdls_base.specs.Spelling.{item_octets}
use Rattle.book_record.specs.Record.{IsKey}
use Rattle.book_record.proofs.Lists.{all_next, octets_next}
use Rattle.book_record.proofs.writing.put_items.Goals as goal

pub put_item-requires-clause-room : goal.put_item-requires-clause-room
put_item-requires-clause-room c =
    let room = length-flat_map-take item_octets c.args.items.now c.loop-item.item-index c.item-item.result
    c.loop-item-test.true in
    let there = ap length c.loop-item.invariant.put in
    let item = ap (λ i. length (item_octets i)) c.item-item.is in
    omega (
      arith,
      room,
      there,
      item,
      c.requires.room,
      length-append c.args.data_octets.now (flat_map item_octets (take c.loop-item.item-index c.args.items.now)),
    )

pub loop-item-preserved : goal.loop-item-preserved
loop-item-preserved c = record {
  put = c.put_item.ensures.put
      ∙ ap (λ s. s ++ item_octets c.item-item.result) c.loop-item.invariant.put
      ∙ ap (λ item. (c.args.data_octets.now ++ flat_map item_octets (take c.loop-item.item-index c.args.items.now))
      ++ item_octets item) c.item-item.is
      ∙ octets_next item_octets c.args.data_octets.now c.args.items.now c.loop-item.item-index c.item-item.result
      c.loop-item-test.true;
  types = all_next (λ item. IsKey item.id) c.args.items.now c.loop-item.item-index c.item-item.result
      c.loop-item-test.true c.loop-item.invariant.types
      (subst (λ (item : KeyItem). IsKey item.id) c.item-item.is c.put_item.ensures.types);
}
