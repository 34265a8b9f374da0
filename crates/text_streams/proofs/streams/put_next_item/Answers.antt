use Rattle.std.proofs.Common.{◌≡◌, ◌++◌, ◌∙◌, ap, refl, rules}
use Rattle.record_io.specs.declared.item_cursor.NextItem.TheVariants as nexts
use Rattle.record_io.specs.NextItem.{item_found}
use Rattle.record_io.proofs.NextItems.{end_stands, item_stands, none_stands}
use Rattle.text_streams.proofs.ItemProgress.{line_is}
use Rattle.text_streams.proofs.streams.put_next_item.Goals as goal

pub returns-in-Ok-End-clause-fails : goal.returns-in-Ok-End-clause-fails
returns-in-Ok-End-clause-fails g c told sunk =
    let is : c.in-Ok-End.field-0 ≡ nexts.End = search rules in
    (end_stands _ _ c.in-Ok-End.field-0 is (c.in-Ok-End.ensures.stands told), refl)

pub returns-in-Ok-NoItem-clause-fails : goal.returns-in-Ok-NoItem-clause-fails
returns-in-Ok-NoItem-clause-fails g c told sunk =
    let is : c.in-Ok-NoItem.field-0 ≡ nexts.NoItem = search rules in
    let stands = none_stands _ _ c.in-Ok-NoItem.field-0 is (c.in-Ok-NoItem.ensures.stands told) in
    (refl, stands.0, stands.1, refl)

pub returns-in-Ok-clause-puts : goal.returns-in-Ok-clause-puts
returns-in-Ok-clause-puts g c told sunk =
    let found = c.in-Ok-Item.found in
    let is : c.in-Ok-Item.field-0 ≡ nexts.Item found = search rules in
    let stands = item_stands _ _ c.in-Ok-Item.field-0 found is (c.in-Ok-Item.ensures.stands told) in
    let adds = c.in_default.ensures stands.1 in
    let line : c.as_slice.result.now ≡ adds.0 =
    c.as_slice.ensures.value ∙ line_is _ _ _ c.new-line.ensures.items adds.2 in (
      adds.0,
      record {
        item = item_found found;
        is_item = stands.1;
        taken = stands.0;
        spells = adds.1;
        passed = c.offset_behind-behind.ensures;
      },
      c.in-Ok.ensures.put sunk ∙ ap (λ xs. (g.O.Site.trace c.args.sink.now).now.sunk ++ xs) line,
    )

pub returns-clause-fails : goal.returns-clause-fails
returns-clause-fails g c told sunk =
    let found = c.in-Ok-Item.found in
    let is : c.in-Ok-Item.field-0 ≡ nexts.Item found = search rules in
    let stands = item_stands _ _ c.in-Ok-Item.field-0 found is (c.in-Ok-Item.ensures.stands told) in
    let adds = c.in_default.ensures stands.1 in
    let line : c.as_slice.result.now ≡ adds.0 =
    c.as_slice.ensures.value ∙ line_is _ _ _ c.new-line.ensures.items adds.2 in (
      c.offset_behind-behind.result,
      g.S.Source.left c.next_item.new.source,
      adds.0,
      record {
        item = item_found found;
        is_item = stands.1;
        taken = stands.0;
        spells = adds.1;
        passed = c.offset_behind-behind.ensures;
      },
      rw line at (c.in-Err-put_octets.ensures.front sunk),
    )
