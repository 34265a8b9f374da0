use Rattle.std.proofs.Common.{◌≡◌, ◌++◌, take}
use Rattle.std.specs.List.{flat_map, All}
use Rattle.sdls_base.specs.Spelling.{item_octets}
use Rattle.book_record.specs.Record.{IsKey}
use Rattle.book_record.proofs.writing.put_items.Given as goal

abbrev pub invariant-loop-item : goal.invariant-loop-item
invariant-loop-item l = record {
  put : l.data_octets ≡ l.fn.data_octets ++ flat_map item_octets (take l.item-index l.items);
  types : All (λ item. IsKey item.id) (take l.item-index l.items);
}
