use Rattle.std.proofs.Common.{◌≡◌, ◌++◌, take}
use Rattle.std.specs.List.{flat_map, All}
use Rattle.std.specs.Int.{w16, to_be_bytes}
use Rattle.book_record.specs.Record.{IsKey}
use Rattle.book_record.proofs.writing.put_keys.Given as goal

abbrev pub invariant-loop-key : goal.invariant-loop-key
invariant-loop-key l = record {
  put : l.data_octets ≡ l.fn.data_octets ++ flat_map (to_be_bytes w16) (take l.key-index l.keys);
  types : All IsKey (take l.key-index l.keys);
}
