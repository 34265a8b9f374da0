use Rattle.std.proofs.Common.{◌≡◌, ◌++◌, take}
use Rattle.std.specs.List.{flat_map}
use Rattle.ep_codec.specs.ReplyPdu.{AreKeyRows, row_octets}
use Rattle.ep_codec.proofs.reply_writing.put_rows.Given as goal

abbrev pub invariant-loop-row : goal.invariant-loop-row
invariant-loop-row l = record {
  octets : l.out.items ≡ l.fn.out.items ++ flat_map row_octets (take l.row-index l.rows);
  types : AreKeyRows (take l.row-index l.rows);
}
