use Rattle.std.proofs.Common.{◌≡◌, ◌++◌, take}
use Rattle.ep_codec.specs.Command.{AreKeys, keys_data}
use Rattle.ep_codec.proofs.command_writing.put_keys.Given as goal

abbrev pub invariant-loop-key : goal.invariant-loop-key
invariant-loop-key l = record {
  octets : l.out.items ≡ l.fn.out.items ++ keys_data (take l.key-index l.keys);
  types : AreKeys (take l.key-index l.keys);
}
