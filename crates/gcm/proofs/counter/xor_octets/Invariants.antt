use Rattle.std.proofs.Common.{◌+◌, ◌≤◌}
use Rattle.gcm.specs.Counter.{XorsPad}
use Rattle.gcm.proofs.counter.xor_octets.Given as goal

abbrev pub invariant-octets : goal.invariant-octets
invariant-octets l = record {
  xored : XorsPad l.start l.k l.pad l.fn.text l.text;
  within : l.k ≤ l.start + 16;
}
