use Rattle.std.proofs.Common.{◌≡◌, ◌+◌, ◌++◌, length}
use Rattle.sdls_base.specs.FirstFailing.{first_failing}
use Rattle.ep_codec.specs.FieldList.{keys_in, key_checks}
use Rattle.ep_codec.proofs.fields.keys.Given as goal

abbrev pub invariant-loop-rest : goal.invariant-loop-rest
invariant-loop-rest l = record {
  place : l.next + length l.rest ≡ l.at + length l.octets;
  faults : first_failing (key_checks l.next l.rest) ≡ first_failing (key_checks l.at l.octets);
  read : l.keys.items ++ keys_in l.rest ≡ keys_in l.octets;
}

abbrev pub decreases-loop-rest : goal.decreases-loop-rest
decreases-loop-rest l = length l.rest
