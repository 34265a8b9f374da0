use Rattle.std.proofs.Common.{◌≡◌, ◌+◌, ◌≤◌, length}
use Rattle.sdls_base.specs.FirstFailing.{first_failing}
use Rattle.ep_codec.specs.FieldList.{channel_checks}
use Rattle.ep_codec.proofs.fields.channels.Given as goal

abbrev pub invariant-loop-rest : goal.invariant-loop-rest
invariant-loop-rest l = record {
  place : l.next + length l.rest ≡ l.at + length l.octets;
  faults : first_failing (channel_checks l.next l.least l.rest) ≡ first_failing (channel_checks l.at 0 l.octets);
  small : l.least ≤ 64;
}

abbrev pub decreases-loop-rest : goal.decreases-loop-rest
decreases-loop-rest l = length l.rest
