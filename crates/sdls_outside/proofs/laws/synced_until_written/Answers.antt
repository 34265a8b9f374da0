use Rattle.sdls_outside.proofs.Moments.{synced_leaves, sank_synced}
use Rattle.sdls_outside.proofs.laws.synced_until_written.Goals as goal

pub returns : goal.returns
returns c = record { leaves = synced_leaves; sinks = sank_synced }
