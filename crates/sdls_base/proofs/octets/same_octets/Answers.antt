use Rattle.sdls_base.proofs.Differences.{told-bytes_eq}
use Rattle.sdls_base.proofs.octets.same_octets.Goals as goal

pub returns-then-left-right : goal.returns-then-left-right
returns-then-left-right c = told-bytes_eq c.differences.result c.args.left.now c.args.right.now c.differences.ensures
