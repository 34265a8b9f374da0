use Rattle.std.proofs.Common.{arith}
use Rattle.std.proofs.lemmas.Grind.{common_steps}
use Rattle.sdls_header.proofs.Splits.{one_split}
use Rattle.sdls_header.proofs.splitting.split.Goals as goal

pub returns-clause-only : goal.returns-clause-only
returns-clause-only c = λ pieces is. one_split c.args.suite c.args.room.now _ pieces (grind (arith, common_steps)) is
