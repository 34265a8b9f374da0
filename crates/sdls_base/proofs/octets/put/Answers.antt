use Rattle.std.proofs.Common.{◌+◌, ◌-◌, arith, ap, length}
use Rattle.std.proofs.lemmas.Slice.{drop-put_mid}
use Rattle.sdls_base.proofs.octets.put.Goals as goal

pub returns-clause-rest : goal.returns-clause-rest
returns-clause-rest c =
    drop-put_mid c.args.at (c.args.at + length c.args.octets.now - c.args.at) c.args.out.now c.copy_from_slice.new.self
    _ (omega arith) (omega arith)
    (omega (arith, ap length c.copy_from_slice.ensures.after))
