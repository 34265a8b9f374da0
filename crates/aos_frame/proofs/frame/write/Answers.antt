use Rattle.std.proofs.Common.{◌++◌, [], ap, ◌∙◌, drop}
use Rattle.std.specs.Prelude.{unwrap_or}
use Rattle.sdls_base.specs.ErrorControl.{with_error_control}
use Rattle.aos_frame.specs.AosFrame.{view}
use Rattle.aos_frame.proofs.frame.write.Goals as goal

pub returns-clause-written : goal.returns-clause-written
returns-clause-written c =
    let p = view c.args.parts.now in
    c.put_frame.ensures.written
    ∙ ap (λ l. with_error_control c.args.layout.now.fecf ((l ++ p.insert) ++ p.room ++ unwrap_or p.ocf [])
    ++ drop c.put_frame.result c.args.out.now) c.header_of.ensures
