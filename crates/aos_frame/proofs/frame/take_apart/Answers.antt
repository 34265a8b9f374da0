use Rattle.std.proofs.Common.{◌++◌, [], ap, sym, ◌∙◌, subst, arith, take, ◌+◌}
use Rattle.std.specs.Prelude.{unwrap_or}
use Rattle.sdls_base.specs.ErrorControl.{with_error_control}
use Rattle.aos_frame.specs.AosFrame.{AosFrame, view}
use Rattle.aos_frame.specs.Reading.{parts_in}
use Rattle.aos_frame.proofs.Frames.{frame_at, prefix_at}
use Rattle.aos_frame.proofs.frame.take_apart.Goals as goal

pub returns-clause-found : goal.returns-clause-found
returns-clause-found c =
    subst (λ p. AosFrame c.args.layout.now p c.args.frame.now)
    (sym (c.parts_of.ensures.parts ∙ ap (λ body. parts_in c.args.layout.now body) c.before_fecf.ensures))
    (frame_at c.args.layout.now c.args.frame.now c.requires.layout (λ i. omega (arith, c.type_inv.frame i))
    c.requires.faultless)

pub returns-clause-prefix : goal.returns-clause-prefix
returns-clause-prefix c =
    c.parts_of.ensures.prefix ∙ ap (λ body. take (6 + c.args.layout.now.insert) body) c.before_fecf.ensures
    ∙ prefix_at c.args.layout.now (view c.parts_of.result) c.args.frame.now (returns-clause-found c)

pub returns-clause-whole : goal.returns-clause-whole
returns-clause-whole c =
    (returns-clause-found c).spelled
    ∙ ap (λ l. with_error_control c.args.layout.now.fecf
    (l ++ (view c.parts_of.result).room ++ unwrap_or (view c.parts_of.result).ocf []))
    (sym (returns-clause-prefix c))
