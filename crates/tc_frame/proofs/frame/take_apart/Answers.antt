use Rattle.std.proofs.Common.{◌++◌, ap, sym, ◌∙◌, subst, arith, take, ◌+◌}
use Rattle.sdls_base.specs.ErrorControl.{with_error_control}
use Rattle.tc_frame.specs.TcFrame.{TcFrame, view}
use Rattle.tc_frame.specs.FirstFault.{segment_length}
use Rattle.tc_frame.specs.Reading.{parts_in}
use Rattle.tc_frame.proofs.Frames.{frame_at, prefix_at}
use Rattle.tc_frame.proofs.frame.take_apart.Goals as goal

pub returns-clause-found : goal.returns-clause-found
returns-clause-found c =
    subst (λ p. TcFrame c.args.layout.now p c.args.frame.now)
    (sym (c.parts_of.ensures.parts ∙ ap (λ body. parts_in c.args.layout.now body) c.before_fecf.ensures))
    (frame_at c.args.layout.now c.args.frame.now (λ i. omega (arith, c.type_inv.frame i)) c.requires.faultless)

pub returns-clause-prefix : goal.returns-clause-prefix
returns-clause-prefix c =
    c.parts_of.ensures.prefix ∙ ap (λ body. take (5 + segment_length c.args.layout.now body) body) c.before_fecf.ensures
    ∙ prefix_at c.args.layout.now (view c.parts_of.result) c.args.frame.now (returns-clause-found c)

pub returns-clause-whole : goal.returns-clause-whole
returns-clause-whole c =
    (returns-clause-found c).spelled
    ∙ ap (λ l. with_error_control c.args.layout.now.fecf (l ++ (view c.parts_of.result).room))
    (sym (returns-clause-prefix c))
