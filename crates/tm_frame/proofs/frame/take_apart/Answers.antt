use Rattle.std.proofs.Common.{◌++◌, [], ap, sym, ◌∙◌, subst, arith, take, length, ◌+◌, ◌-◌, ◌≤◌}
use Rattle.std.specs.Prelude.{unwrap_or}
use Rattle.sdls_base.specs.ErrorControl.{with_error_control}
use Rattle.tm_frame.specs.TmFrame.{TmFrame, view}
use Rattle.tm_frame.specs.FirstFault.{ocf_flag}
use Rattle.tm_frame.specs.Reading.{parts_in, secondary_length}
use Rattle.sdls_base.specs.ControlField.{ocf_length}
use Rattle.tm_frame.proofs.Frames.{frame_at, prefix_at, room_left}
use Rattle.tm_frame.proofs.frame.take_apart.Goals as goal

pub returns-clause-found : goal.returns-clause-found
returns-clause-found c =
    subst (λ p. TmFrame c.args.layout.now p c.args.frame.now)
    (sym (c.parts_of.ensures.parts ∙ ap (λ body. parts_in body) c.before_fecf.ensures))
    (frame_at c.args.layout.now c.args.frame.now c.requires.layout (λ i. omega (arith, c.type_inv.frame i))
    c.requires.faultless)

pub returns-clause-prefix : goal.returns-clause-prefix
returns-clause-prefix c =
    c.parts_of.ensures.prefix ∙ ap (λ body. take (6 + secondary_length body) body) c.before_fecf.ensures
    ∙ prefix_at c.args.layout.now (view c.parts_of.result) c.args.frame.now (returns-clause-found c)

pub returns-clause-whole : goal.returns-clause-whole
returns-clause-whole c =
    (returns-clause-found c).spelled
    ∙ ap (λ l. with_error_control c.args.layout.now.fecf
    (l ++ (view c.parts_of.result).room ++ unwrap_or (view c.parts_of.result).ocf []))
    (sym (returns-clause-prefix c))

pub parts_of-requires-clause-room : goal.parts_of-requires-clause-room
parts_of-requires-clause-room c =
    subst (λ body. 6 + secondary_length body ≤ length body - ocf_length (ocf_flag body)) (sym c.before_fecf.ensures)
    (room_left c.args.layout.now c.args.frame.now c.requires.layout c.requires.faultless)
