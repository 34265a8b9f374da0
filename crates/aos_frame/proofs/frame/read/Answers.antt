use Rattle.std.proofs.Common.{◌≡◌, sym, ◌∙◌}
use Rattle.std.specs.Prelude.{None}
use Rattle.aos_frame.specs.FirstFault.{first_fault}
use Rattle.aos_frame.proofs.Frames.{frame_parts}
use Rattle.aos_frame.proofs.frame.read.Goals as goal

pub returns-in-Some-clause-only : goal.returns-in-Some-clause-only
returns-in-Some-clause-only c = λ parts is.
    let none : first_fault c.args.layout.now c.args.frame.now ≡ None =
    (frame_parts c.args.layout.now parts c.args.frame.now is).0 in
    cc (c.in-Some.ensures)

pub returns-in-None-clause-only : goal.returns-in-None-clause-only
returns-in-None-clause-only c = λ parts is.
    sym (frame_parts c.args.layout.now _ c.args.frame.now c.take_apart.ensures.found).1
    ∙ (frame_parts c.args.layout.now parts c.args.frame.now is).1
