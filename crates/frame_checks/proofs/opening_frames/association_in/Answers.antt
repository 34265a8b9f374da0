use Rattle.std.proofs.Common.{ap, ◌∙◌}
use Rattle.std.specs.Int.{w16, to_be_bytes}
use Rattle.frame_checks.proofs.Rows.{row_index}
use Rattle.frame_checks.proofs.opening_frames.association_in.Goals as goal

pub returns-in-Ok-clause-index : goal.returns-in-Ok-clause-index
returns-in-Ok-clause-index c =
    let same = row_index c.args.state.now c.in_ok-spi.spi c.in-Ok.row.now c.in-Ok.ensures.row in
    ap (to_be_bytes w16) same ∙ c.in_ok-spi.ensures.index
