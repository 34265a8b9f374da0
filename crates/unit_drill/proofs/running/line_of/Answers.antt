use Rattle.std.proofs.Common.{◌≡◌}
use Rattle.std.proofs.lemmas.Result.{IfOk-weaker}
use Rattle.unit_drill.specs.declared.counts.Counts.{Counts}
use Rattle.unit_drill.specs.Line.{drill_text}
use Rattle.unit_drill.specs.Drilled.{IsDrilled}
use Rattle.unit_drill.proofs.running.line_of.Goals as goal

pub returns : goal.returns
returns g c =
    let number = c.args.number in
    let counts = c.in_ok-counts.counts in
    let handled = c.in_ok-counts.ensures in
    let drilled : IsDrilled number counts = c.drill_is_sound.ensures number handled.0 counts c.requires handled.1 in
    IfOk-weaker c.drill_line.result (λ line. line.items ≡ drill_text number counts)
    (λ line. (counts : Counts) × IsDrilled number counts × (line.items ≡ drill_text number counts))
    (λ line is. (counts, drilled, is)) c.drill_line.ensures
