use Rattle.std.proofs.Common.{◌≡◌}
use Rattle.std.proofs.lemmas.Result.{IfOk-weaker}
use Rattle.unit_drill.specs.declared.counts.Counts.{Counts}
use Rattle.unit_drill.specs.Line.{link_text}
use Rattle.unit_drill.specs.OverLink.{IsLinkDrilled}
use Rattle.unit_drill.proofs.running.link_line_of.Goals as goal

pub returns : goal.returns
returns g c =
    let number = c.args.number in
    let counts = c.in_ok-counts.counts in
    let handled = c.in_ok-counts.ensures in
    let drilled : IsLinkDrilled number counts =
    c.link_drill_is_sound.ensures number handled.0 counts c.requires handled.1 in
    IfOk-weaker c.link_line.result (λ line. line.items ≡ link_text number counts)
    (λ line. (counts : Counts) × IsLinkDrilled number counts × (line.items ≡ link_text number counts))
    (λ line is. (counts, drilled, is))
    c.link_line.ensures
