use Rattle.std.proofs.Common.{◌<◌, length, arith}
use Rattle.unit_plan.proofs.PartsFacts.{first_part_read}
use Rattle.unit_plan.proofs.lines.cut.Goals as goal

pub returns : goal.returns
returns c = λ last.
    let inside : c.place_of-end.result < length c.args.octets.now = omega arith in
    first_part_read c.args.mark last c.args.octets.now c.place_of-end.result inside c.place_of-end.ensures.before
    (c.place_of-end.ensures.found inside)
