use Rattle.std.proofs.Common.{arith, ◌∙◌, ap, take, drop}
use Rattle.std.proofs.lemmas.Grind.{common_steps}
use Rattle.aos_frame.proofs.Words.{same_parts, three}
use Rattle.aos_frame.proofs.frame.parts_of.Goals as goal

pub returns-clause-parts : goal.returns-clause-parts
returns-clause-parts c = same_parts
    c.spacecraft_of.ensures
    (omega (arith, c.virtual_channel_of.ensures))
    (c.from_be_bytes.ensures ∙ three _ _ _)
    c.flag.ensures
    c.flag-2.ensures
    (grind (arith, common_steps))
    (ap (λ n. take n (drop 6 c.args.body.now)) (omega (arith, c.from-start.ensures)))
    (grind (arith, common_steps, c.from-start.ensures, c.cut_ocf.ensures.before))
    c.cut_ocf.ensures.field
