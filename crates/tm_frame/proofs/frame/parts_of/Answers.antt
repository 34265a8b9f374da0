use Rattle.std.proofs.Common.{◌∙◌, ap, take, drop, refl, arith}
use Rattle.std.proofs.lemmas.Grind.{common_steps}
use Rattle.sdls_base.specs.ControlField.{ocf_at}
use Rattle.tm_frame.proofs.Words.{same_parts}
use Rattle.tm_frame.proofs.frame.parts_of.Goals as goal

pub returns-clause-parts : goal.returns-clause-parts
returns-clause-parts c = same_parts
    c.spacecraft_of.ensures
    c.virtual_channel_of.ensures
    refl
    refl
    c.status.ensures
    (ap (λ n. take n (drop 6 c.args.body.now)) (omega (arith, c.octets_of_secondary-start.ensures)))
    (grind (arith, common_steps, c.octets_of_secondary-start.ensures, c.cut_ocf.ensures.before, c.flag.ensures))
    (c.cut_ocf.ensures.field ∙ ap (λ f. ocf_at f c.args.body.now) c.flag.ensures)
