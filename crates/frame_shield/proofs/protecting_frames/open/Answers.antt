use Rattle.std.proofs.Common.{sym, ap, ◌∙◌}
use Rattle.gcm.specs.Gcm.{gcm_seal}
use Rattle.frame_shield.specs.Secured.{sealed}
use Rattle.frame_shield.proofs.protecting_frames.open.Goals as goal

pub returns-in-Ok-clause-opened : goal.returns-in-Ok-clause-opened
returns-in-Ok-clause-opened c =
    ap (λ v. sealed c.args.key.now v c.args.covered.now c.open_in_place.new.text) c.in-Wide.is
    ∙ ap (λ iv. gcm_seal c.args.key.now iv c.args.covered.now c.open_in_place.new.text) (sym c.wide_octets.ensures)
    ∙ (c.opens_what_was_sealed.ensures c.args.key.now c.wide_octets.result c.args.covered.now c.open_in_place.new.text
    c.args.text.now c.args.mac.now).0 c.in-Ok.ensures.opened
