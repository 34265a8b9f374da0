use Rattle.std.proofs.Common.{◌≡◌, Option, subst, arith}
use Rattle.shared_unit.specs.declared.permit.OpenPermit.{OpenPermit}
use Rattle.shared_unit.specs.Opening.{OpensInBook}
use Rattle.shared_unit.proofs.opening_frames.open_in.Goals as goal

pub accept_tried-requires-clause-opener : goal.accept_tried-requires-clause-opener
accept_tried-requires-clause-opener g c =
    let epoch = c.changes-epoch.ensures in
    let same = c.if-permit-epoch.true in
    let same_epoch : c.args.shared.now.changes ≡ c.in-Some-kept.permit.epoch = omega arith in
    subst (λ (kept : Option OpenPermit). OpensInBook kept c.args.shared.now) c.in-Some-kept.is c.requires.kept
    same_epoch
