use Rattle.std.proofs.Common.{length, refl}
use Rattle.pair_audit.specs.declared.walk.AuditEnd.TheVariants.{Clean}
use Rattle.pair_audit.specs.Audit.{acceptances_in, uses_in}
use Rattle.pair_audit.specs.Recording.{recording}
use Rattle.law_audit.specs.Recorded.{sunk_by}
use Rattle.law_audit.proofs.laws.recorded_life_is_clean.Goals as goal

pub returns : goal.returns
returns c = λ image runs kept end life few says.
    let found = c.recorded_life_repeats_nothing.ensures.in_order image runs kept life few in
    let once = c.recorded_life_repeats_nothing.ensures.once image runs kept found.0 life found.1.runs_are in (
      found.0,
      found.1.runs_are,
      c.audit_says_one.ensures (recording (sunk_by kept runs)) end
          (Clean (length (sunk_by kept runs)) (uses_in found.0) (acceptances_in found.0)) says
          (sunk_by kept runs, found.0, found.1, once, refl, refl, refl),
    )
