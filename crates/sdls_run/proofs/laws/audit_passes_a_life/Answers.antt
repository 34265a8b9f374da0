use Rattle.law_audit.specs.Recorded.{sunk_by}
use Rattle.sdls_run.proofs.Auditing.{passes_audit}
use Rattle.sdls_run.proofs.laws.audit_passes_a_life.Goals as goal

pub returns : goal.returns
returns c = λ image runs kept told old new status life sank few ends.
    passes_audit (sunk_by kept runs) told old new status few
    (λ end says. c.recorded_life_is_clean.ensures image runs kept end life sank says) ends
