use Rattle.std.proofs.Common.{IsTrue, take, ap, ◌∙◌, sym, rules}
use Rattle.record_io.specs.Input.{MOST_OCTETS}
use Rattle.pair_audit.proofs.Seen.{ok_more}
use Rattle.pair_audit.proofs.walk.audit_recording.Goals as goal

pub returns-then-not-branch-clause-found : goal.returns-then-not-branch-clause-found
returns-then-not-branch-clause-found g c = c.in_ok-begin.ensures.refused c.if-not-branch.true

pub returns-clause-found : goal.returns-clause-found
returns-clause-found g c =
    let is : IsTrue c.in_ok-begin.field-0 = search rules in
    ok_more c.audit_runs.result _ _
    (λ end found. (
      found.0,
      (λ told. found.1 told ∙ ap (take MOST_OCTETS) (sym (c.in_ok-begin.ensures.begun is told))),
      found.2,
    ))
    c.audit_runs.ensures.found
