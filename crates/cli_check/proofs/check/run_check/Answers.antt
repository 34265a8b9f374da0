use Rattle.std.proofs.Common.{inl, inr, ◌∙◌}
use Rattle.cli_check.proofs.check.run_check.Goals as goal
use Rattle.cli_check.proofs.check.run_check.Goals.{in-Ok, in-Err}

pub returns-clause-due : goal.returns-clause-due
returns-clause-due g c = elim c.match-put_check.branch [
  | in-Ok ok ↦
      let answered = ok.in-Ok.ensures.due in
      (answered.0, answered.1, answered.2, inl (ok.status-is ∙ answered.3.status, answered.3.delivered))
  | in-Err err ↦
      let answered = err.in-Err.ensures.due in
      (answered.0, answered.1, answered.2, inr (err.status-is, err.in-Err.ensures.cause.failed, answered.3.delivered))
]
