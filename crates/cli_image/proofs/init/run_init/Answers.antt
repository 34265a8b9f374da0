use Rattle.std.proofs.Common.{inl, inr, ◌∙◌, arith}
use Rattle.cli_image.proofs.Making.{ends_later}
use Rattle.cli_image.proofs.Stopping.{and_puts}
use Rattle.cli_image.proofs.init.run_init.Goals as goal
use Rattle.cli_image.proofs.init.run_init.Goals.{in-Ok, in-Err}

pub returns-clause-ends : goal.returns-clause-ends
returns-clause-ends g c =
    let made = c.initialize-end.ensures in
    elim c.match-put_end.branch [
      | in-Ok ok ↦
          let later = ok.in-Ok.ensures.cause.later in
          record {
            middle = g.O.Site.trace c.initialize-end.new.site;
            end = c.initialize-end.result;
            ends = ends_later _ _ _ g.O.Site.told _ _ _ _ c.initialize-end.result (λ rose. omega (arith, rose))
                made.ends;
            put = inl (ok.status-is ∙ ok.status-status.ensures, ok.in-Ok.ensures.delivered);
            moments = λ told empty. and_puts _ _ _ _ (made.moments told empty)
                (ok.in-Ok.ensures.delivered told).only_sinks;
          }
      | in-Err err ↦
          let later = err.in-Err.ensures.cause.later in
          let before = made.later in let rose = err.in-Err.ensures.cause.failed in
          record {
            middle = g.O.Site.trace c.initialize-end.new.site;
            end = c.initialize-end.result;
            ends = ends_later _ _ _ g.O.Site.told _ _ _ _ c.initialize-end.result (λ early. omega (arith, early))
                made.ends;
            put = inr (err.status-is, omega (arith, rose), err.in-Err.ensures.delivered);
            moments = λ told empty. and_puts _ _ _ _ (made.moments told empty)
                (err.in-Err.ensures.delivered told).only_sinks;
          }
    ]
