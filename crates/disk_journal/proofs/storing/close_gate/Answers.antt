use Rattle.disk_journal.proofs.Rests.{gated_here}
use Rattle.disk_journal.proofs.storing.close_gate.Goals as goal

pub returns-in_err-read_at-clause-any_moment : goal.returns-in_err-read_at-clause-any_moment
returns-in_err-read_at-clause-any_moment g c = λ told.
    gated_here c.args.at (g.O.Site.trace c.args.site.now) (g.O.Site.trace c.read_at.new.self) (c.requires.synced told)
    (c.in_err-read_at.ensures.same told)

pub returns-then-octets-eq-CLOSED-clause-any_moment : goal.returns-then-octets-eq-CLOSED-clause-any_moment
returns-then-octets-eq-CLOSED-clause-any_moment g c = λ told.
    gated_here c.args.at (g.O.Site.trace c.args.site.now) (g.O.Site.trace c.read_at.new.self) (c.requires.synced told)
    (c.in_ok-read_at.ensures.same told)
