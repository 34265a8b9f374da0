use Rattle.std.proofs.Common.{ℕ, ◌∙◌, ◌==◌, ap}
use Rattle.disk_journal.specs.declared.layout.TheConstants.{OPEN}
use Rattle.disk_journal.proofs.Reading.{front_gate, front_generation}
use Rattle.disk_journal.proofs.header.read_front.Goals as goal

pub returns-clause-front : goal.returns-clause-front
returns-clause-front g c = λ told. (
  ap (λ (octet : ℕ). octet == OPEN)
      (front_gate (g.O.Site.trace c.args.site.now).now.image c.read_at.new.into c.args.bank
      (c.in_ok-read_at.ensures.read told)),
  c.read_u64.ensures
      ∙ front_generation (g.O.Site.trace c.args.site.now).now.image c.read_at.new.into c.args.bank
      (c.in_ok-read_at.ensures.read told),
)
