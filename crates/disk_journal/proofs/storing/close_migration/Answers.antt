use Rattle.disk_journal.proofs.Rests.{form_here}
use Rattle.disk_journal.proofs.storing.close_migration.Goals as goal

pub returns-in-Migrated-clause-any_moment : goal.returns-in-Migrated-clause-any_moment
returns-in-Migrated-clause-any_moment g c = λ told. form_here c.args.form (g.O.Site.trace c.args.site.now)
    (c.requires.synced told)
