use Rattle.disk_journal.proofs.Reading.{body_within, body_read}
use Rattle.disk_journal.proofs.journal.Journal.body.Goals as goal

pub read_at-requires : goal.read_at-requires
read_at-requires g c = λ told.
    body_within (g.O.Site.trace c.args.site.now) c.args.self.now c.args.index c.record_at.result
    (c.requires.opened told) c.requires.below
    c.record_at.ensures.is

pub returns-in-Ok-clause-body : goal.returns-in-Ok-clause-body
returns-in-Ok-clause-body g c = λ told.
    body_read (g.O.Site.trace c.args.site.now) c.args.self.now c.args.index c.record_at.result c.read_at.new.into
    (c.requires.opened told)
    c.requires.below c.record_at.ensures.is (c.in-Ok.ensures.read told)
