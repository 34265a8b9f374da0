use Rattle.std.proofs.Common.{length}
use Rattle.disk_journal.proofs.Reading.{content_within, content_read}
use Rattle.disk_journal.proofs.journal.Journal.content.Goals as goal

pub read_at-requires : goal.read_at-requires
read_at-requires g c = λ told.
    content_within (g.O.Site.trace c.args.site.now) c.args.self.now c.content_at.result (length c.args.out.now)
    (c.requires.opened told)
    c.content_at.ensures.is c.requires.room

pub returns-in-Ok-clause-content : goal.returns-in-Ok-clause-content
returns-in-Ok-clause-content g c = λ told.
    content_read (g.O.Site.trace c.args.site.now) c.args.self.now c.content_at.result
    (length c.args.out.now) c.read_at.new.into
    (c.requires.opened told) c.content_at.ensures.is c.requires.room (c.in-Ok.ensures.read told)
