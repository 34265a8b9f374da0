use Rattle.std.proofs.Common.{sym, subst}
use Rattle.disk_journal.specs.Journal.{JournalView, IsOpen}
use Rattle.disk_journal.proofs.Reading.{plan_within, plan_read}
use Rattle.disk_journal.proofs.journal.Journal.plan_text.Goals as goal

pub read_at-requires : goal.read_at-requires
read_at-requires g c = λ told.
    let journal : JournalView = record {
      plan_length = c.self.inside.plan_length;
      layout = c.self.inside.layout;
      bank =
          c.self.inside.bank;
      generation = c.self.inside.generation;
      used = c.self.inside.used;
    } in
    let opened : IsOpen (g.O.Site.trace c.args.site.now) journal =
    subst (λ (view : JournalView). IsOpen (g.O.Site.trace c.args.site.now) view) (sym c.self.view_is)
    (c.requires.opened told) in
    plan_within (g.O.Site.trace c.args.site.now) journal c.args.out.now opened

pub returns-in-Ok-clause-text : goal.returns-in-Ok-clause-text
returns-in-Ok-clause-text g c = λ told.
    let journal : JournalView = record {
      plan_length = c.self.inside.plan_length;
      layout = c.self.inside.layout;
      bank =
          c.self.inside.bank;
      generation = c.self.inside.generation;
      used = c.self.inside.used;
    } in
    let opened : IsOpen (g.O.Site.trace c.args.site.now) journal =
    subst (λ (view : JournalView). IsOpen (g.O.Site.trace c.args.site.now) view) (sym c.self.view_is)
    (c.requires.opened told) in
    plan_read (g.O.Site.trace c.args.site.now) journal c.args.out.now c.read_at.new.into opened c.requires.room
    (c.in-Ok.ensures.read told)
