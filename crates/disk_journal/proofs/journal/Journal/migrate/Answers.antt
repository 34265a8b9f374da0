use Rattle.std.proofs.Common.{arith}
use Rattle.disk_journal.specs.declared.layout.TheConstants.{FIRST_GENERATION}
use Rattle.disk_journal.specs.Journal.{JournalView}
use Rattle.disk_journal.proofs.Moved.{is_moving, move_before, move_holds, move_moments, move_past, move_rest}
use Rattle.disk_journal.proofs.Moved.{move_settled, move_within}
use Rattle.disk_journal.proofs.journal.Journal.migrate.Goals as goal

pub migrate_banks-requires-clause-within : goal.migrate_banks-requires-clause-within
migrate_banks-requires-clause-within g c = λ told.
    let view : JournalView = record {
      plan_length = c.self.inside.plan_length;
      layout = c.self.inside.layout;
      bank =
          c.self.inside.bank;
      generation = c.self.inside.generation;
      used = c.self.inside.used;
    } in
    let image = (g.O.Site.trace c.args.site.now).now.image in
    move_within image c.args.self.now c.self.inside.plan_length c.new-layout.result
    (is_moving image c.args.self.now view c.new-layout.result c.self.view_is
    (c.requires.settled told).of_image c.requires.version c.new-layout.ensures.is)

pub returns-in-Err-clause-becomes : goal.returns-in-Err-clause-becomes
returns-in-Err-clause-becomes g c = λ told.
    let view : JournalView = record {
      plan_length = c.self.inside.plan_length;
      layout = c.self.inside.layout;
      bank =
          c.self.inside.bank;
      generation = c.self.inside.generation;
      used = c.self.inside.used;
    } in
    let image = (g.O.Site.trace c.args.site.now).now.image in
    move_moments c.args.self.now c.self.inside.plan_length FIRST_GENERATION c.new-layout.result c.args.content.now
    (g.O.Site.trace c.args.site.now) (g.O.Site.trace c.migrate_banks.new.site)
    (is_moving image c.args.self.now view c.new-layout.result c.self.view_is
    (c.requires.settled told).of_image c.requires.version c.new-layout.ensures.is)
    (c.migrate_banks.ensures.any_moment told)

pub returns-in-Ok-clause-becomes : goal.returns-in-Ok-clause-becomes
returns-in-Ok-clause-becomes g c = λ told.
    let view : JournalView = record {
      plan_length = c.self.inside.plan_length;
      layout = c.self.inside.layout;
      bank =
          c.self.inside.bank;
      generation = c.self.inside.generation;
      used = c.self.inside.used;
    } in
    let image = (g.O.Site.trace c.args.site.now).now.image in
    move_moments c.args.self.now c.self.inside.plan_length FIRST_GENERATION c.new-layout.result c.args.content.now
    (g.O.Site.trace c.args.site.now) (g.O.Site.trace c.migrate_banks.new.site)
    (is_moving image c.args.self.now view c.new-layout.result c.self.view_is
    (c.requires.settled told).of_image c.requires.version c.new-layout.ensures.is)
    (c.migrate_banks.ensures.any_moment told)

pub returns-in-Ok-clause-stored : goal.returns-in-Ok-clause-stored
returns-in-Ok-clause-stored g c = λ told.
    let view : JournalView = record {
      plan_length = c.self.inside.plan_length;
      layout = c.self.inside.layout;
      bank =
          c.self.inside.bank;
      generation = c.self.inside.generation;
      used = c.self.inside.used;
    } in
    let image = (g.O.Site.trace c.args.site.now).now.image in
    move_settled c.args.self.now c.self.inside.plan_length FIRST_GENERATION c.new-layout.result c.args.content.now
    (g.O.Site.trace c.args.site.now) (g.O.Site.trace c.migrate_banks.new.site)
    (is_moving image c.args.self.now view c.new-layout.result c.self.view_is
    (c.requires.settled told).of_image c.requires.version c.new-layout.ensures.is)
    (omega arith) (c.in-Ok.ensures.migrated told)

pub returns-in-Ok-clause-holds : goal.returns-in-Ok-clause-holds
returns-in-Ok-clause-holds g c = λ told.
    let view : JournalView = record {
      plan_length = c.self.inside.plan_length;
      layout = c.self.inside.layout;
      bank =
          c.self.inside.bank;
      generation = c.self.inside.generation;
      used = c.self.inside.used;
    } in
    let image = (g.O.Site.trace c.args.site.now).now.image in
    move_holds c.args.self.now c.self.inside.plan_length FIRST_GENERATION c.new-layout.result c.args.content.now
    (g.O.Site.trace c.args.site.now) (g.O.Site.trace c.migrate_banks.new.site)
    (is_moving image c.args.self.now view c.new-layout.result c.self.view_is
    (c.requires.settled told).of_image c.requires.version c.new-layout.ensures.is)
    (omega arith) (c.in-Ok.ensures.migrated told)

pub returns-in-Ok-clause-rest : goal.returns-in-Ok-clause-rest
returns-in-Ok-clause-rest g c = λ told.
    let view : JournalView = record {
      plan_length = c.self.inside.plan_length;
      layout = c.self.inside.layout;
      bank =
          c.self.inside.bank;
      generation = c.self.inside.generation;
      used = c.self.inside.used;
    } in
    let image = (g.O.Site.trace c.args.site.now).now.image in
    move_rest c.args.self.now c.self.inside.plan_length FIRST_GENERATION c.new-layout.result c.args.content.now
    (g.O.Site.trace c.args.site.now) (g.O.Site.trace c.migrate_banks.new.site)
    (is_moving image c.args.self.now view c.new-layout.result c.self.view_is
    (c.requires.settled told).of_image c.requires.version c.new-layout.ensures.is)
    (omega arith) (c.in-Ok.ensures.migrated told)

pub returns-in-Ok-clause-before : goal.returns-in-Ok-clause-before
returns-in-Ok-clause-before g c = λ told i away.
    let behind = c.new-layout.ensures.layout.behind_plan in
    move_before FIRST_GENERATION c.new-layout.result c.args.content.now (g.O.Site.trace c.args.site.now).now.image
    (g.O.Site.trace c.migrate_banks.new.site).now.image (c.in-Ok.ensures.migrated told).1 (omega (arith, behind)) i away

pub returns-in-Ok-clause-past : goal.returns-in-Ok-clause-past
returns-in-Ok-clause-past g c = λ told.
    let behind = c.new-layout.ensures.layout.behind_plan in
    move_past FIRST_GENERATION c.new-layout.result c.args.content.now (g.O.Site.trace c.args.site.now).now.image
    (g.O.Site.trace c.migrate_banks.new.site).now.image (c.in-Ok.ensures.migrated told).1 (omega (arith, behind))
