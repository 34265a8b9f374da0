use Rattle.std.proofs.Common.{◌<◌, ◌≡◌, sym, subst}
use Rattle.disk_journal.specs.Banks.{bank_at, slot_at}
use Rattle.disk_journal.specs.Journal.{JournalView, IsSettled}
use Rattle.disk_journal.specs.Changes.{KeepsBeside}
use Rattle.disk_journal.proofs.Appended.{Writing, append_within, append_moments, append_stored, append_beside}
use Rattle.disk_journal.proofs.journal.Journal.append.Goals as goal

pub store_record-requires-clause-within : goal.store_record-requires-clause-within
store_record-requires-clause-within g c = λ told.
    let old = g.O.Site.trace c.args.site.now in
    let journal : JournalView = record {
      plan_length = c.self.inside.plan_length;
      layout = c.self.inside.layout;
      bank =
          c.self.inside.bank;
      generation = c.self.inside.generation;
      used = c.self.inside.used;
    } in
    let settled : IsSettled old journal =
    subst (λ (view : JournalView). IsSettled old view) (sym c.self.view_is) (c.requires.settled told) in
    let free : c.self.inside.used < c.self.inside.layout.slots =
    subst (λ (view : JournalView). view.used < view.layout.slots) (sym c.self.view_is) c.requires.free in
    let writing : Writing old.now.image journal c.record_at.result c.args.body.now = record {
      of_image = settled.of_image;
      at_is = subst (λ (view : JournalView). c.record_at.result ≡ slot_at view.layout
          (bank_at view.layout view.bank) c.self.inside.used)
          (sym c.self.view_is) c.record_at.ensures.is;
      room = free;
      sized = c.told-body;
    } in
    append_within old journal c.record_at.result c.args.body.now writing

pub returns-in-Err-clause-becomes : goal.returns-in-Err-clause-becomes
returns-in-Err-clause-becomes g c = λ told.
    let old = g.O.Site.trace c.args.site.now in
    let journal : JournalView = record {
      plan_length = c.self.inside.plan_length;
      layout = c.self.inside.layout;
      bank =
          c.self.inside.bank;
      generation = c.self.inside.generation;
      used = c.self.inside.used;
    } in
    let settled : IsSettled old journal =
    subst (λ (view : JournalView). IsSettled old view) (sym c.self.view_is) (c.requires.settled told) in
    let free : c.self.inside.used < c.self.inside.layout.slots =
    subst (λ (view : JournalView). view.used < view.layout.slots) (sym c.self.view_is) c.requires.free in
    let writing : Writing old.now.image journal c.record_at.result c.args.body.now = record {
      of_image = settled.of_image;
      at_is = subst (λ (view : JournalView). c.record_at.result ≡ slot_at view.layout
          (bank_at view.layout view.bank) c.self.inside.used)
          (sym c.self.view_is) c.record_at.ensures.is;
      room = free;
      sized = c.told-body;
    } in
    append_moments old (g.O.Site.trace c.store_record.new.site) journal c.record_at.result c.args.body.now writing
    (c.store_record.ensures.any_moment told)

pub returns-in-Ok-clause-becomes : goal.returns-in-Ok-clause-becomes
returns-in-Ok-clause-becomes g c = λ told.
    let old = g.O.Site.trace c.args.site.now in
    let journal : JournalView = record {
      plan_length = c.self.inside.plan_length;
      layout = c.self.inside.layout;
      bank =
          c.self.inside.bank;
      generation = c.self.inside.generation;
      used = c.self.inside.used;
    } in
    let settled : IsSettled old journal =
    subst (λ (view : JournalView). IsSettled old view) (sym c.self.view_is) (c.requires.settled told) in
    let free : c.self.inside.used < c.self.inside.layout.slots =
    subst (λ (view : JournalView). view.used < view.layout.slots) (sym c.self.view_is) c.requires.free in
    let writing : Writing old.now.image journal c.record_at.result c.args.body.now = record {
      of_image = settled.of_image;
      at_is = subst (λ (view : JournalView). c.record_at.result ≡ slot_at view.layout
          (bank_at view.layout view.bank) c.self.inside.used)
          (sym c.self.view_is) c.record_at.ensures.is;
      room = free;
      sized = c.told-body;
    } in
    append_moments old (g.O.Site.trace c.store_record.new.site) journal c.record_at.result c.args.body.now writing
    (c.store_record.ensures.any_moment told)

pub returns-in-Ok-clause-stored : goal.returns-in-Ok-clause-stored
returns-in-Ok-clause-stored g c = λ told.
    let old = g.O.Site.trace c.args.site.now in
    let journal : JournalView = record {
      plan_length = c.self.inside.plan_length;
      layout = c.self.inside.layout;
      bank =
          c.self.inside.bank;
      generation = c.self.inside.generation;
      used = c.self.inside.used;
    } in
    let settled : IsSettled old journal =
    subst (λ (view : JournalView). IsSettled old view) (sym c.self.view_is) (c.requires.settled told) in
    let free : c.self.inside.used < c.self.inside.layout.slots =
    subst (λ (view : JournalView). view.used < view.layout.slots) (sym c.self.view_is) c.requires.free in
    let writing : Writing old.now.image journal c.record_at.result c.args.body.now = record {
      of_image = settled.of_image;
      at_is = subst (λ (view : JournalView). c.record_at.result ≡ slot_at view.layout
          (bank_at view.layout view.bank) c.self.inside.used)
          (sym c.self.view_is) c.record_at.ensures.is;
      room = free;
      sized = c.told-body;
    } in
    (append_stored old (g.O.Site.trace c.store_record.new.site) journal c.record_at.result c.args.body.now writing
    (c.in-Ok.ensures.stored told)).0

pub returns-in-Ok-clause-holds : goal.returns-in-Ok-clause-holds
returns-in-Ok-clause-holds g c = λ told.
    let old = g.O.Site.trace c.args.site.now in
    let journal : JournalView = record {
      plan_length = c.self.inside.plan_length;
      layout = c.self.inside.layout;
      bank =
          c.self.inside.bank;
      generation = c.self.inside.generation;
      used = c.self.inside.used;
    } in
    let settled : IsSettled old journal =
    subst (λ (view : JournalView). IsSettled old view) (sym c.self.view_is) (c.requires.settled told) in
    let free : c.self.inside.used < c.self.inside.layout.slots =
    subst (λ (view : JournalView). view.used < view.layout.slots) (sym c.self.view_is) c.requires.free in
    let writing : Writing old.now.image journal c.record_at.result c.args.body.now = record {
      of_image = settled.of_image;
      at_is = subst (λ (view : JournalView). c.record_at.result ≡ slot_at view.layout
          (bank_at view.layout view.bank) c.self.inside.used)
          (sym c.self.view_is) c.record_at.ensures.is;
      room = free;
      sized = c.told-body;
    } in
    (append_stored old (g.O.Site.trace c.store_record.new.site) journal c.record_at.result c.args.body.now writing
    (c.in-Ok.ensures.stored told)).1

pub returns-in-Ok-clause-beside : goal.returns-in-Ok-clause-beside
returns-in-Ok-clause-beside g c = λ told.
    let old = g.O.Site.trace c.args.site.now in
    let journal : JournalView = record {
      plan_length = c.self.inside.plan_length;
      layout = c.self.inside.layout;
      bank =
          c.self.inside.bank;
      generation = c.self.inside.generation;
      used = c.self.inside.used;
    } in
    let settled : IsSettled old journal =
    subst (λ (view : JournalView). IsSettled old view) (sym c.self.view_is) (c.requires.settled told) in
    let free : c.self.inside.used < c.self.inside.layout.slots =
    subst (λ (view : JournalView). view.used < view.layout.slots) (sym c.self.view_is) c.requires.free in
    let writing : Writing old.now.image journal c.record_at.result c.args.body.now = record {
      of_image = settled.of_image;
      at_is = subst (λ (view : JournalView). c.record_at.result ≡ slot_at view.layout
          (bank_at view.layout view.bank) c.self.inside.used)
          (sym c.self.view_is) c.record_at.ensures.is;
      room = free;
      sized = c.told-body;
    } in
    subst (λ (view : JournalView). KeepsBeside view.layout old.now.image
    (g.O.Site.trace c.store_record.new.site).now.image) c.self.view_is
    (append_beside old (g.O.Site.trace c.store_record.new.site) journal c.record_at.result c.args.body.now writing
    (c.in-Ok.ensures.stored told))
