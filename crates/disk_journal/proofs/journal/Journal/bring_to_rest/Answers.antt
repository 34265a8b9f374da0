use Rattle.std.proofs.Common.{◌≡◌, ◌-◌, sym, subst, arith}
use Rattle.disk_journal.specs.declared.layout.TheConstants.{BANKS_AT}
use Rattle.std.specs.Result.{OnOk}
use Rattle.disk_journal.specs.Image.{held}
use Rattle.disk_journal.specs.Journal.{JournalView, IsClosed, IsOpen, IsSettled}
use Rattle.disk_journal.specs.Changes.{KeepsBeside, KeepsPlan}
use Rattle.disk_journal.proofs.Resting.{Stages, form_within, open_stilled, old_within, first_moments, second_moments}
use Rattle.disk_journal.proofs.Resting.{third_moments, rested_end, rested_beside, old_size}
use Rattle.disk_journal.proofs.journal.Journal.bring_to_rest.Goals as goal

pub close_migration-requires-clause-within : goal.close_migration-requires-clause-within
close_migration-requires-clause-within g c = λ told.
    let old = g.O.Site.trace c.args.site.now in
    let journal : JournalView = record {
      plan_length = c.self.inside.plan_length;
      layout = c.self.inside.layout;
      bank =
          c.self.inside.bank;
      generation = c.self.inside.generation;
      used = c.self.inside.used;
    } in
    let opened : IsOpen old journal = subst (λ (view : JournalView). IsOpen old view) (sym c.self.view_is)
    (c.requires told) in
    form_within old journal opened

pub returns-in_err-close_migration-clause-any_moment : goal.returns-in_err-close_migration-clause-any_moment
returns-in_err-close_migration-clause-any_moment g c = λ told.
    let old = g.O.Site.trace c.args.site.now in
    let journal : JournalView = record {
      plan_length = c.self.inside.plan_length;
      layout = c.self.inside.layout;
      bank =
          c.self.inside.bank;
      generation = c.self.inside.generation;
      used = c.self.inside.used;
    } in
    let opened : IsOpen old journal = subst (λ (view : JournalView). IsOpen old view) (sym c.self.view_is)
    (c.requires told) in
    let mid = g.O.Site.trace c.close_migration.new.site in
    first_moments old mid journal opened (c.close_migration.ensures.any_moment told)

pub close_banks-requires-clause-opened : goal.close_banks-requires-clause-opened
close_banks-requires-clause-opened g c = λ told.
    let old = g.O.Site.trace c.args.site.now in
    let journal : JournalView = record {
      plan_length = c.self.inside.plan_length;
      layout = c.self.inside.layout;
      bank =
          c.self.inside.bank;
      generation = c.self.inside.generation;
      used = c.self.inside.used;
    } in
    let opened : IsOpen old journal = subst (λ (view : JournalView). IsOpen old view) (sym c.self.view_is)
    (c.requires told) in
    let mid = g.O.Site.trace c.close_migration.new.site in
    subst (λ (view : JournalView). IsOpen mid view) c.self.view_is
    (open_stilled old mid journal opened (c.in_ok-close_migration.ensures.closed told).0
    (c.in_ok-close_migration.ensures.ends told)
    (c.in_ok-close_migration.ensures.closed told).1)

pub returns-in_err-close_banks-clause-any_moment : goal.returns-in_err-close_banks-clause-any_moment
returns-in_err-close_banks-clause-any_moment g c = λ told.
    let old = g.O.Site.trace c.args.site.now in
    let journal : JournalView = record {
      plan_length = c.self.inside.plan_length;
      layout = c.self.inside.layout;
      bank =
          c.self.inside.bank;
      generation = c.self.inside.generation;
      used = c.self.inside.used;
    } in
    let opened : IsOpen old journal = subst (λ (view : JournalView). IsOpen old view) (sym c.self.view_is)
    (c.requires told) in
    let mid = g.O.Site.trace c.close_migration.new.site in
    second_moments old mid (g.O.Site.trace c.close_banks.new.site) journal opened
    (c.in_ok-close_migration.ensures.ends told)
    (c.in_ok-close_migration.ensures.closed told).1 (c.in_ok-close_migration.ensures.any_moment told)
    (c.close_banks.ensures.any_moment told)

pub clear_others-requires-clause-within : goal.clear_others-requires-clause-within
clear_others-requires-clause-within g c = λ told.
    let old = g.O.Site.trace c.args.site.now in
    let journal : JournalView = record {
      plan_length = c.self.inside.plan_length;
      layout = c.self.inside.layout;
      bank =
          c.self.inside.bank;
      generation = c.self.inside.generation;
      used = c.self.inside.used;
    } in
    let opened : IsOpen old journal = subst (λ (view : JournalView). IsOpen old view) (sym c.self.view_is)
    (c.requires told) in
    let mid = g.O.Site.trace c.close_migration.new.site in
    let closed = g.O.Site.trace c.close_banks.new.site in
    let view = c.self.view_is in
    let stages : Stages old mid closed journal = record {
      opened = opened;
      first = c.in_ok-close_migration.ensures.ends told;
      shut = (c.in_ok-close_migration.ensures.closed told).1;
      is_closed = subst (λ (one : JournalView). IsClosed closed.now.image one) (sym view)
          (c.in_ok-close_banks.ensures.closed told).1;
      same = (c.in_ok-close_banks.ensures.closed told).2;
      beside = subst (λ (one : JournalView). KeepsBeside one.layout mid.now.image closed.now.image) (sym view)
          (c.in_ok-close_banks.ensures.beside told);
    } in
    old_within closed journal (c.self.inside.layout.banks - BANKS_AT) stages.is_closed
    (old_size c.self.inside.layout.banks (omega arith))

pub returns-clause-any_moment : goal.returns-clause-any_moment
returns-clause-any_moment g c = λ told.
    let old = g.O.Site.trace c.args.site.now in
    let journal : JournalView = record {
      plan_length = c.self.inside.plan_length;
      layout = c.self.inside.layout;
      bank =
          c.self.inside.bank;
      generation = c.self.inside.generation;
      used = c.self.inside.used;
    } in
    let opened : IsOpen old journal = subst (λ (view : JournalView). IsOpen old view) (sym c.self.view_is)
    (c.requires told) in
    let mid = g.O.Site.trace c.close_migration.new.site in
    let closed = g.O.Site.trace c.close_banks.new.site in
    let view = c.self.view_is in
    let stages : Stages old mid closed journal = record {
      opened = opened;
      first = c.in_ok-close_migration.ensures.ends told;
      shut = (c.in_ok-close_migration.ensures.closed told).1;
      is_closed = subst (λ (one : JournalView). IsClosed closed.now.image one) (sym view)
          (c.in_ok-close_banks.ensures.closed told).1;
      same = (c.in_ok-close_banks.ensures.closed told).2;
      beside = subst (λ (one : JournalView). KeepsBeside one.layout mid.now.image closed.now.image) (sym view)
          (c.in_ok-close_banks.ensures.beside told);
    } in
    third_moments old mid closed (g.O.Site.trace c.clear_others.new.site) journal
    (c.self.inside.layout.banks - BANKS_AT) stages (old_size c.self.inside.layout.banks (omega arith))
    (second_moments old mid closed journal opened (c.in_ok-close_migration.ensures.ends told)
    (c.in_ok-close_migration.ensures.closed told).1 (c.in_ok-close_migration.ensures.any_moment told)
    (c.in_ok-close_banks.ensures.any_moment told))
    (c.clear_others.ensures.any_moment told)

pub returns-clause-settled : goal.returns-clause-settled
returns-clause-settled g c = λ told.
    let old = g.O.Site.trace c.args.site.now in
    let journal : JournalView = record {
      plan_length = c.self.inside.plan_length;
      layout = c.self.inside.layout;
      bank =
          c.self.inside.bank;
      generation = c.self.inside.generation;
      used = c.self.inside.used;
    } in
    let opened : IsOpen old journal = subst (λ (view : JournalView). IsOpen old view) (sym c.self.view_is)
    (c.requires told) in
    let mid = g.O.Site.trace c.close_migration.new.site in
    let closed = g.O.Site.trace c.close_banks.new.site in
    let view = c.self.view_is in
    let stages : Stages old mid closed journal = record {
      opened = opened;
      first = c.in_ok-close_migration.ensures.ends told;
      shut = (c.in_ok-close_migration.ensures.closed told).1;
      is_closed = subst (λ (one : JournalView). IsClosed closed.now.image one) (sym view)
          (c.in_ok-close_banks.ensures.closed told).1;
      same = (c.in_ok-close_banks.ensures.closed told).2;
      beside = subst (λ (one : JournalView). KeepsBeside one.layout mid.now.image closed.now.image) (sym view)
          (c.in_ok-close_banks.ensures.beside told);
    } in
    subst (λ (one : JournalView). OnOk c.clear_others.result (IsSettled (g.O.Site.trace c.clear_others.new.site) one
    × (held (g.O.Site.trace c.clear_others.new.site).now.image ≡ held old.now.image))) view
    (rested_end c.clear_others.result old mid closed (g.O.Site.trace c.clear_others.new.site) journal
    (c.self.inside.layout.banks - BANKS_AT) stages
    (old_size c.self.inside.layout.banks (omega arith)) (c.clear_others.ensures.cleared told))

pub returns-clause-beside : goal.returns-clause-beside
returns-clause-beside g c = λ told.
    let old = g.O.Site.trace c.args.site.now in
    let journal : JournalView = record {
      plan_length = c.self.inside.plan_length;
      layout = c.self.inside.layout;
      bank =
          c.self.inside.bank;
      generation = c.self.inside.generation;
      used = c.self.inside.used;
    } in
    let opened : IsOpen old journal = subst (λ (view : JournalView). IsOpen old view) (sym c.self.view_is)
    (c.requires told) in
    let mid = g.O.Site.trace c.close_migration.new.site in
    let closed = g.O.Site.trace c.close_banks.new.site in
    let view = c.self.view_is in
    let stages : Stages old mid closed journal = record {
      opened = opened;
      first = c.in_ok-close_migration.ensures.ends told;
      shut = (c.in_ok-close_migration.ensures.closed told).1;
      is_closed = subst (λ (one : JournalView). IsClosed closed.now.image one) (sym view)
          (c.in_ok-close_banks.ensures.closed told).1;
      same = (c.in_ok-close_banks.ensures.closed told).2;
      beside = subst (λ (one : JournalView). KeepsBeside one.layout mid.now.image closed.now.image) (sym view)
          (c.in_ok-close_banks.ensures.beside told);
    } in
    subst (λ (one : JournalView). OnOk c.clear_others.result
    (KeepsPlan one.layout old.now.image (g.O.Site.trace c.clear_others.new.site).now.image))
    view
    (rested_beside c.clear_others.result old mid closed (g.O.Site.trace c.clear_others.new.site) journal
    (c.self.inside.layout.banks - BANKS_AT) stages
    (old_size c.self.inside.layout.banks (omega arith)) (c.clear_others.ensures.cleared told))
