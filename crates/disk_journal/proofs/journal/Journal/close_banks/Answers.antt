use Rattle.std.proofs.Common.{ℕ, ◌≡◌, ◌+◌, ◌-◌, ◌∙◌, length, sym, ap, subst, arith}
use Rattle.std.specs.Result.{OnOk}
use Rattle.sdls_outside.specs.Disk.{IsSynced}
use Rattle.disk_journal.specs.Banks.{bank_at, slot_at}
use Rattle.disk_journal.specs.Image.{held}
use Rattle.disk_journal.specs.Journal.{JournalView, IsClosed, IsOpen}
use Rattle.disk_journal.specs.Changes.{IsErased, KeepsBeside}
use Rattle.disk_journal.specs.Moments.{AllBut, EachImage}
use Rattle.disk_journal.proofs.Stands.{IsStill}
use Rattle.disk_journal.proofs.Settles.{Sites, spare_within, slot_within, first_part, second_part, third_part, Closing}
use Rattle.disk_journal.proofs.Settles.{settled_end, settle_beside, slot_long, gate_long}
use Rattle.disk_journal.proofs.journal.Journal.close_banks.Goals as goal

pub close_slot-requires-clause-within : goal.close_slot-requires-clause-within
close_slot-requires-clause-within g c = λ told.
    let old = g.O.Site.trace c.args.site.now in
    let journal : JournalView = record {
      plan_length = c.self.inside.plan_length;
      layout = c.self.inside.layout;
      bank =
          c.self.inside.bank;
      generation = c.self.inside.generation;
      used = c.self.inside.used;
    } in
    let opened : IsOpen old journal = subst (λ (view : JournalView). IsOpen old view) (sym c.self.view_is)
    (c.requires.opened told) in
    let slot = c.slot_at-slot.result in
    let spare = c.bank_at-spare.result in
    let sites : Sites old.now.image journal slot spare = record {
      of_image = opened.of_image;
      slot_is = c.slot_at-slot.ensures
          ∙ ap (λ (n : ℕ). slot_at c.self.inside.layout n c.self.inside.used) c.bank_at-at.ensures;
      spare_is = c.bank_at-spare.ensures ∙ ap (bank_at c.self.inside.layout) c.other.ensures;
    } in
    λ room. slot_within old journal slot spare sites room

pub returns-in_err-close_slot-clause-any_moment : goal.returns-in_err-close_slot-clause-any_moment
returns-in_err-close_slot-clause-any_moment g c = λ told.
    let old = g.O.Site.trace c.args.site.now in
    let journal : JournalView = record {
      plan_length = c.self.inside.plan_length;
      layout = c.self.inside.layout;
      bank =
          c.self.inside.bank;
      generation = c.self.inside.generation;
      used = c.self.inside.used;
    } in
    let opened : IsOpen old journal = subst (λ (view : JournalView). IsOpen old view) (sym c.self.view_is)
    (c.requires.opened told) in
    let slot = c.slot_at-slot.result in
    let spare = c.bank_at-spare.result in
    let sites : Sites old.now.image journal slot spare = record {
      of_image = opened.of_image;
      slot_is = c.slot_at-slot.ensures
          ∙ ap (λ (n : ℕ). slot_at c.self.inside.layout n c.self.inside.used) c.bank_at-at.ensures;
      spare_is = c.bank_at-spare.ensures ∙ ap (bank_at c.self.inside.layout) c.other.ensures;
    } in
    first_part old (g.O.Site.trace c.close_slot.new.site) journal slot spare sites
    (c.close_slot.ensures.any_moment told)

pub close_gate-requires-clause-within : goal.close_gate-requires-clause-within
close_gate-requires-clause-within g c = λ told.
    let old = g.O.Site.trace c.args.site.now in
    let journal : JournalView = record {
      plan_length = c.self.inside.plan_length;
      layout = c.self.inside.layout;
      bank =
          c.self.inside.bank;
      generation = c.self.inside.generation;
      used = c.self.inside.used;
    } in
    let opened : IsOpen old journal = subst (λ (view : JournalView). IsOpen old view) (sym c.self.view_is)
    (c.requires.opened told) in
    let slot = c.slot_at-slot.result in
    let spare = c.bank_at-spare.result in
    let sites : Sites old.now.image journal slot spare = record {
      of_image = opened.of_image;
      slot_is = c.slot_at-slot.ensures
          ∙ ap (λ (n : ℕ). slot_at c.self.inside.layout n c.self.inside.used) c.bank_at-at.ensures;
      spare_is = c.bank_at-spare.ensures ∙ ap (bank_at c.self.inside.layout) c.other.ensures;
    } in
    let within = spare_within old journal slot spare sites in
    let same : length (g.O.Site.trace c.close_slot.new.site).now.image ≡ length old.now.image =
    slot_long old.now.image (g.O.Site.trace c.close_slot.new.site).now.image slot c.self.inside.used
    c.self.inside.layout.slots (c.in_ok-close_slot.ensures.ends told) in
    omega (arith, within, same)

pub returns-in_err-close_gate-clause-any_moment : goal.returns-in_err-close_gate-clause-any_moment
returns-in_err-close_gate-clause-any_moment g c = λ told.
    let old = g.O.Site.trace c.args.site.now in
    let journal : JournalView = record {
      plan_length = c.self.inside.plan_length;
      layout = c.self.inside.layout;
      bank =
          c.self.inside.bank;
      generation = c.self.inside.generation;
      used = c.self.inside.used;
    } in
    let opened : IsOpen old journal = subst (λ (view : JournalView). IsOpen old view) (sym c.self.view_is)
    (c.requires.opened told) in
    let slot = c.slot_at-slot.result in
    let spare = c.bank_at-spare.result in
    let sites : Sites old.now.image journal slot spare = record {
      of_image = opened.of_image;
      slot_is = c.slot_at-slot.ensures
          ∙ ap (λ (n : ℕ). slot_at c.self.inside.layout n c.self.inside.used) c.bank_at-at.ensures;
      spare_is = c.bank_at-spare.ensures ∙ ap (bank_at c.self.inside.layout) c.other.ensures;
    } in
    let mid = g.O.Site.trace c.close_slot.new.site in
    let closed = g.O.Site.trace c.close_gate.new.site in
    second_part old mid closed journal slot spare sites
    (c.in_ok-close_slot.ensures.any_moment told) (c.in_ok-close_slot.ensures.ends told)
    (c.close_gate.ensures.any_moment told)

pub clear_others-requires-clause-within : goal.clear_others-requires-clause-within
clear_others-requires-clause-within g c = λ told.
    let old = g.O.Site.trace c.args.site.now in
    let journal : JournalView = record {
      plan_length = c.self.inside.plan_length;
      layout = c.self.inside.layout;
      bank =
          c.self.inside.bank;
      generation = c.self.inside.generation;
      used = c.self.inside.used;
    } in
    let opened : IsOpen old journal = subst (λ (view : JournalView). IsOpen old view) (sym c.self.view_is)
    (c.requires.opened told) in
    let slot = c.slot_at-slot.result in
    let spare = c.bank_at-spare.result in
    let sites : Sites old.now.image journal slot spare = record {
      of_image = opened.of_image;
      slot_is = c.slot_at-slot.ensures
          ∙ ap (λ (n : ℕ). slot_at c.self.inside.layout n c.self.inside.used) c.bank_at-at.ensures;
      spare_is = c.bank_at-spare.ensures ∙ ap (bank_at c.self.inside.layout) c.other.ensures;
    } in
    let mid = g.O.Site.trace c.close_slot.new.site in
    let closed = g.O.Site.trace c.close_gate.new.site in
    let closing : Closing old.now.image mid.now.image closed.now.image journal slot spare = record {
      sites = sites;
      still = subst (λ (view : JournalView). IsStill view.layout old.now.image) (sym c.self.view_is)
          (c.requires.shut told);
      first = c.in_ok-close_slot.ensures.ends told;
      slot_shut = (c.in_ok-close_slot.ensures.closed told).1;
      second = c.in_ok-close_gate.ensures.ends told;
      spare_shut = (c.in_ok-close_gate.ensures.closed told).1;
    } in
    let within = spare_within old journal slot spare sites in
    let same : length closed.now.image ≡ length old.now.image =
    gate_long mid.now.image closed.now.image spare closing.second
    ∙ slot_long old.now.image mid.now.image slot c.self.inside.used c.self.inside.layout.slots closing.first in
    let size = c.bank_length.ensures in
    omega (arith, within, same, size)

pub returns-clause-any_moment : goal.returns-clause-any_moment
returns-clause-any_moment g c = λ told.
    let old = g.O.Site.trace c.args.site.now in
    let journal : JournalView = record {
      plan_length = c.self.inside.plan_length;
      layout = c.self.inside.layout;
      bank =
          c.self.inside.bank;
      generation = c.self.inside.generation;
      used = c.self.inside.used;
    } in
    let opened : IsOpen old journal = subst (λ (view : JournalView). IsOpen old view) (sym c.self.view_is)
    (c.requires.opened told) in
    let slot = c.slot_at-slot.result in
    let spare = c.bank_at-spare.result in
    let sites : Sites old.now.image journal slot spare = record {
      of_image = opened.of_image;
      slot_is = c.slot_at-slot.ensures
          ∙ ap (λ (n : ℕ). slot_at c.self.inside.layout n c.self.inside.used) c.bank_at-at.ensures;
      spare_is = c.bank_at-spare.ensures ∙ ap (bank_at c.self.inside.layout) c.other.ensures;
    } in
    let mid = g.O.Site.trace c.close_slot.new.site in
    let closed = g.O.Site.trace c.close_gate.new.site in
    let closing : Closing old.now.image mid.now.image closed.now.image journal slot spare = record {
      sites = sites;
      still = subst (λ (view : JournalView). IsStill view.layout old.now.image) (sym c.self.view_is)
          (c.requires.shut told);
      first = c.in_ok-close_slot.ensures.ends told;
      slot_shut = (c.in_ok-close_slot.ensures.closed told).1;
      second = c.in_ok-close_gate.ensures.ends told;
      spare_shut = (c.in_ok-close_gate.ensures.closed told).1;
    } in
    third_part old mid closed (g.O.Site.trace c.clear_others.new.site) journal slot spare closing
    (second_part old mid closed journal slot spare sites
    (c.in_ok-close_slot.ensures.any_moment told) (c.in_ok-close_slot.ensures.ends told)
    (c.in_ok-close_gate.ensures.any_moment told))
    (subst (λ (n : ℕ). EachImage closed (g.O.Site.trace c.clear_others.new.site)
    (AllBut (spare + 1) (n - 1) closed.now.image))
    c.bank_length.ensures (c.clear_others.ensures.any_moment told))

pub returns-clause-closed : goal.returns-clause-closed
returns-clause-closed g c = λ told.
    let old = g.O.Site.trace c.args.site.now in
    let journal : JournalView = record {
      plan_length = c.self.inside.plan_length;
      layout = c.self.inside.layout;
      bank =
          c.self.inside.bank;
      generation = c.self.inside.generation;
      used = c.self.inside.used;
    } in
    let opened : IsOpen old journal = subst (λ (view : JournalView). IsOpen old view) (sym c.self.view_is)
    (c.requires.opened told) in
    let slot = c.slot_at-slot.result in
    let spare = c.bank_at-spare.result in
    let sites : Sites old.now.image journal slot spare = record {
      of_image = opened.of_image;
      slot_is = c.slot_at-slot.ensures
          ∙ ap (λ (n : ℕ). slot_at c.self.inside.layout n c.self.inside.used) c.bank_at-at.ensures;
      spare_is = c.bank_at-spare.ensures ∙ ap (bank_at c.self.inside.layout) c.other.ensures;
    } in
    let mid = g.O.Site.trace c.close_slot.new.site in
    let closed = g.O.Site.trace c.close_gate.new.site in
    let closing : Closing old.now.image mid.now.image closed.now.image journal slot spare = record {
      sites = sites;
      still = subst (λ (view : JournalView). IsStill view.layout old.now.image) (sym c.self.view_is)
          (c.requires.shut told);
      first = c.in_ok-close_slot.ensures.ends told;
      slot_shut = (c.in_ok-close_slot.ensures.closed told).1;
      second = c.in_ok-close_gate.ensures.ends told;
      spare_shut = (c.in_ok-close_gate.ensures.closed told).1;
    } in
    subst (λ (view : JournalView). OnOk c.clear_others.result (IsSynced (g.O.Site.trace c.clear_others.new.site).now
    × IsClosed (g.O.Site.trace c.clear_others.new.site).now.image view ×
    (held (g.O.Site.trace c.clear_others.new.site).now.image ≡ held old.now.image))) c.self.view_is
    (settled_end c.clear_others.result old mid closed
    (g.O.Site.trace c.clear_others.new.site) journal slot spare closing
    (subst (λ (n : ℕ). OnOk c.clear_others.result (IsSynced (g.O.Site.trace c.clear_others.new.site).now
    × IsErased (spare + 1) (n - 1) closed.now.image (g.O.Site.trace c.clear_others.new.site).now.image))
    c.bank_length.ensures (c.clear_others.ensures.cleared told)))

pub returns-clause-beside : goal.returns-clause-beside
returns-clause-beside g c = λ told.
    let old = g.O.Site.trace c.args.site.now in
    let journal : JournalView = record {
      plan_length = c.self.inside.plan_length;
      layout = c.self.inside.layout;
      bank =
          c.self.inside.bank;
      generation = c.self.inside.generation;
      used = c.self.inside.used;
    } in
    let opened : IsOpen old journal = subst (λ (view : JournalView). IsOpen old view) (sym c.self.view_is)
    (c.requires.opened told) in
    let slot = c.slot_at-slot.result in
    let spare = c.bank_at-spare.result in
    let sites : Sites old.now.image journal slot spare = record {
      of_image = opened.of_image;
      slot_is = c.slot_at-slot.ensures
          ∙ ap (λ (n : ℕ). slot_at c.self.inside.layout n c.self.inside.used) c.bank_at-at.ensures;
      spare_is = c.bank_at-spare.ensures ∙ ap (bank_at c.self.inside.layout) c.other.ensures;
    } in
    let mid = g.O.Site.trace c.close_slot.new.site in
    let closed = g.O.Site.trace c.close_gate.new.site in
    let closing : Closing old.now.image mid.now.image closed.now.image journal slot spare = record {
      sites = sites;
      still = subst (λ (view : JournalView). IsStill view.layout old.now.image) (sym c.self.view_is)
          (c.requires.shut told);
      first = c.in_ok-close_slot.ensures.ends told;
      slot_shut = (c.in_ok-close_slot.ensures.closed told).1;
      second = c.in_ok-close_gate.ensures.ends told;
      spare_shut = (c.in_ok-close_gate.ensures.closed told).1;
    } in
    subst (λ (view : JournalView). OnOk c.clear_others.result
    (KeepsBeside view.layout old.now.image (g.O.Site.trace c.clear_others.new.site).now.image))
    c.self.view_is
    (settle_beside c.clear_others.result old mid closed (g.O.Site.trace c.clear_others.new.site) journal slot spare
    (omega arith) closing
    (subst (λ (n : ℕ). OnOk c.clear_others.result (IsSynced (g.O.Site.trace c.clear_others.new.site).now
    × IsErased (spare + 1) (n - 1) closed.now.image (g.O.Site.trace c.clear_others.new.site).now.image))
    c.bank_length.ensures (c.clear_others.ensures.cleared told)))
