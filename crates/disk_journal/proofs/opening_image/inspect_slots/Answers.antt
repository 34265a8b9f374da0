use Rattle.std.proofs.Common.{◌∙◌, sym, ap, refl}
use Rattle.disk_journal.proofs.Verdicts.{Looked, bank_inside, stray_verdict, clear_verdict}
use Rattle.disk_journal.proofs.opening_image.inspect_slots.Goals as goal

pub first_closed-requires-clause-within : goal.first_closed-requires-clause-within
first_closed-requires-clause-within g c = λ told.
    bank_inside (g.O.Site.trace c.args.site.now).now.image _ c.args.header.plan_length c.args.header.layout c.args.bank
    c.bank_at-at.result
    refl (c.requires.passed told) c.bank_at-at.ensures

pub stray_gate-requires-clause-within : goal.stray_gate-requires-clause-within
stray_gate-requires-clause-within g c = λ told.
    bank_inside (g.O.Site.trace c.args.site.now).now.image _ c.args.header.plan_length c.args.header.layout c.args.bank
    c.bank_at-at.result
    (ap (λ t. t.now.image) (c.first_closed.ensures.same told)) (c.requires.passed told) c.bank_at-at.ensures

pub returns-in-Some-clause-found : goal.returns-in-Some-clause-found
returns-in-Some-clause-found g c = λ told.
    let old = g.O.Site.trace c.args.site.now in
    let looked : Looked old.now.image c.args.header.plan_length c.args.header.layout c.args.bank c.args.generation
    c.bank_at-at.result
    c.in_ok-used.used = record {
      header = c.requires.passed told;
      newest = c.requires.newest told;
      place = c.bank_at-at.ensures;
      first = c.in_ok-used.ensures.found told;
    } in
    stray_verdict old (g.O.Site.trace c.first_closed.new.site) c.args.header.plan_length c.args.header.layout
    c.args.bank c.args.generation
    c.bank_at-at.result c.in_ok-used.used c.in-Some.offset looked (c.first_closed.ensures.same told)
    (sym c.in-Some.is ∙ c.in_ok-offset.ensures.found told)

pub returns-in-None-clause-found : goal.returns-in-None-clause-found
returns-in-None-clause-found g c = λ told.
    let old = g.O.Site.trace c.args.site.now in
    let looked : Looked old.now.image c.args.header.plan_length c.args.header.layout c.args.bank c.args.generation
    c.bank_at-at.result
    c.in_ok-used.used = record {
      header = c.requires.passed told;
      newest = c.requires.newest told;
      place = c.bank_at-at.ensures;
      first = c.in_ok-used.ensures.found told;
    } in
    clear_verdict old (g.O.Site.trace c.first_closed.new.site) c.args.header.plan_length c.args.header.layout
    c.args.bank c.args.generation
    c.bank_at-at.result c.in_ok-used.used looked (c.first_closed.ensures.same told)
    (sym c.in-None.is ∙ c.in_ok-offset.ensures.found told)
