use Rattle.std.proofs.Common.{ℕ, List, ◌∙◌, sym, ap, refl, subst}
use Rattle.disk_journal.specs.declared.layout.Bank.TheVariants.{First, Second}
use Rattle.disk_journal.specs.Journal.{IsCurrent}
use Rattle.disk_journal.proofs.Verdicts.{head_inside, IsFront, AreFronts, front_read, chosen_current, banks_verdict}
use Rattle.disk_journal.proofs.opening_image.inspect_banks.Goals as goal

pub read_front-requires-clause-within : goal.read_front-requires-clause-within
read_front-requires-clause-within g c = λ told.
    head_inside (g.O.Site.trace c.args.site.now).now.image _ c.args.header.plan_length c.args.header.layout First
    c.bank_at-first_at.result
    refl (c.requires.passed told) c.bank_at-first_at.ensures

pub read_front-requires-2-clause-within : goal.read_front-requires-2-clause-within
read_front-requires-2-clause-within g c = λ told.
    head_inside (g.O.Site.trace c.args.site.now).now.image _ c.args.header.plan_length c.args.header.layout Second
    c.bank_at-second_at.result
    (ap (λ t. t.now.image) (c.read_front.ensures.same told)) (c.requires.passed told) c.bank_at-second_at.ensures

pub inspect_slots-requires-clause-newest : goal.inspect_slots-requires-clause-newest
inspect_slots-requires-clause-newest g c = λ told.
    let old = g.O.Site.trace c.args.site.now in
    let layout = c.args.header.layout in
    let first = c.in_ok-first.first in
    let second = c.in_ok-second.second in
    let mid_same = ap (λ t. t.now.image) (c.read_front.ensures.same told) in
    let one : IsFront old.now.image layout First c.bank_at-first_at.result first.open first.generation =
    front_read old.now.image old.now.image layout First c.bank_at-first_at.result first.open first.generation refl
    c.bank_at-first_at.ensures
    (c.in_ok-first.ensures.front told) in
    let two : IsFront old.now.image layout Second c.bank_at-second_at.result second.open second.generation =
    front_read old.now.image (g.O.Site.trace c.read_front.new.site).now.image layout Second c.bank_at-second_at.result
    second.open second.generation
    mid_same c.bank_at-second_at.ensures (c.in_ok-second.ensures.front told) in
    let fronts : AreFronts old.now.image layout c.bank_at-first_at.result c.bank_at-second_at.result first.open
    second.open
    first.generation second.generation = record { one = one; two = two } in
    let same = ap (λ t. t.now.image) (c.read_front-2.ensures.same told ∙ c.read_front.ensures.same told) in
    subst (λ (image : List ℕ). IsCurrent image First first.generation) (sym same)
    (chosen_current old.now.image c.args.header.plan_length layout c.bank_at-first_at.result c.bank_at-second_at.result
    first.open second.open first.generation second.generation First c.bank_at-first_at.result first.generation
    first.open
    (c.requires.passed told) fronts one c.in-Ok-First.ensures.checked
    (sym c.in-Ok-First.field-0-is ∙ c.in-Ok-First.ensures.chosen))

pub inspect_slots-requires-in-Ok-Second-clause-newest : goal.inspect_slots-requires-in-Ok-Second-clause-newest
inspect_slots-requires-in-Ok-Second-clause-newest g c = λ told.
    let old = g.O.Site.trace c.args.site.now in
    let layout = c.args.header.layout in
    let first = c.in_ok-first.first in
    let second = c.in_ok-second.second in
    let mid_same = ap (λ t. t.now.image) (c.read_front.ensures.same told) in
    let one : IsFront old.now.image layout First c.bank_at-first_at.result first.open first.generation =
    front_read old.now.image old.now.image layout First c.bank_at-first_at.result first.open first.generation refl
    c.bank_at-first_at.ensures
    (c.in_ok-first.ensures.front told) in
    let two : IsFront old.now.image layout Second c.bank_at-second_at.result second.open second.generation =
    front_read old.now.image (g.O.Site.trace c.read_front.new.site).now.image layout Second c.bank_at-second_at.result
    second.open second.generation
    mid_same c.bank_at-second_at.ensures (c.in_ok-second.ensures.front told) in
    let fronts : AreFronts old.now.image layout c.bank_at-first_at.result c.bank_at-second_at.result first.open
    second.open
    first.generation second.generation = record { one = one; two = two } in
    let same = ap (λ t. t.now.image) (c.read_front-2.ensures.same told ∙ c.read_front.ensures.same told) in
    subst (λ (image : List ℕ). IsCurrent image Second second.generation) (sym same)
    (chosen_current old.now.image c.args.header.plan_length layout c.bank_at-first_at.result c.bank_at-second_at.result
    first.open second.open first.generation second.generation Second c.bank_at-second_at.result second.generation
    second.open
    (c.requires.passed told) fronts two c.in-Ok-Second.ensures.checked
    (sym c.in-Ok-Second.field-0-is ∙ c.in-Ok-Second.ensures.chosen))

pub returns-in-Err-clause-found : goal.returns-in-Err-clause-found
returns-in-Err-clause-found g c = λ told.
    let old = g.O.Site.trace c.args.site.now in
    let layout = c.args.header.layout in
    let first = c.in_ok-first.first in
    let second = c.in_ok-second.second in
    let mid_same = ap (λ t. t.now.image) (c.read_front.ensures.same told) in
    let one : IsFront old.now.image layout First c.bank_at-first_at.result first.open first.generation =
    front_read old.now.image old.now.image layout First c.bank_at-first_at.result first.open first.generation refl
    c.bank_at-first_at.ensures
    (c.in_ok-first.ensures.front told) in
    let two : IsFront old.now.image layout Second c.bank_at-second_at.result second.open second.generation =
    front_read old.now.image (g.O.Site.trace c.read_front.new.site).now.image layout Second c.bank_at-second_at.result
    second.open second.generation
    mid_same c.bank_at-second_at.ensures (c.in_ok-second.ensures.front told) in
    let fronts : AreFronts old.now.image layout c.bank_at-first_at.result c.bank_at-second_at.result first.open
    second.open
    first.generation second.generation = record { one = one; two = two } in
    banks_verdict old.now.image c.args.header.plan_length layout c.bank_at-first_at.result c.bank_at-second_at.result
    first.open second.open first.generation second.generation c.in-Err.offset
    (c.requires.passed told) fronts c.in-Err.ensures.checked
