use Rattle.std.proofs.Common.{◌∙◌, ap, sym}
use Rattle.counter_table.specs.declared.view.Numbers.{Numbers}
use Rattle.counter_table.specs.Worker.{view}
use Rattle.cli_run.proofs.Looking.{counted_is, looked, opening_is, whole_still}
use Rattle.cli_run.proofs.running.count_alone.Goals as goal

pub returns-clause-alone : goal.returns-clause-alone
returns-clause-alone g c =
    let (found, visits, is, known) = c.count.ensures.counted in
    let alone = c.requires.alone in
    record {
      ready = c.count.ensures.ready;
      shares = ap (λ (n : Numbers). n.shares) c.count.ensures.numbers.1 ∙ alone.shares;
      whole = whole_still g.O.Site.told (view c.args.worker.now) (view c.count.new.worker) found alone.ready.free
          c.count.ensures.numbers.1 visits
          (known alone.shares) alone.whole;
    }

pub returns-clause-counted : goal.returns-clause-counted
returns-clause-counted g c =
    let (found, visits, is, known) = c.count.ensures.counted in
    let alone = c.requires.alone in
    is ∙ sym (counted_is g.O.Site.told (view c.args.worker.now) (view c.count.new.worker) found alone.ready.free
    c.count.ensures.numbers.1 visits
    (known alone.shares))

pub returns-clause-opening : goal.returns-clause-opening
returns-clause-opening g c =
    let (found, visits, is, known) = c.count.ensures.counted in
    let alone = c.requires.alone in
    opening_is g.O.Site.told (view c.args.worker.now) (view c.count.new.worker) found alone.ready.free
    c.count.ensures.numbers.1 visits (known alone.shares)

pub returns-clause-looked : goal.returns-clause-looked
returns-clause-looked g c = λ tasks begin began.
    let (found, visits, is, known) = c.count.ensures.counted in
    let alone = c.requires.alone in
    looked g.O.Site.told (view c.args.worker.now) (view c.count.new.worker) found alone.ready.free
    c.count.ensures.numbers.1 visits (known alone.shares)
    begin tasks began (c.visiting_works.ensures begin (view c.args.worker.now) (view c.count.new.worker) found tasks)
