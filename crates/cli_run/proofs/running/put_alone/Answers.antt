use Rattle.std.proofs.Common.{◌∙◌, ap}
use Rattle.counter_table.specs.declared.view.Numbers.{Numbers}
use Rattle.counter_table.specs.Worker.{view}
use Rattle.cli_run.proofs.Alone.{put_one, whole_after}
use Rattle.cli_run.proofs.running.put_alone.Goals as goal

pub returns-clause-alone : goal.returns-clause-alone
returns-clause-alone g c =
    let (found, given, visits, put, covered, known) = c.put.ensures.put in
    let alone = c.requires.alone in
    record {
      ready = c.put.ensures.ready;
      shares = ap (λ (n : Numbers). n.shares) c.put.ensures.numbers.1 ∙ alone.shares;
      whole = whole_after g.O.Site.told c.args.octets.now c.put.result
          (view c.args.worker.now) (view c.put.new.worker) found given alone.ready.free c.put.ensures.numbers.1 visits
          put (known alone.shares) alone.whole;
    }

pub returns-clause-puts : goal.returns-clause-puts
returns-clause-puts g c =
    let (found, given, visits, put, covered, known) = c.put.ensures.put in
    let alone = c.requires.alone in
    put_one g.O.Site.told c.args.octets.now c.put.result
    (view c.args.worker.now) (view c.put.new.worker) found given alone.ready.free c.put.ensures.numbers.1 visits put
    (known alone.shares)
    (λ begin tasks visited. c.putting_works.ensures begin (view c.args.worker.now) (view c.put.new.worker) found given
    tasks c.args.octets.now c.put.result visited put)
    (λ begin visited. c.putting_settles.ensures begin (view c.args.worker.now) (view c.put.new.worker) found given
    c.args.octets.now c.put.result visited put covered)
