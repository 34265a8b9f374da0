use Rattle.std.proofs.Common.{ap, refl}
use Rattle.counter_table.specs.declared.view.Turn.{Turn}
use Rattle.counter_table.specs.Worker.{view}
use Rattle.unit_book.specs.Book.{BookView}
use Rattle.shared_unit.proofs.Steps.{goes_itself, may_give, visits}
use Rattle.shared_unit.proofs.Passing.{ready_after, same_twice}
use Rattle.shared_unit.proofs.unit.Unit.count.Goals as goal

pub give-requires-clause-book : goal.give-requires-clause-book
give-requires-clause-book g c =
    let found : BookView = c.take-held.result.book in
    may_give _ found found (ap (λ (t : Turn). t.known) c.take-held.ensures.turn) (goes_itself found) refl

pub returns-clause-counted : goal.returns-clause-counted
returns-clause-counted g c =
    let found : BookView = c.take-held.result.book in (
      found,
      visits g.O.Site.told found found (view c.args.worker.now).turn (view c.take-held.new.worker).turn
          (view c.give.new.worker).turn
          c.count-count.ensures.kept c.count-count.ensures.kept c.take-held.ensures.follows (goes_itself found)
          c.take-held.ensures.turn c.give.ensures.turn,
      c.count-count.ensures.count,
      c.take-held.ensures.as_known,
    )

pub returns-clause-ready : goal.returns-clause-ready
returns-clause-ready g c =
    let found : BookView = c.take-held.result.book in
    ready_after g.O.Site.told _ _ c.args.worker.now c.give.new.worker found found c.requires.ready
    (same_twice c.args.worker.now c.take-held.new.worker c.give.new.worker c.take-held.ensures.same.0
    c.give.ensures.same.0)
    (visits g.O.Site.told found found (view c.args.worker.now).turn (view c.take-held.new.worker).turn
    (view c.give.new.worker).turn
    c.count-count.ensures.kept c.count-count.ensures.kept c.take-held.ensures.follows (goes_itself found)
    c.take-held.ensures.turn c.give.ensures.turn)
