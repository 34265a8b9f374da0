use Rattle.std.proofs.Common.{ap}
use Rattle.counter_table.specs.declared.view.Turn.{Turn}
use Rattle.counter_table.specs.Worker.{view}
use Rattle.unit_book.specs.Book.{BookView}
use Rattle.shared_unit.proofs.Steps.{may_give, visits}
use Rattle.shared_unit.proofs.Passing.{ready_after, same_twice}
use Rattle.shared_unit.proofs.unit.Unit.put.Goals as goal

pub give-requires-clause-book : goal.give-requires-clause-book
give-requires-clause-book g c =
    let found : BookView = c.take-held.result.book in
    let given : BookView = c.put-result.new.self in
    may_give _ found given (ap (λ (t : Turn). t.known) c.take-held.ensures.turn) c.put-result.ensures.goes_on
    c.put-result.ensures.changes

pub returns-clause-put : goal.returns-clause-put
returns-clause-put g c =
    let found : BookView = c.take-held.result.book in
    let given : BookView = c.put-result.new.self in (
      found,
      given,
      visits g.O.Site.told found given (view c.args.worker.now).turn (view c.take-held.new.worker).turn
          (view c.give.new.worker).turn
          c.put-result.ensures.was_kept c.put-result.ensures.kept c.take-held.ensures.follows
          c.put-result.ensures.goes_on c.take-held.ensures.turn c.give.ensures.turn,
      c.put-result.ensures.put,
      rw c.args.self.now.rows at c.take-held.ensures.covered,
      c.take-held.ensures.as_known,
    )

pub returns-clause-ready : goal.returns-clause-ready
returns-clause-ready g c =
    let found : BookView = c.take-held.result.book in
    let given : BookView = c.put-result.new.self in
    ready_after g.O.Site.told _ _ c.args.worker.now c.give.new.worker found given c.requires.ready
    (same_twice c.args.worker.now c.take-held.new.worker c.give.new.worker c.take-held.ensures.same.0
    c.give.ensures.same.0)
    (visits g.O.Site.told found given (view c.args.worker.now).turn (view c.take-held.new.worker).turn
    (view c.give.new.worker).turn
    c.put-result.ensures.was_kept c.put-result.ensures.kept c.take-held.ensures.follows c.put-result.ensures.goes_on
    c.take-held.ensures.turn c.give.ensures.turn)
