use Rattle.std.proofs.Common.{ap, refl, ◌∙◌}
use Rattle.counter_table.specs.declared.view.Opening.{Opening}
use Rattle.counter_table.specs.declared.view.Turn.{Turn}
use Rattle.counter_table.specs.Worker.{view}
use Rattle.unit_book.specs.Book.{BookView}
use Rattle.shared_unit.specs.Told.{known_of_book}
use Rattle.shared_unit.proofs.Kept.{level_of}
use Rattle.shared_unit.proofs.Steps.{goes_itself, may_give, visits}
use Rattle.shared_unit.proofs.Trust.{permitted}
use Rattle.shared_unit.proofs.Passing.{ready_after, same_twice}
use Rattle.shared_unit.proofs.unit.Unit.permit.Goals as goal

pub give-requires-clause-book : goal.give-requires-clause-book
give-requires-clause-book g c =
    let found : BookView = c.take-held.result.book in
    may_give _ found found (ap (λ (t : Turn). t.known) c.take-held.ensures.turn) (goes_itself found) refl

pub returns-clause-permitted : goal.returns-clause-permitted
returns-clause-permitted g c =
    let found : BookView = c.take-held.result.book in (
      found,
      visits g.O.Site.told found found (view c.args.worker.now).turn (view c.take-held.new.worker).turn
          (view c.give.new.worker).turn
          c.permit_in-reply.ensures.kept c.permit_in-reply.ensures.kept c.take-held.ensures.follows (goes_itself found)
          c.take-held.ensures.turn c.give.ensures.turn,
      c.permit_in-reply.ensures.permits,
    )

pub returns-clause-ready : goal.returns-clause-ready
returns-clause-ready g c =
    let found : BookView = c.take-held.result.book in
    ready_after g.O.Site.told _ _ c.args.worker.now c.give.new.worker found found c.requires.ready
    (same_twice c.args.worker.now c.take-held.new.worker c.give.new.worker c.take-held.ensures.same.0
    c.give.ensures.same.0)
    (visits g.O.Site.told found found (view c.args.worker.now).turn (view c.take-held.new.worker).turn
    (view c.give.new.worker).turn
    c.permit_in-reply.ensures.kept c.permit_in-reply.ensures.kept c.take-held.ensures.follows (goes_itself found)
    c.take-held.ensures.turn c.give.ensures.turn)

pub returns-clause-trusted : goal.returns-clause-trusted
returns-clause-trusted g c =
    let found : BookView = c.take-held.result.book in
    let kept = c.permit_in-reply.ensures.kept in
    permitted _ c.args.link c.args.clear.now c.permit_in-reply.result found (known_of_book found)
    (view c.args.worker.now).turn (view c.give.new.worker).turn c.permit_in-reply.ensures.permits
    (level_of g.O.Site.told found kept)
    (visits g.O.Site.told found found (view c.args.worker.now).turn (view c.take-held.new.worker).turn
    (view c.give.new.worker).turn
    kept kept c.take-held.ensures.follows (goes_itself found) c.take-held.ensures.turn c.give.ensures.turn).takes
    (ap (λ (o : Opening). o.plan) c.take-held.ensures.follows.opening ∙ c.requires.ready.planned)
