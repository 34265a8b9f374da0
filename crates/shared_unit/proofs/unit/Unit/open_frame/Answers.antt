use Rattle.std.proofs.Common.{List, ℕ, ap, subst}
use Rattle.counter_table.specs.declared.view.Turn.{Turn}
use Rattle.counter_table.specs.Worker.{view}
use Rattle.frame_checks.specs.Accepting.{LeavesOctets, field_in}
use Rattle.unit_book.specs.Book.{BookView}
use Rattle.unit_book.specs.Records.{OpensWithEntry, RefusesFrame}
use Rattle.shared_unit.specs.Told.{known_of_book}
use Rattle.shared_unit.proofs.Opening.{opens_found, true_after}
use Rattle.shared_unit.proofs.Steps.{may_give, visits}
use Rattle.shared_unit.proofs.Passing.{ready_after, same_twice}
use Rattle.shared_unit.proofs.unit.Unit.open_frame.Goals as goal

pub give-requires-clause-book : goal.give-requires-clause-book
give-requires-clause-book g c =
    let found : BookView = c.take-held.result.book in
    let given : BookView = c.open_in-result.new.shared in
    may_give _ found given (ap (λ (t : Turn). t.known) c.take-held.ensures.turn) c.open_in-result.ensures.goes_on
    c.open_in-result.ensures.changes

pub open_in-result-requires-clause-kept : goal.open_in-result-requires-clause-kept
open_in-result-requires-clause-kept g c =
    opens_found g.O.Site.told c.args.kept.now (view c.args.worker.now).turn c.take-held.result.book
    c.take-held.ensures.follows c.look.ensures c.requires.kept

pub returns-in-Ok-clause-opened : goal.returns-in-Ok-clause-opened
returns-in-Ok-clause-opened g c =
    let found : BookView = c.take-held.result.book in
    let given : BookView = c.open_in-result.new.shared in
    let answer = c.in-Ok.answer in
    let frame = c.open_in-result.new.frame in (
      found,
      given,
      visits g.O.Site.told found given (view c.args.worker.now).turn (view c.take-held.new.worker).turn
          (view c.give.new.worker).turn
          c.open_in-result.ensures.was_kept c.open_in-result.ensures.is_kept c.take-held.ensures.follows
          c.open_in-result.ensures.goes_on c.take-held.ensures.turn c.give.ensures.turn,
      subst (λ (l : List ℕ). OpensWithEntry c.args.index c.args.link l (field_in answer.0 frame) found given answer.0
          answer.1 × LeavesOctets answer.0 l frame)
          c.requires.octets c.in-Ok.ensures.made,
    )

pub returns-in-Ok-clause-ready : goal.returns-in-Ok-clause-ready
returns-in-Ok-clause-ready g c =
    let found : BookView = c.take-held.result.book in
    let given : BookView = c.open_in-result.new.shared in
    ready_after g.O.Site.told _ _ c.args.worker.now c.give.new.worker found given c.requires.ready
    (same_twice c.args.worker.now c.take-held.new.worker c.give.new.worker c.take-held.ensures.same.0
    c.give.ensures.same.0)
    (visits g.O.Site.told found given (view c.args.worker.now).turn (view c.take-held.new.worker).turn
    (view c.give.new.worker).turn
    c.open_in-result.ensures.was_kept c.open_in-result.ensures.is_kept c.take-held.ensures.follows
    c.open_in-result.ensures.goes_on c.take-held.ensures.turn c.give.ensures.turn)

pub returns-in-Ok-clause-kept : goal.returns-in-Ok-clause-kept
returns-in-Ok-clause-kept g c =
    let found : BookView = c.take-held.result.book in
    let given : BookView = c.open_in-result.new.shared in
    true_after g.O.Site.told _ _ found (known_of_book given) (view c.args.worker.now).turn (view c.give.new.worker).turn
    c.open_in-result.ensures.renewed
    c.open_in-result.ensures.was_kept
    (visits g.O.Site.told found given (view c.args.worker.now).turn (view c.take-held.new.worker).turn
    (view c.give.new.worker).turn
    c.open_in-result.ensures.was_kept c.open_in-result.ensures.is_kept c.take-held.ensures.follows
    c.open_in-result.ensures.goes_on c.take-held.ensures.turn c.give.ensures.turn).takes
    c.requires.kept

pub returns-in-Err-clause-opened : goal.returns-in-Err-clause-opened
returns-in-Err-clause-opened g c =
    let found : BookView = c.take-held.result.book in
    let given : BookView = c.open_in-result.new.shared in (
      found,
      given,
      visits g.O.Site.told found given (view c.args.worker.now).turn (view c.take-held.new.worker).turn
          (view c.give.new.worker).turn
          c.open_in-result.ensures.was_kept c.open_in-result.ensures.is_kept c.take-held.ensures.follows
          c.open_in-result.ensures.goes_on c.take-held.ensures.turn c.give.ensures.turn,
      (
        subst (λ (l : List ℕ). RefusesFrame c.args.index c.args.link l found given c.in-Err.fault) c.requires.octets
            c.in-Err.ensures.made,
        c.count-count.ensures.count,
      ),
    )

pub returns-in-Err-clause-ready : goal.returns-in-Err-clause-ready
returns-in-Err-clause-ready g c =
    let found : BookView = c.take-held.result.book in
    let given : BookView = c.open_in-result.new.shared in
    ready_after g.O.Site.told _ _ c.args.worker.now c.give.new.worker found given c.requires.ready
    (same_twice c.args.worker.now c.take-held.new.worker c.give.new.worker c.take-held.ensures.same.0
    c.give.ensures.same.0)
    (visits g.O.Site.told found given (view c.args.worker.now).turn (view c.take-held.new.worker).turn
    (view c.give.new.worker).turn
    c.open_in-result.ensures.was_kept c.open_in-result.ensures.is_kept c.take-held.ensures.follows
    c.open_in-result.ensures.goes_on c.take-held.ensures.turn c.give.ensures.turn)

pub returns-in-Err-clause-kept : goal.returns-in-Err-clause-kept
returns-in-Err-clause-kept g c =
    let found : BookView = c.take-held.result.book in
    let given : BookView = c.open_in-result.new.shared in
    true_after g.O.Site.told _ _ found (known_of_book given) (view c.args.worker.now).turn (view c.give.new.worker).turn
    c.open_in-result.ensures.renewed
    c.open_in-result.ensures.was_kept
    (visits g.O.Site.told found given (view c.args.worker.now).turn (view c.take-held.new.worker).turn
    (view c.give.new.worker).turn
    c.open_in-result.ensures.was_kept c.open_in-result.ensures.is_kept c.take-held.ensures.follows
    c.open_in-result.ensures.goes_on c.take-held.ensures.turn c.give.ensures.turn).takes
    c.requires.kept

pub returns-in-Ok-clause-covered : goal.returns-in-Ok-clause-covered
returns-in-Ok-clause-covered g c =
    let found : BookView = c.take-held.result.book in
    let given : BookView = c.open_in-result.new.shared in
    record {
      found = found;
      given = given;
      visits = visits g.O.Site.told found given (view c.args.worker.now).turn (view c.take-held.new.worker).turn
          (view c.give.new.worker).turn
          c.open_in-result.ensures.was_kept c.open_in-result.ensures.is_kept c.take-held.ensures.follows
          c.open_in-result.ensures.goes_on c.take-held.ensures.turn c.give.ensures.turn;
      covered = rw c.args.self.now.rows at c.take-held.ensures.covered;
    }

pub returns-in-Err-clause-covered : goal.returns-in-Err-clause-covered
returns-in-Err-clause-covered g c =
    let found : BookView = c.take-held.result.book in
    let given : BookView = c.open_in-result.new.shared in
    record {
      found = found;
      given = given;
      visits = visits g.O.Site.told found given (view c.args.worker.now).turn (view c.take-held.new.worker).turn
          (view c.give.new.worker).turn
          c.open_in-result.ensures.was_kept c.open_in-result.ensures.is_kept c.take-held.ensures.follows
          c.open_in-result.ensures.goes_on c.take-held.ensures.turn c.give.ensures.turn;
      covered = rw c.args.self.now.rows at c.take-held.ensures.covered;
    }
