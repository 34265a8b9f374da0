use Rattle.std.proofs.Common.{◌≡◌, ℕ, ap, sym, subst, refl, arith, ◌∙◌, Ok, Err}
use Rattle.counter_table.specs.declared.view.Turn.{Turn}
use Rattle.counter_table.specs.declared.view.Numbers.{Numbers}
use Rattle.counter_table.specs.Turn.{learning}
use Rattle.counter_table.specs.Worker.{view}
use Rattle.unit_book.specs.Book.{BookView}
use Rattle.run_promise.specs.Numbers.{marks_of}
use Rattle.shared_unit.specs.Numbers.{Lifts}
use Rattle.shared_unit.proofs.Kept.{level_of}
use Rattle.shared_unit.proofs.Steps.{may_give, may_give_learned, visits, visits_learned}
use Rattle.shared_unit.proofs.Trust.{row_held}
use Rattle.shared_unit.proofs.Passing.{ready_after, reserves_changes, same_twice}
use Rattle.shared_unit.proofs.unit.Unit.fund.Goals as goal

pub reserve_and_spend-requires-clause-place : goal.reserve_and_spend-requires-clause-place
reserve_and_spend-requires-clause-place g c =
    row_held c.args.permit.now (view c.args.worker.now).turn c.take-held.result.book c.take-held.ensures.follows
    c.requires.permit
    (level_of g.O.Site.told c.take-held.result.book c.look.ensures)

pub give-requires-clause-book : goal.give-requires-clause-book
give-requires-clause-book g c =
    let found : BookView = c.take-held.result.book in
    let given : BookView = c.reserve_and_spend.new.held.book in
    let f = c.in-Err.ensures.funded in
    may_give _ found given (ap (λ (t : Turn). t.known) (f.2 ∙ c.take-held.ensures.turn))
    c.reserve_and_spend.ensures.goes_on
    (reserves_changes c.args.permit.now.binding.key c.args.ticket.1 (Err c.in-Err.fault) found given f.0)

pub give-requires-2-clause-book : goal.give-requires-2-clause-book
give-requires-2-clause-book g c =
    let found : BookView = c.take-held.result.book in
    let given : BookView = c.reserve_and_spend.new.held.book in
    let f = c.in-Ok.ensures.funded in
    may_give_learned _ found given
    (ap (λ (t : Turn). t.known) f.3 ∙ ap (λ (t : Turn). (learning (marks_of given.state) t).known)
    c.take-held.ensures.turn) c.reserve_and_spend.ensures.goes_on
    (reserves_changes c.args.permit.now.binding.key c.args.ticket.1 (Ok f.1.0) found given f.1.1)

pub returns-in-Err-clause-step : goal.returns-in-Err-clause-step
returns-in-Err-clause-step g c =
    let found : BookView = c.take-held.result.book in
    let given : BookView = c.reserve_and_spend.new.held.book in
    let f = c.in-Err.ensures.funded in (
      c.give.ensures.same.1 ∙ f.1 ∙ c.take-held.ensures.same.1,
      (
        found,
        given,
        visits g.O.Site.told found given (view c.args.worker.now).turn (view c.reserve_and_spend.new.worker).turn
            (view c.give.new.worker).turn
            c.reserve_and_spend.ensures.was_kept c.reserve_and_spend.ensures.kept c.take-held.ensures.follows
            c.reserve_and_spend.ensures.goes_on (f.2 ∙ c.take-held.ensures.turn) c.give.ensures.turn,
        f.0,
        c.count-count.ensures.count,
      ),
    )

pub returns-in-Err-clause-ready : goal.returns-in-Err-clause-ready
returns-in-Err-clause-ready g c =
    let found : BookView = c.take-held.result.book in
    let given : BookView = c.reserve_and_spend.new.held.book in
    let f = c.in-Err.ensures.funded in
    ready_after g.O.Site.told _ _ c.args.worker.now c.give.new.worker found given c.requires.ready
    (same_twice c.args.worker.now c.reserve_and_spend.new.worker c.give.new.worker
    (same_twice c.args.worker.now c.take-held.new.worker c.reserve_and_spend.new.worker c.take-held.ensures.same.0
    c.reserve_and_spend.ensures.same) c.give.ensures.same.0)
    (visits g.O.Site.told found given (view c.args.worker.now).turn (view c.reserve_and_spend.new.worker).turn
    (view c.give.new.worker).turn
    c.reserve_and_spend.ensures.was_kept c.reserve_and_spend.ensures.kept c.take-held.ensures.follows
    c.reserve_and_spend.ensures.goes_on (f.2 ∙ c.take-held.ensures.turn) c.give.ensures.turn)

pub returns-clause-step : goal.returns-clause-step
returns-clause-step g c =
    let found : BookView = c.take-held.result.book in
    let given : BookView = c.reserve_and_spend.new.held.book in
    let f = c.in-Ok.ensures.funded in
    let same : c.number-number.result ≡ c.args.ticket.1 = c.number-number.ensures ∙ ap (λ (p : ℕ × ℕ). p.1) f.0 in
    let row = c.args.permit.now.row in (
      same,
      record {
        key = refl;
        epoch = refl;
        below = (let b = c.requires.ticket.1 in omega arith);
        count = c.shield-length.ensures.count;
        frame = c.shield-length.ensures.protected;
      },
      subst (λ (k : Numbers). Lifts row c.args.ticket.1 k (view c.give-2.new.worker).numbers) c.take-held.ensures.same.1
          (subst (λ (k : Numbers). Lifts row c.args.ticket.1 (view c.take-held.new.worker).numbers k)
          (sym c.give-2.ensures.same.1) f.2),
      (
        found,
        given,
        f.1.0,
        visits_learned g.O.Site.told found given (view c.args.worker.now).turn
            (view c.reserve_and_spend.new.worker).turn (view c.give-2.new.worker).turn
            c.reserve_and_spend.ensures.was_kept c.reserve_and_spend.ensures.kept c.take-held.ensures.follows
            c.reserve_and_spend.ensures.goes_on
            (f.3 ∙ ap (learning (marks_of given.state)) c.take-held.ensures.turn) c.give-2.ensures.turn,
        f.1.1,
      ),
    )

pub returns-clause-ready : goal.returns-clause-ready
returns-clause-ready g c =
    let found : BookView = c.take-held.result.book in
    let given : BookView = c.reserve_and_spend.new.held.book in
    let f = c.in-Ok.ensures.funded in
    ready_after g.O.Site.told _ _ c.args.worker.now c.give-2.new.worker found given c.requires.ready
    (same_twice c.args.worker.now c.reserve_and_spend.new.worker c.give-2.new.worker
    (same_twice c.args.worker.now c.take-held.new.worker c.reserve_and_spend.new.worker c.take-held.ensures.same.0
    c.reserve_and_spend.ensures.same) c.give-2.ensures.same.0)
    (visits_learned g.O.Site.told found given (view c.args.worker.now).turn (view c.reserve_and_spend.new.worker).turn
    (view c.give-2.new.worker).turn
    c.reserve_and_spend.ensures.was_kept c.reserve_and_spend.ensures.kept c.take-held.ensures.follows
    c.reserve_and_spend.ensures.goes_on
    (f.3 ∙ ap (learning (marks_of given.state)) c.take-held.ensures.turn) c.give-2.ensures.turn)

pub returns-in-Err-clause-covered : goal.returns-in-Err-clause-covered
returns-in-Err-clause-covered g c =
    let found : BookView = c.take-held.result.book in
    let given : BookView = c.reserve_and_spend.new.held.book in
    let f = c.in-Err.ensures.funded in
    record {
      found = found;
      given = given;
      visits = visits g.O.Site.told found given (view c.args.worker.now).turn (view c.reserve_and_spend.new.worker).turn
          (view c.give.new.worker).turn
          c.reserve_and_spend.ensures.was_kept c.reserve_and_spend.ensures.kept c.take-held.ensures.follows
          c.reserve_and_spend.ensures.goes_on (f.2 ∙ c.take-held.ensures.turn) c.give.ensures.turn;
      covered = rw c.args.self.now.rows at c.take-held.ensures.covered;
    }

pub returns-clause-covered : goal.returns-clause-covered
returns-clause-covered g c =
    let found : BookView = c.take-held.result.book in
    let given : BookView = c.reserve_and_spend.new.held.book in
    let f = c.in-Ok.ensures.funded in
    record {
      found = found;
      given = given;
      visits = visits_learned g.O.Site.told found given (view c.args.worker.now).turn
          (view c.reserve_and_spend.new.worker).turn (view c.give-2.new.worker).turn
          c.reserve_and_spend.ensures.was_kept c.reserve_and_spend.ensures.kept c.take-held.ensures.follows
          c.reserve_and_spend.ensures.goes_on
          (f.3 ∙ ap (learning (marks_of given.state)) c.take-held.ensures.turn) c.give-2.ensures.turn;
      covered = rw c.args.self.now.rows at c.take-held.ensures.covered;
    }
