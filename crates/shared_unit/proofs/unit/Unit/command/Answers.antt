use Rattle.std.proofs.Common.{ap, sym, subst, ◌∙◌, Ok, Err}
use Rattle.counter_table.specs.declared.view.Numbers.{Numbers}
use Rattle.counter_table.specs.Worker.{view}
use Rattle.unit_book.specs.Book.{BookView}
use Rattle.shared_unit.specs.Commanding.{IsCommanded}
use Rattle.shared_unit.proofs.Commands.{holds_gives, holds_visits}
use Rattle.shared_unit.proofs.Shares.{commanded_shares}
use Rattle.shared_unit.proofs.Passing.{ready_after, same_twice}
use Rattle.shared_unit.proofs.unit.Unit.command.Goals as goal

pub give-requires-clause-book : goal.give-requires-clause-book
give-requires-clause-book g c =
    let found : BookView = c.take-held.result.book in
    let given : BookView = c.do_command-result.new.held.book in
    holds_gives found given (view c.args.worker.now).turn (view c.take-held.new.worker).turn
    (view c.do_command-result.new.worker).turn c.take-held.ensures.turn
    c.do_command-result.ensures.holds c.do_command-result.ensures.goes_on

pub returns-in-Ok-clause-commanded : goal.returns-in-Ok-clause-commanded
returns-in-Ok-clause-commanded g c =
    let found : BookView = c.take-held.result.book in
    let given : BookView = c.do_command-result.new.held.book in (
      found,
      given,
      (holds_visits g.O.Site.told found given (view c.args.worker.now).turn (view c.take-held.new.worker).turn
          (view c.do_command-result.new.worker).turn (view c.give.new.worker).turn
          c.do_command-result.ensures.was_kept c.do_command-result.ensures.kept c.take-held.ensures.follows
          c.do_command-result.ensures.goes_on c.take-held.ensures.turn
          c.do_command-result.ensures.holds c.give.ensures.turn),
      subst (λ (k : Numbers). IsCommanded c.args.index c.args.pdu.now (Ok c.in-Ok.reply) found given
          (view c.args.worker.now).numbers k) (sym c.give.ensures.same.1)
          (subst (λ (k : Numbers). IsCommanded c.args.index c.args.pdu.now (Ok c.in-Ok.reply) found given k
          (view c.do_command-result.new.worker).numbers) c.take-held.ensures.same.1 c.in-Ok.ensures.step),
    )

pub returns-in-Ok-clause-ready : goal.returns-in-Ok-clause-ready
returns-in-Ok-clause-ready g c =
    let found : BookView = c.take-held.result.book in
    let given : BookView = c.do_command-result.new.held.book in
    ready_after g.O.Site.told _ _ c.args.worker.now c.give.new.worker found given c.requires.ready
    (same_twice c.args.worker.now c.do_command-result.new.worker c.give.new.worker
    (same_twice c.args.worker.now c.take-held.new.worker c.do_command-result.new.worker c.take-held.ensures.same.0
    c.do_command-result.ensures.same) c.give.ensures.same.0)
    (holds_visits g.O.Site.told found given (view c.args.worker.now).turn (view c.take-held.new.worker).turn
    (view c.do_command-result.new.worker).turn (view c.give.new.worker).turn
    c.do_command-result.ensures.was_kept c.do_command-result.ensures.kept c.take-held.ensures.follows
    c.do_command-result.ensures.goes_on c.take-held.ensures.turn
    c.do_command-result.ensures.holds c.give.ensures.turn)

pub returns-in-Err-clause-commanded : goal.returns-in-Err-clause-commanded
returns-in-Err-clause-commanded g c =
    let found : BookView = c.take-held.result.book in
    let given : BookView = c.do_command-result.new.held.book in (
      found,
      given,
      (holds_visits g.O.Site.told found given (view c.args.worker.now).turn (view c.take-held.new.worker).turn
          (view c.do_command-result.new.worker).turn (view c.give.new.worker).turn
          c.do_command-result.ensures.was_kept c.do_command-result.ensures.kept c.take-held.ensures.follows
          c.do_command-result.ensures.goes_on c.take-held.ensures.turn
          c.do_command-result.ensures.holds c.give.ensures.turn),
      (
        subst (λ (k : Numbers). IsCommanded c.args.index c.args.pdu.now (Err c.in-Err.fault) found given
            (view c.args.worker.now).numbers k) (sym c.give.ensures.same.1)
            (subst (λ (k : Numbers). IsCommanded c.args.index c.args.pdu.now (Err c.in-Err.fault) found given k
            (view c.do_command-result.new.worker).numbers) c.take-held.ensures.same.1 c.in-Err.ensures.step),
        c.count-count.ensures.count,
      ),
    )

pub returns-in-Err-clause-ready : goal.returns-in-Err-clause-ready
returns-in-Err-clause-ready g c =
    let found : BookView = c.take-held.result.book in
    let given : BookView = c.do_command-result.new.held.book in
    ready_after g.O.Site.told _ _ c.args.worker.now c.give.new.worker found given c.requires.ready
    (same_twice c.args.worker.now c.do_command-result.new.worker c.give.new.worker
    (same_twice c.args.worker.now c.take-held.new.worker c.do_command-result.new.worker c.take-held.ensures.same.0
    c.do_command-result.ensures.same) c.give.ensures.same.0)
    (holds_visits g.O.Site.told found given (view c.args.worker.now).turn (view c.take-held.new.worker).turn
    (view c.do_command-result.new.worker).turn (view c.give.new.worker).turn
    c.do_command-result.ensures.was_kept c.do_command-result.ensures.kept c.take-held.ensures.follows
    c.do_command-result.ensures.goes_on c.take-held.ensures.turn
    c.do_command-result.ensures.holds c.give.ensures.turn)

pub returns-in-Ok-clause-shares : goal.returns-in-Ok-clause-shares
returns-in-Ok-clause-shares g c =
    ap (λ (k : Numbers). k.shares) c.give.ensures.same.1
    ∙ commanded_shares c.args.index c.args.pdu.now (Ok c.in-Ok.reply) c.take-held.result.book
    c.do_command-result.new.held.book
    (view c.take-held.new.worker).numbers (view c.do_command-result.new.worker).numbers c.in-Ok.ensures.step
    ∙ ap (λ (k : Numbers). k.shares) c.take-held.ensures.same.1

pub returns-in-Err-clause-shares : goal.returns-in-Err-clause-shares
returns-in-Err-clause-shares g c =
    ap (λ (k : Numbers). k.shares) c.give.ensures.same.1
    ∙ commanded_shares c.args.index c.args.pdu.now (Err c.in-Err.fault) c.take-held.result.book
    c.do_command-result.new.held.book
    (view c.take-held.new.worker).numbers (view c.do_command-result.new.worker).numbers c.in-Err.ensures.step
    ∙ ap (λ (k : Numbers). k.shares) c.take-held.ensures.same.1

pub returns-in-Ok-clause-covered : goal.returns-in-Ok-clause-covered
returns-in-Ok-clause-covered g c =
    let found : BookView = c.take-held.result.book in
    let given : BookView = c.do_command-result.new.held.book in
    record {
      found = found;
      given = given;
      visits = holds_visits g.O.Site.told found given (view c.args.worker.now).turn (view c.take-held.new.worker).turn
          (view c.do_command-result.new.worker).turn (view c.give.new.worker).turn
          c.do_command-result.ensures.was_kept c.do_command-result.ensures.kept c.take-held.ensures.follows
          c.do_command-result.ensures.goes_on c.take-held.ensures.turn
          c.do_command-result.ensures.holds c.give.ensures.turn;
      covered = rw c.args.self.now.rows at c.take-held.ensures.covered;
    }

pub returns-in-Err-clause-covered : goal.returns-in-Err-clause-covered
returns-in-Err-clause-covered g c =
    let found : BookView = c.take-held.result.book in
    let given : BookView = c.do_command-result.new.held.book in
    record {
      found = found;
      given = given;
      visits = holds_visits g.O.Site.told found given (view c.args.worker.now).turn (view c.take-held.new.worker).turn
          (view c.do_command-result.new.worker).turn (view c.give.new.worker).turn
          c.do_command-result.ensures.was_kept c.do_command-result.ensures.kept c.take-held.ensures.follows
          c.do_command-result.ensures.goes_on c.take-held.ensures.turn
          c.do_command-result.ensures.holds c.give.ensures.turn;
      covered = rw c.args.self.now.rows at c.take-held.ensures.covered;
    }
