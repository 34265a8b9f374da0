use Rattle.std.proofs.Common.{sym, subst, refl, ◌∙◌, inl, inr, Err}
use Rattle.counter_table.specs.Worker.{view}
use Rattle.counter_table.specs.declared.view.Numbers.{Numbers}
use Rattle.unit_book.specs.Book.{BookView}
use Rattle.unit_book.proofs.NeedsKnown.{names_key}
use Rattle.shared_unit.specs.Commanding.{Satisfies}
use Rattle.shared_unit.proofs.Steps.{goes_itself}
use Rattle.shared_unit.proofs.Passing.{reserves_changes}
use Rattle.shared_unit.proofs.Commands.{goes_up_then, satisfies_changes, satisfies_fits, holds_here, holds_of}
use Rattle.shared_unit.proofs.Commands.{holds_still, changes_known, handles_changes, refuses_changes}
use Rattle.shared_unit.proofs.unit.Unit.do_command.Goals as goal

pub returns-in_default-clause-holds : goal.returns-in_default-clause-holds
returns-in_default-clause-holds g c =
    holds_here c.args.held.now.book (view c.args.worker.now).turn _ c.requires.known refl

pub returns-in_default-clause-goes_on : goal.returns-in_default-clause-goes_on
returns-in_default-clause-goes_on g c = goes_itself c.args.held.now.book

pub returns-in_err-seen-clause-holds : goal.returns-in_err-seen-clause-holds
returns-in_err-seen-clause-holds g c =
    let found : BookView = c.args.held.now.book in
    let given : BookView = c.meet_need.new.held.book in
    let s = c.in_err-seen.ensures.seen in
    holds_still found found given (view c.args.worker.now).turn (view c.meet_need.new.worker).turn c.requires.known
    (goes_itself found)
    c.meet_need.ensures.goes_on.marks refl
    (reserves_changes s.0.key s.0.n (Err c.in_err-seen.field-0.0) found given s.0.reserved) (inl s.1)

pub command-requires : goal.command-requires
command-requires g c =
    let found : BookView = c.args.held.now.book in
    let middle : BookView = c.meet_need.new.held.book in
    let s = c.in_ok-seen.ensures.seen in
    record {
      seen = λ other there. satisfies_fits g.O.Site.told c.args.pdu.now c.in-Ok.need other c.in_ok-seen.seen found
          middle
          (view c.args.worker.now).numbers (view c.meet_need.new.worker).numbers s.0 c.in-Ok.ensures.need
          c.in-Ok.ensures.kept c.meet_need.ensures.kept c.meet_need.ensures.goes_on there;
    }

pub returns-in-Err-clause-holds : goal.returns-in-Err-clause-holds
returns-in-Err-clause-holds g c =
    let found : BookView = c.args.held.now.book in
    let middle : BookView = c.meet_need.new.held.book in
    let given : BookView = c.command.new.self in
    let s = c.in_ok-seen.ensures.seen in
    holds_still found middle given (view c.args.worker.now).turn (view c.meet_need.new.worker).turn c.requires.known
    c.meet_need.ensures.goes_on
    c.command.ensures.goes_on.marks
    (satisfies_changes c.in-Ok.need c.in_ok-seen.seen found middle (view c.args.worker.now).numbers
    (view c.meet_need.new.worker).numbers s.0)
    (refuses_changes c.args.index c.args.pdu.now c.in_ok-seen.seen middle given c.in-Err.fault c.in-Err.ensures.made)
    s.1

pub returns-in-Err-clause-goes_on : goal.returns-in-Err-clause-goes_on
returns-in-Err-clause-goes_on g c =
    goes_up_then c.args.held.now.book c.meet_need.new.held.book c.command.new.self c.meet_need.ensures.goes_on
    c.command.ensures.goes_on

pub turn_epoch_if_changed-requires-clause-known : goal.turn_epoch_if_changed-requires-clause-known
turn_epoch_if_changed-requires-clause-known g c =
    let found : BookView = c.args.held.now.book in
    let middle : BookView = c.meet_need.new.held.book in
    let s = c.in_ok-seen.ensures.seen in
    changes_known found middle (view c.args.worker.now).turn (view c.meet_need.new.worker).turn c.requires.known s.1
    ∙ sym (satisfies_changes c.in-Ok.need c.in_ok-seen.seen found middle (view c.args.worker.now).numbers
    (view c.meet_need.new.worker).numbers s.0)
    ∙ sym c.changes-before.ensures

pub turn_epoch_if_changed-requires-clause-one : goal.turn_epoch_if_changed-requires-clause-one
turn_epoch_if_changed-requires-clause-one g c =
    let middle : BookView = c.meet_need.new.held.book in
    let given : BookView = c.command.new.self in
    handles_changes c.args.index c.args.pdu.now c.in_ok-seen.seen middle given c.in-Ok-command.reply.0
    c.in-Ok-command.reply.1 c.changes-before.result
    c.in-Ok-command.ensures.made c.changes-before.ensures

pub returns-clause-holds : goal.returns-clause-holds
returns-clause-holds g c =
    let found : BookView = c.args.held.now.book in
    let middle : BookView = c.meet_need.new.held.book in
    let given : BookView = c.command.new.self in
    let s = c.in_ok-seen.ensures.seen in
    holds_of found middle given (view c.args.worker.now).turn (view c.meet_need.new.worker).turn
    (view c.turn_epoch_if_changed.new.worker).turn c.requires.known
    c.meet_need.ensures.goes_on c.command.ensures.goes_on.marks s.1 c.turn_epoch_if_changed.ensures.turn

pub returns-clause-goes_on : goal.returns-clause-goes_on
returns-clause-goes_on g c =
    goes_up_then c.args.held.now.book c.meet_need.new.held.book c.command.new.self c.meet_need.ensures.goes_on
    c.command.ensures.goes_on

pub meet_need-requires-clause-names : goal.meet_need-requires-clause-names
meet_need-requires-clause-names g c =
    names_key c.args.held.now.book.state c.args.pdu.now c.in-Ok.need c.in-Ok.ensures.kept.rules c.in-Ok.ensures.need

pub returns-in-Err-clause-step : goal.returns-in-Err-clause-step
returns-in-Err-clause-step g c =
    inr (
      c.in-Ok.need,
      c.in-Ok.ensures.need,
      inr (c.in_ok-seen.seen, c.meet_need.new.held.book, c.in_ok-seen.ensures.seen.0, c.in-Err.ensures.made),
    )

pub returns-clause-step : goal.returns-clause-step
returns-clause-step g c = (
  c.in-Ok.need,
  c.in_ok-seen.seen,
  c.meet_need.new.held.book,
  c.in-Ok.ensures.need,
  subst (λ (k : Numbers). Satisfies c.in-Ok.need c.in_ok-seen.seen c.args.held.now.book c.meet_need.new.held.book
      (view c.args.worker.now).numbers k)
      (sym c.turn_epoch_if_changed.ensures.same.1) c.in_ok-seen.ensures.seen.0,
  c.in-Ok-command.ensures.made,
)
