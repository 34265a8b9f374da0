use Rattle.std.proofs.Common.{◌≡◌, ℕ, ap, sym, subst, ◌∙◌, arith, inr}
use Rattle.counter_table.specs.Turn.{learning}
use Rattle.counter_table.specs.Worker.{view}
use Rattle.unit_book.specs.Book.{BookView}
use Rattle.run_promise.specs.Numbers.{marks_of}
use Rattle.shared_unit.specs.Commanding.{DrawsFor}
use Rattle.shared_unit.proofs.Using.{holder_uses}
use Rattle.shared_unit.proofs.unit.Unit.draw_and_reserve.Goals as goal

pub returns-clause-seen : goal.returns-clause-seen
returns-clause-seen g c =
    let found : BookView = c.args.held.now.book in
    let given : BookView = c.reserve_and_spend.new.held.book in
    let d = c.in-Ok.ensures.drawn in
    let f = c.in_ok-funded.ensures.funded in
    let same : c.number.result ≡ c.in-Ok.ticket.1 = c.number.ensures ∙ ap (λ (p : ℕ × ℕ). p.1) f.0 in
    let uses = holder_uses _ _ _ _ _ _ d.3 f.2 in
    let for_ticket : DrawsFor c.args.key c.in-Ok.ticket.1 found given (view c.args.worker.now).numbers
    (view c.reserve_and_spend.new.worker).numbers =
    record {
      row = c.row_in-row.result;
      place = c.row_in-row.ensures.row;
      below = (let b = d.1 in omega arith);
      mark = f.1.0;
      reserved = f.1.1;
      uses = uses;
    } in (
      subst (λ (n : ℕ). DrawsFor c.args.key n found given (view c.args.worker.now).numbers
          (view c.reserve_and_spend.new.worker).numbers) (sym same) for_ticket,
      inr (f.3 ∙ ap (learning (marks_of given.state)) c.draw_below.ensures.same.1),
    )
