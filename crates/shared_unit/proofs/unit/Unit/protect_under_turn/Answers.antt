use Rattle.std.proofs.Common.{◌≡◌, ℕ, ap, sym, subst, refl, ◌∙◌, arith, Ok, rules}
use Rattle.counter_table.specs.Turn.{learning}
use Rattle.counter_table.specs.Worker.{view}
use Rattle.unit_book.specs.Book.{BookView}
use Rattle.run_promise.specs.Numbers.{marks_of}
use Rattle.shared_unit.specs.Numbers.{UsesNumber}
use Rattle.shared_unit.specs.Funding.{Reserves}
use Rattle.shared_unit.proofs.Using.{holder_uses}
use Rattle.shared_unit.proofs.unit.Unit.protect_under_turn.Goals as goal

pub returns-clause-step : goal.returns-clause-step
returns-clause-step g c =
    let found : BookView = c.args.held.now.book in
    let given : BookView = c.reserve_and_spend.new.held.book in
    let d = c.in-Ok.ensures.drawn in
    let f = c.in-Ok-reserve_and_spend.ensures.funded in
    let same : c.number-number.result ≡ c.in-Ok.ticket.1 = c.number-number.ensures ∙ ap (λ (p : ℕ × ℕ). p.1) f.0 in
    let uses = holder_uses _ _ _ _ _ _ d.3 f.2 in (
      search rules,
      record {
        key = refl;
        epoch = refl;
        below = (let b = d.1 in omega arith);
        count = c.shield-length.ensures.count;
        frame = c.shield-length.ensures.protected;
      },
      subst (λ (n : ℕ). UsesNumber c.args.permit.now.row n 0 (view c.args.worker.now).numbers
          (view c.reserve_and_spend.new.worker).numbers) (sym same) uses,
      f.3 ∙ ap (learning (marks_of given.state)) c.draw_below.ensures.same.1,
      (f.1.0, subst (λ (n : ℕ). Reserves c.args.permit.now.binding.key n (Ok f.1.0) found given) (sym same) f.1.1),
    )
