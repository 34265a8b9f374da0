use Rattle.std.proofs.Common.{◌≡◌, ◌<◌, ◌≤◌, ℕ, arith, Ok, Err}
use Rattle.shared_unit.proofs.Passing.{passes_loads, passes_funded}
use Rattle.shared_unit.proofs.Renewing.{done_ready, done_funded, exhausted_ready, refused_funded}
use Rattle.shared_unit.proofs.Covering.{back_spent, covers_after, covers_loads}
use Rattle.shared_unit.proofs.unit.Unit.protect_with_kept.Goals as goal

pub returns-in-Done-clause-step : goal.returns-in-Done-clause-step
returns-in-Done-clause-step g c =
    done_ready g.O.Site.told c.args.permit.now c.args.clear.now _ c.in-Done.done _ _ c.in-Done.ensures.step

pub returns-in-Done-clause-turn : goal.returns-in-Done-clause-turn
returns-in-Done-clause-turn g c = passes_loads g.O.Site.told _ _ _ (c.in-Done.ensures.step).1

pub returns-in-Ok-clause-step : goal.returns-in-Ok-clause-step
returns-in-Ok-clause-step g c =
    done_funded g.O.Site.told c.args.permit.now c.args.clear.now _ c.in-Ok.done c.in-NeedBlock.ticket
    c.protect_ready.new.out _ _ _
    c.in-NeedBlock.ensures.step c.in-Ok.ensures.step

pub returns-in-Ok-clause-turn : goal.returns-in-Ok-clause-turn
returns-in-Ok-clause-turn g c =
    let f = (c.in-Ok.ensures.step).3 in
    passes_funded g.O.Site.told c.args.permit.now c.in-NeedBlock.ticket.1 (Ok f.2) _ _ _ f.0 f.1
    (c.in-NeedBlock.ensures.step).1 f.3 f.4

pub returns-in-Err-clause-step : goal.returns-in-Err-clause-step
returns-in-Err-clause-step g c =
    refused_funded g.O.Site.told c.args.permit.now c.args.clear.now c.fund.new.out c.in-Err.fault c.in-Err.position
    c.in-NeedBlock.ticket
    c.protect_ready.new.out _ _ _ c.in-NeedBlock.ensures.step c.in-Err.ensures.step

pub returns-in-Err-clause-turn : goal.returns-in-Err-clause-turn
returns-in-Err-clause-turn g c =
    let f = (c.in-Err.ensures.step).1 in
    passes_funded g.O.Site.told c.args.permit.now c.in-NeedBlock.ticket.1 (Err c.in-Err.fault) _ _ _ f.0 f.1
    (c.in-NeedBlock.ensures.step).1 f.2 f.3

pub returns-in-Stale-clause-step : goal.returns-in-Stale-clause-step
returns-in-Stale-clause-step g c =
    let s = c.in-Stale.ensures.step in
    let known = c.requires.permit.seen in
    (s.2, (_, above s.1 known s.3.later, s.3)) where
      above : {a b m : ℕ} → (a ≡ b → ⊥) → a ≤ m → m ≤ b → a < b
      above apart low high = omega arith

pub returns-in-Stale-clause-turn : goal.returns-in-Stale-clause-turn
returns-in-Stale-clause-turn g c = passes_loads g.O.Site.told _ _ _ (c.in-Stale.ensures.step).3

pub returns-in-Exhausted-clause-turn : goal.returns-in-Exhausted-clause-turn
returns-in-Exhausted-clause-turn g c = passes_loads g.O.Site.told _ _ _ (c.in-Exhausted.ensures.step).1

pub returns-in-Exhausted-clause-step : goal.returns-in-Exhausted-clause-step
returns-in-Exhausted-clause-step g c =
    exhausted_ready g.O.Site.told c.args.permit.now c.args.clear.now c.protect_ready.new.out c.in-Exhausted.number
    _ _ c.in-Exhausted.ensures.step

pub returns-in-Done-clause-covered : goal.returns-in-Done-clause-covered
returns-in-Done-clause-covered g c = covers_loads g.O.Site.told _ _ _ (c.in-Done.ensures.step).1

pub returns-in-Ok-clause-covered : goal.returns-in-Ok-clause-covered
returns-in-Ok-clause-covered g c =
    let need = c.in-NeedBlock.ensures.step in
    covers_after g.O.Site.told _ _ _ _ need.1 (back_spent _ _ _ _ _ need.4) c.fund.ensures.covered

pub returns-in-Err-clause-covered : goal.returns-in-Err-clause-covered
returns-in-Err-clause-covered g c =
    let need = c.in-NeedBlock.ensures.step in
    covers_after g.O.Site.told _ _ _ _ need.1 (back_spent _ _ _ _ _ need.4) c.fund.ensures.covered

pub returns-in-Stale-clause-covered : goal.returns-in-Stale-clause-covered
returns-in-Stale-clause-covered g c = covers_loads g.O.Site.told _ _ _ (c.in-Stale.ensures.step).3

pub returns-in-Exhausted-clause-covered : goal.returns-in-Exhausted-clause-covered
returns-in-Exhausted-clause-covered g c = covers_loads g.O.Site.told _ _ _ (c.in-Exhausted.ensures.step).1
