use Rattle.std.proofs.Common.{◌≡◌, ℕ, Ok, Some, None, Option, Result, inl, inr, refl, sym, ap, ◌∙◌, arith}
use Rattle.frame_checks.specs.ProtectingFrames.{channel_check}
use Rattle.frame_shield.specs.declared.protecting_frames.ShieldFault.{ShieldFault}
use Rattle.unit_plan.specs.PlanLines.{PlanLines}
use Rattle.counter_table.specs.declared.view.Opening.{Opening}
use Rattle.counter_table.specs.declared.view.Turn.{Turn}
use Rattle.counter_table.specs.Worker.{view}
use Rattle.unit_book.specs.Book.{BookView}
use Rattle.shared_unit.specs.Told.{known_of_book}
use Rattle.shared_unit.specs.Turn.{Visits}
use Rattle.shared_unit.specs.Protecting.{Rests}
use Rattle.shared_unit.proofs.Kept.{level_of}
use Rattle.shared_unit.proofs.Steps.{goes_itself, may_give, visits}
use Rattle.shared_unit.proofs.Trust.{permit_true, of_permit}
use Rattle.shared_unit.proofs.Passing.{passes_served, kept_stays, ready_after, same_twice, visit_takes}
use Rattle.shared_unit.proofs.Renewing.{finished_gives, finished_visits, finished_adds, finished_under, refused_at}
use Rattle.shared_unit.proofs.Renewing.{under_step}
use Rattle.shared_unit.proofs.Naming.{finds, finished_epoch}
use Rattle.shared_unit.proofs.unit.Unit.protect_with_new.Goals as goal

pub unreachable-requires : goal.unreachable-requires
unreachable-requires g c =
    let found : BookView = c.take-held.result.book in
    let planned : found.plan ≡ c.args.self.now.plan =
    ap (λ (o : Opening). o.plan) c.take-held.ensures.follows.opening ∙ c.requires.ready.planned in
    apart _ _ (sym (ap (λ (l : PlanLines). channel_check l c.args.link c.args.clear.now) planned)
    ∙ (c.in-Clear.ensures.permits).0) c.requires.channel.1 where
      apart : (r : Result (Option ℕ) ShieldFault) (n : ℕ) → r ≡ Ok None → r ≡ Ok (Some n) → ⊥
      apart r n a b = cc

pub give-requires-clause-book : goal.give-requires-clause-book
give-requires-clause-book g c =
    let found : BookView = c.take-held.result.book in
    may_give _ found found (ap (λ (t : Turn). t.known) c.take-held.ensures.turn) (goes_itself found) refl

pub give-requires-in-Permit-clause-book : goal.give-requires-in-Permit-clause-book
give-requires-in-Permit-clause-book g c =
    finished_gives g.O.Site.told c.in-Permit.permit c.args.clear.now c.protect_under_turn-answer.new.out
    c.take-held.result.book c.protect_under_turn-answer.new.held.book
    c.protect_under_turn-answer.result (view c.args.worker.now).turn (view c.take-held.new.worker)
    (view c.protect_under_turn-answer.new.worker) c.protect_under_turn-answer.ensures.step
    c.protect_under_turn-answer.ensures.goes_on c.take-held.ensures.turn

pub returns-in-Refused-clause-turn : goal.returns-in-Refused-clause-turn
returns-in-Refused-clause-turn g c =
    let found : BookView = c.take-held.result.book in
    passes_served g.O.Site.told 0 found found (view c.args.worker.now).turn (view c.give.new.worker).turn
    (visits g.O.Site.told found found (view c.args.worker.now).turn (view c.take-held.new.worker).turn
    (view c.give.new.worker).turn
    c.in-Refused.ensures.kept c.in-Refused.ensures.kept c.take-held.ensures.follows (goes_itself found)
    c.take-held.ensures.turn c.give.ensures.turn) (inl refl)

pub returns-in-Refused-clause-kept : goal.returns-in-Refused-clause-kept
returns-in-Refused-clause-kept g c =
    let found : BookView = c.take-held.result.book in
    kept_stays g.O.Site.told c.args.kept.now (view c.args.worker.now).turn (view c.give.new.worker).turn
    (passes_served g.O.Site.told 0 found found (view c.args.worker.now).turn (view c.give.new.worker).turn
    (visits g.O.Site.told found found (view c.args.worker.now).turn (view c.take-held.new.worker).turn
    (view c.give.new.worker).turn
    c.in-Refused.ensures.kept c.in-Refused.ensures.kept c.take-held.ensures.follows (goes_itself found)
    c.take-held.ensures.turn c.give.ensures.turn) (inl refl))
    c.requires.kept

pub returns-in-Refused-clause-step : goal.returns-in-Refused-clause-step
returns-in-Refused-clause-step g c =
    let found : BookView = c.take-held.result.book in
    let planned : found.plan ≡ c.args.self.now.plan =
    ap (λ (o : Opening). o.plan) c.take-held.ensures.follows.opening ∙ c.requires.ready.planned in
    let visit = visits g.O.Site.told found found (view c.args.worker.now).turn (view c.take-held.new.worker).turn
    (view c.give.new.worker).turn
    c.in-Refused.ensures.kept c.in-Refused.ensures.kept c.take-held.ensures.follows (goes_itself found)
    c.take-held.ensures.turn c.give.ensures.turn in (
      inr (
        refused_at g.O.Site.told c.args.link c.args.clear.now c.in-Refused.fault c.in-Refused.epoch found
            (view c.args.worker.now).turn (view c.give.new.worker).turn
            c.in-Refused.ensures.permits (level_of g.O.Site.told found c.in-Refused.ensures.kept) visit (
              c.requires.channel.0,
              ap (λ (l : PlanLines). channel_check l c.args.link c.args.clear.now) planned
                  ∙ c.requires.channel.1,
            ),
        (let a = c.take-held.ensures.follows.epoch in let b = c.take-held.ensures.follows.earlier.changes in
            let e = c.in-Refused.ensures.permits.1 in omega arith),
        inr (visit_takes g.O.Site.told Rests found found (view c.args.worker.now).turn (view c.give.new.worker).turn
            visit refl),
      ),
      c.give.ensures.same.1 ∙ c.take-held.ensures.same.1,
    )

pub returns-in-Refused-clause-ready : goal.returns-in-Refused-clause-ready
returns-in-Refused-clause-ready g c =
    let found : BookView = c.take-held.result.book in
    ready_after g.O.Site.told _ _ c.args.worker.now c.give.new.worker found found c.requires.ready
    (same_twice c.args.worker.now c.take-held.new.worker c.give.new.worker c.take-held.ensures.same.0
    c.give.ensures.same.0)
    (visits g.O.Site.told found found (view c.args.worker.now).turn (view c.take-held.new.worker).turn
    (view c.give.new.worker).turn
    c.in-Refused.ensures.kept c.in-Refused.ensures.kept c.take-held.ensures.follows (goes_itself found)
    c.take-held.ensures.turn c.give.ensures.turn)

pub returns-in-Permit-clause-turn : goal.returns-in-Permit-clause-turn
returns-in-Permit-clause-turn g c =
    let found : BookView = c.take-held.result.book in
    let given : BookView = c.protect_under_turn-answer.new.held.book in
    let p = c.in-Permit.permit in
    passes_served g.O.Site.told p.binding.key found given (view c.args.worker.now).turn
    (view c.give-in-Permit.new.worker).turn
    (finished_visits g.O.Site.told p c.args.clear.now c.protect_under_turn-answer.new.out found given
    c.protect_under_turn-answer.result
    (view c.args.worker.now).turn (view c.give-in-Permit.new.worker).turn (view c.take-held.new.worker)
    (view c.protect_under_turn-answer.new.worker)
    c.protect_under_turn-answer.ensures.step c.protect_under_turn-answer.ensures.goes_on c.in-Permit.ensures.kept
    c.protect_under_turn-answer.ensures.kept c.take-held.ensures.follows
    c.take-held.ensures.turn c.give-in-Permit.ensures.turn)
    (finished_adds g.O.Site.told p c.args.clear.now c.protect_under_turn-answer.new.out found given
    c.protect_under_turn-answer.result (view c.take-held.new.worker) (view c.protect_under_turn-answer.new.worker)
    c.protect_under_turn-answer.ensures.step)

pub returns-in-Permit-clause-kept : goal.returns-in-Permit-clause-kept
returns-in-Permit-clause-kept g c =
    let found : BookView = c.take-held.result.book in
    let given : BookView = c.protect_under_turn-answer.new.held.book in
    let p = c.in-Permit.permit in
    (permit_true c.args.link c.args.clear.now p found (known_of_book given) (view c.args.worker.now).turn
    (view c.give-in-Permit.new.worker).turn
    c.in-Permit.ensures.permits (level_of g.O.Site.told found c.in-Permit.ensures.kept)
    (finished_visits g.O.Site.told p c.args.clear.now c.protect_under_turn-answer.new.out found given
    c.protect_under_turn-answer.result
    (view c.args.worker.now).turn (view c.give-in-Permit.new.worker).turn (view c.take-held.new.worker)
    (view c.protect_under_turn-answer.new.worker)
    c.protect_under_turn-answer.ensures.step c.protect_under_turn-answer.ensures.goes_on c.in-Permit.ensures.kept
    c.protect_under_turn-answer.ensures.kept c.take-held.ensures.follows
    c.take-held.ensures.turn c.give-in-Permit.ensures.turn).takes)

pub returns-in-Permit-clause-ready : goal.returns-in-Permit-clause-ready
returns-in-Permit-clause-ready g c =
    let found : BookView = c.take-held.result.book in
    let given : BookView = c.protect_under_turn-answer.new.held.book in
    let p = c.in-Permit.permit in
    ready_after g.O.Site.told _ _ c.args.worker.now c.give-in-Permit.new.worker found given c.requires.ready
    (same_twice c.args.worker.now c.protect_under_turn-answer.new.worker c.give-in-Permit.new.worker
    (same_twice c.args.worker.now c.take-held.new.worker c.protect_under_turn-answer.new.worker
    c.take-held.ensures.same.0 c.protect_under_turn-answer.ensures.same) c.give-in-Permit.ensures.same.0)
    (finished_visits g.O.Site.told p c.args.clear.now c.protect_under_turn-answer.new.out found given
    c.protect_under_turn-answer.result
    (view c.args.worker.now).turn (view c.give-in-Permit.new.worker).turn (view c.take-held.new.worker)
    (view c.protect_under_turn-answer.new.worker)
    c.protect_under_turn-answer.ensures.step c.protect_under_turn-answer.ensures.goes_on c.in-Permit.ensures.kept
    c.protect_under_turn-answer.ensures.kept c.take-held.ensures.follows
    c.take-held.ensures.turn c.give-in-Permit.ensures.turn)

pub returns-in-Permit-clause-step : goal.returns-in-Permit-clause-step
returns-in-Permit-clause-step g c =
    let found : BookView = c.take-held.result.book in
    let given : BookView = c.protect_under_turn-answer.new.held.book in
    let p = c.in-Permit.permit in
    let visit : Visits g.O.Site.told found given (view c.args.worker.now).turn (view c.give-in-Permit.new.worker).turn =
    (finished_visits g.O.Site.told p c.args.clear.now c.protect_under_turn-answer.new.out found given
    c.protect_under_turn-answer.result
    (view c.args.worker.now).turn (view c.give-in-Permit.new.worker).turn (view c.take-held.new.worker)
    (view c.protect_under_turn-answer.new.worker)
    c.protect_under_turn-answer.ensures.step c.protect_under_turn-answer.ensures.goes_on c.in-Permit.ensures.kept
    c.protect_under_turn-answer.ensures.kept c.take-held.ensures.follows
    c.take-held.ensures.turn c.give-in-Permit.ensures.turn) in
    let planned : found.plan ≡ c.args.self.now.plan =
    ap (λ (o : Opening). o.plan) c.take-held.ensures.follows.opening ∙ c.requires.ready.planned in
    let a = c.protect_under_turn-answer.result in
    let x = view c.args.worker.now in
    let y = view c.give-in-Permit.new.worker in
    under_step g.O.Site.told p c.args.clear.now c.protect_under_turn-answer.new.out c.args.self.now.plan c.args.link a x
    y
    (finished_under g.O.Site.told p c.args.clear.now c.protect_under_turn-answer.new.out found given a
    (view c.take-held.new.worker) (view c.protect_under_turn-answer.new.worker)
    x y c.protect_under_turn-answer.ensures.step (c.take-held.ensures.same).1 (c.give-in-Permit.ensures.same).1 visit
    (c.in-Permit.ensures.permits).2)
    record {
      linked = (c.in-Permit.ensures.permits).0;
      frame = of_permit c.args.link c.args.clear.now p found c.args.self.now.plan c.in-Permit.ensures.permits planned;
      trusted = permit_true c.args.link c.args.clear.now p found (known_of_book given) x.turn y.turn
          c.in-Permit.ensures.permits (level_of g.O.Site.told found c.in-Permit.ensures.kept) visit.takes;
    }
    (ap (λ (t : Turn). t.known.opening.plan) visit.takes.turn ∙ ap (λ (o : Opening). o.plan) visit.takes.opening
    ∙ planned) (Some p) refl

pub returns-in-Refused-clause-epochs : goal.returns-in-Refused-clause-epochs
returns-in-Refused-clause-epochs g c =
    let found : BookView = c.take-held.result.book in
    finds g.O.Site.told found found (view c.args.worker.now).turn (view c.give.new.worker).turn c.in-Refused.epoch
    (visits g.O.Site.told found found (view c.args.worker.now).turn (view c.take-held.new.worker).turn
    (view c.give.new.worker).turn
    c.in-Refused.ensures.kept c.in-Refused.ensures.kept c.take-held.ensures.follows (goes_itself found)
    c.take-held.ensures.turn c.give.ensures.turn)
    (sym c.in-Refused.ensures.permits.1)

pub returns-in-Permit-clause-epochs : goal.returns-in-Permit-clause-epochs
returns-in-Permit-clause-epochs g c =
    let found : BookView = c.take-held.result.book in
    let given : BookView = c.protect_under_turn-answer.new.held.book in
    let p = c.in-Permit.permit in
    finished_epoch g.O.Site.told p c.args.clear.now c.protect_under_turn-answer.new.out found given
    c.protect_under_turn-answer.result
    (view c.take-held.new.worker) (view c.protect_under_turn-answer.new.worker) (view c.args.worker.now).turn
    (view c.give-in-Permit.new.worker).turn
    c.protect_under_turn-answer.ensures.step (c.in-Permit.ensures.permits).2
    (finished_visits g.O.Site.told p c.args.clear.now c.protect_under_turn-answer.new.out found given
    c.protect_under_turn-answer.result
    (view c.args.worker.now).turn (view c.give-in-Permit.new.worker).turn (view c.take-held.new.worker)
    (view c.protect_under_turn-answer.new.worker)
    c.protect_under_turn-answer.ensures.step c.protect_under_turn-answer.ensures.goes_on c.in-Permit.ensures.kept
    c.protect_under_turn-answer.ensures.kept c.take-held.ensures.follows
    c.take-held.ensures.turn c.give-in-Permit.ensures.turn)

pub returns-in-Refused-clause-covered : goal.returns-in-Refused-clause-covered
returns-in-Refused-clause-covered g c =
    let found : BookView = c.take-held.result.book in
    record {
      found = found;
      given = found;
      visits = visits g.O.Site.told found found (view c.args.worker.now).turn (view c.take-held.new.worker).turn
          (view c.give.new.worker).turn
          c.in-Refused.ensures.kept c.in-Refused.ensures.kept c.take-held.ensures.follows (goes_itself found)
          c.take-held.ensures.turn c.give.ensures.turn;
      covered = rw c.args.self.now.rows at c.take-held.ensures.covered;
    }

pub returns-in-Permit-clause-covered : goal.returns-in-Permit-clause-covered
returns-in-Permit-clause-covered g c =
    let found : BookView = c.take-held.result.book in
    let given : BookView = c.protect_under_turn-answer.new.held.book in
    record {
      found = found;
      given = given;
      visits = finished_visits g.O.Site.told c.in-Permit.permit c.args.clear.now c.protect_under_turn-answer.new.out
          found given c.protect_under_turn-answer.result
          (view c.args.worker.now).turn (view c.give-in-Permit.new.worker).turn (view c.take-held.new.worker)
          (view c.protect_under_turn-answer.new.worker)
          c.protect_under_turn-answer.ensures.step c.protect_under_turn-answer.ensures.goes_on c.in-Permit.ensures.kept
          c.protect_under_turn-answer.ensures.kept c.take-held.ensures.follows
          c.take-held.ensures.turn c.give-in-Permit.ensures.turn;
      covered = rw c.args.self.now.rows at c.take-held.ensures.covered;
    }
