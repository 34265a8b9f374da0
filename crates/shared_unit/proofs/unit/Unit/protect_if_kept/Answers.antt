use Rattle.std.proofs.Common.{◌≡◌, ℕ, false, not, eqb, List, Ok, Some, Result, Option, sym, ap, refl, arith, ◌∙◌}
use Rattle.std.proofs.lemmas.Bool.Decides.{nat_tests}
use Rattle.unit_plan.specs.PlanLines.{PlanLines}
use Rattle.frame_shield.specs.declared.protecting_frames.ShieldFault.{ShieldFault}
use Rattle.frame_checks.specs.ProtectingFrames.{channel_check}
use Rattle.shared_unit.specs.declared.permit.Permit.{Permit}
use Rattle.counter_table.specs.Worker.{view}
use Rattle.shared_unit.specs.Permit.{IsTrueFor, IsOfPermit}
use Rattle.shared_unit.proofs.Trust.{permit_stays}
use Rattle.shared_unit.proofs.Passing.{passes_none, passes_grows}
use Rattle.shared_unit.proofs.Covering.{covers_none}
use Rattle.shared_unit.proofs.Naming.{loads_kept}
use Rattle.shared_unit.proofs.Renewing.{by_kept_step}
use Rattle.shared_unit.proofs.unit.Unit.protect_if_kept.Goals as goal

same_number : (a b : ℕ) → false ≡ not (eqb a b) → a ≡ b
same_number a b h = grind (arith, nat_tests)

of_frame : (plan : PlanLines) (p : Permit) (link channel : ℕ) (clear : List ℕ) → p.link ≡ link → p.channel ≡ channel
    → channel_check plan link clear ≡ Ok (Some channel) → IsOfPermit plan p clear
of_frame plan p link channel clear linked same on =
    ap (λ (n : ℕ). channel_check plan n clear) linked ∙ on
    ∙ ap (λ (n : ℕ). let r : Result (Option ℕ) ShieldFault = Ok (Some n) in r) (sym same)

pub protect_with_kept-requires-clause-frame : goal.protect_with_kept-requires-clause-frame
protect_with_kept-requires-clause-frame g c =
    of_frame c.args.self.now.plan c.in-Some.permit c.args.link c.args.channel c.args.clear.now c.if-permit-link.false
    (same_number c.in-Some.permit.channel c.args.channel (sym c.if-ne.false ∙ c.ne.ensures)) c.requires.channel

pub returns-in_default-clause-turn : goal.returns-in_default-clause-turn
returns-in_default-clause-turn g c = passes_none g.O.Site.told _ _ refl

pub returns-clause-step : goal.returns-clause-step
returns-clause-step g c =
    let p = c.in-Some.permit in
    let v = (view c.args.worker.now).turn in
    let w = (view c.protect_with_kept.new.worker).turn in
    let is : IsTrueFor p w = permit_stays p v w (passes_grows g.O.Site.told v w c.protect_with_kept.ensures.turn)
    (rw c.in-Some.is at c.requires.kept) in
    by_kept_step g.O.Site.told p c.args.clear.now c.protect_with_kept.new.out c.args.self.now.plan c.args.kept.now
    c.args.link
    c.protect_with_kept.result (view c.args.worker.now) (view c.protect_with_kept.new.worker)
    c.protect_with_kept.ensures.step c.in-Some.is record {
      linked = c.if-permit-link.false;
      frame = of_frame c.args.self.now.plan p c.args.link c.args.channel c.args.clear.now c.if-permit-link.false
          (same_number p.channel c.args.channel (sym c.if-ne.false ∙ c.ne.ensures)) c.requires.channel;
      trusted = is;
    }

pub returns-in_default-clause-covered : goal.returns-in_default-clause-covered
returns-in_default-clause-covered g c = covers_none g.O.Site.told _ _ refl

pub returns-clause-loads : goal.returns-clause-loads
returns-clause-loads g c =
    loads_kept c.args.self.now.plan c.args.link c.args.clear.now c.args.kept.now c.in-Some.permit
    (view c.args.worker.now).turn (view c.protect_with_kept.new.worker).turn c.in-Some.is c.if-permit-link.false
    (of_frame c.args.self.now.plan c.in-Some.permit c.args.link c.args.channel c.args.clear.now c.if-permit-link.false
    (same_number c.in-Some.permit.channel c.args.channel (sym c.if-ne.false ∙ c.ne.ensures)) c.requires.channel)
    c.protect_with_kept.ensures.loads

pub returns-then-permit-link-clause-turn : goal.returns-then-permit-link-clause-turn
returns-then-permit-link-clause-turn g c = passes_none g.O.Site.told _ _ refl

pub returns-then-permit-link-clause-covered : goal.returns-then-permit-link-clause-covered
returns-then-permit-link-clause-covered g c = covers_none g.O.Site.told _ _ refl

pub returns-then-ne-clause-turn : goal.returns-then-ne-clause-turn
returns-then-ne-clause-turn g c = passes_none g.O.Site.told _ _ refl

pub returns-then-ne-clause-covered : goal.returns-then-ne-clause-covered
returns-then-ne-clause-covered g c = covers_none g.O.Site.told _ _ refl
