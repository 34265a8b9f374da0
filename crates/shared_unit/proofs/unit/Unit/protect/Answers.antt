use Rattle.std.proofs.Common.{◌≡◌, ℕ, Some, None, Ok, Err, Option, Result, inl, refl, sym, subst, ap, arith, ◌∙◌}
use Rattle.std.specs.Prelude.{List}
use Rattle.frame_shield.specs.declared.protecting_frames.ShieldFault.{ShieldFault}
use Rattle.counter_table.specs.declared.view.Numbers.{Numbers}
use Rattle.counter_table.specs.Worker.{view}
use Rattle.shared_unit.specs.declared.permit.Permit.{Permit}
use Rattle.shared_unit.specs.Protecting.{IsTrueIfKept, LeavesUnprotected}
use Rattle.shared_unit.proofs.Shares.{kept_shares, step_shares}
use Rattle.shared_unit.proofs.Passing.{passes_none, passes_on, same_twice}
use Rattle.shared_unit.proofs.Covering.{covers_none, covers_on}
use Rattle.shared_unit.proofs.Renewing.{kept_step, step_from}
use Rattle.shared_unit.proofs.Naming.{found_epoch, loaded_epoch, loads_none, loads_on}
use Rattle.shared_unit.proofs.unit.Unit.protect.Goals as goal

-- what the plan says of the frame's channel
abbrev Channel : Type 0
Channel = Result (Option ℕ) ShieldFault

abbrev on : Option ℕ → Channel
on channel = Ok channel

apart : (channel : Channel) (fault : ShieldFault) (found : ℕ) → channel ≡ Err fault → channel ≡ on (Some found) → ⊥
apart channel fault found a b = cc

apart_clear : (channel : Channel) (found : ℕ) → channel ≡ on None → channel ≡ on (Some found) → ⊥
apart_clear channel found a b = cc

pub returns-in-Err : goal.returns-in-Err
returns-in-Err g c = record {
  ready = c.requires.ready;
  same = (refl, refl);
  shares = refl;
  turn = passes_none g.O.Site.told _ _ refl;
  step = (inl (sym c.channel.ensures ∙ c.in-Err.is, refl, refl), refl);
  kept = c.requires.kept;
  leaves = refl;
  covered = covers_none g.O.Site.told _ _ refl;
  epochs = λ channel passes. absurd (apart _ c.in-Err.fault channel (sym c.channel.ensures ∙ c.in-Err.is) passes);
  loads = loads_none c.args.self.now.plan c.args.link c.args.clear.now c.args.kept.now _
      (λ channel passes. apart _ c.in-Err.fault channel (sym c.channel.ensures ∙ c.in-Err.is) passes);
  turns = λ p d was linked of done epoch. omega arith;
  turns_kept = λ p was linked of low. omega arith;
}

pub returns-in-Ok-None : goal.returns-in-Ok-None
returns-in-Ok-None g c = record {
  ready = c.requires.ready;
  same = (refl, refl);
  shares = refl;
  turn = passes_none g.O.Site.told _ _ refl;
  step = (sym c.channel.ensures ∙ c.in-Ok-None.is ∙ ap on c.in-Ok-None.field-0-is, refl, refl);
  kept = c.requires.kept;
  leaves = refl;
  covered = covers_none g.O.Site.told _ _ refl;
  epochs = λ channel passes. tt;
  loads = loads_none c.args.self.now.plan c.args.link c.args.clear.now c.args.kept.now _
      (λ channel passes. apart_clear _ channel
      (sym c.channel.ensures ∙ c.in-Ok-None.is ∙ ap on c.in-Ok-None.field-0-is) passes);
  turns = λ p d was linked of done epoch. omega arith;
  turns_kept = λ p was linked of low. omega arith;
}

pub returns-in-Some : goal.returns-in-Some
returns-in-Some g c =
    let step = c.in-Some.ensures.step in
    record {
      ready = c.protect_if_kept.ensures.ready;
      same = c.protect_if_kept.ensures.same;
      shares = kept_shares g.O.Site.told step.0 c.args.clear.now c.protect_if_kept.new.out c.in-Some.answer
          (view c.args.worker.now) (view c.protect_if_kept.new.worker) step.3.0;
      turn = c.protect_if_kept.ensures.turn;
      step = kept_step g.O.Site.told c.args.self.now.plan c.args.link c.args.clear.now c.protect_if_kept.new.out
          c.args.kept.now c.in-Some.answer
          (view c.args.worker.now) (view c.protect_if_kept.new.worker) step c.protect_if_kept.ensures.ready.planned;
      kept = subst (λ (kept : Option Permit). IsTrueIfKept kept (view c.protect_if_kept.new.worker).turn) (sym step.1)
          step.2.trusted;
      leaves = c.in-Some.ensures.leaves;
      covered = c.protect_if_kept.ensures.covered;
      epochs = λ channel passes. loaded_epoch g.O.Site.told c.in-Some.answer
          (view c.args.worker.now).turn (view c.protect_if_kept.new.worker).turn c.in-Some.ensures.epoch;
      loads = c.protect_if_kept.ensures.loads;
      turns = λ p d was linked of done epoch. step.3.1;
      turns_kept = λ p was linked of low. step.3.1;
    }

pub returns : goal.returns
returns g c =
    let none = c.in_default.ensures.step in
    let new = c.protect_with_new in
    record {
      ready = new.ensures.ready;
      same = same_twice c.args.worker.now c.protect_if_kept.new.worker new.new.worker c.protect_if_kept.ensures.same
          new.ensures.same;
      shares = step_shares g.O.Site.told c.args.self.now.plan c.args.link c.args.clear.now new.new.out new.new.kept
          new.result
          (view c.protect_if_kept.new.worker) (view new.new.worker) new.ensures.step
          ∙ ap (λ (k : Numbers). k.shares) none.0;
      turn = passes_on g.O.Site.told (view c.args.worker.now).turn (view c.protect_if_kept.new.worker).turn
          (view new.new.worker).turn none.1 new.ensures.loads new.ensures.turn;
      step = step_from g.O.Site.told c.args.self.now.plan c.args.link c.args.clear.now new.new.out new.new.kept
          new.result
          (view c.args.worker.now) (view c.protect_if_kept.new.worker) (view new.new.worker) none.0 none.1
          new.ensures.loads c.in-Ok-Some.channel
          (sym c.channel.ensures ∙ c.in-Ok-Some.is ∙ ap on c.in-Ok-Some.field-0-is) new.ensures.step;
      kept = new.ensures.kept;
      leaves = subst (λ (room : List ℕ). LeavesUnprotected new.result room new.new.out) c.in_default.ensures.leaves
          new.ensures.leaves;
      covered = covers_on g.O.Site.told (view c.args.worker.now) (view c.protect_if_kept.new.worker)
          (view new.new.worker) none.0 none.1 new.ensures.covered;
      epochs = λ channel passes. found_epoch g.O.Site.told new.result
          (view c.args.worker.now).turn (view c.protect_if_kept.new.worker).turn (view new.new.worker).turn none.1
          new.ensures.loads new.ensures.epochs;
      loads = loads_on c.args.self.now.plan c.args.link c.args.clear.now c.args.kept.now
          (view c.args.worker.now).turn (view c.protect_if_kept.new.worker).turn (view new.new.worker).turn
          c.protect_if_kept.ensures.loads new.ensures.loads;
      turns = λ p d was linked of done epoch.
          absurd (let behind = none.2 p was linked of in let later = new.ensures.later d done in omega arith);
      turns_kept = λ p was linked of low.
          absurd (let behind = none.2 p was linked of in let still = new.ensures.epoch in omega arith);
    }
