-- The acceptance of a number is a change that the state allows.
use Rattle.std.proofs.Common.{◌≡◌, ℕ, ◌+◌, ◌-◌, ◌<◌, ◌≤◌, min, Bool, true, false, cond, nat_lt, Option, IsSomeAnd, refl}
use Rattle.std.proofs.Common.{sym, ap, subst, arith}
use Rattle.std.specs.Option.{option_map_or}
use Rattle.std.proofs.lemmas.Bool.Decides.{nat_tests}
use Rattle.sdls_base.specs.KeyId.{end_of}
use Rattle.sdls_base.specs.declared.entry.Change.TheVariants.{Accepted}
use Rattle.sdls_base.specs.declared.entry.Change.TheVariants as changes
use Rattle.key_book.specs.declared.key_row.KeyRow.{KeyRow}
use Rattle.unit_plan.specs.PlanLines.{PlanLines}
use Rattle.unit_state.specs.declared.state.State.{State}
use Rattle.unit_state.specs.State.{KeepsRules}
use Rattle.unit_state.specs.Allows.{Allows}
use Rattle.frame_checks.specs.declared.opening_frames.OpenReply.{OpenReply}
use Rattle.frame_checks.specs.declared.opening_frames.OpenReply.TheVariants as opens
use Rattle.frame_checks.specs.Accepting.{MayBeAccepted}
use Rattle.run_promise.specs.Numbers.{floor_of}
use Rattle.run_promise.specs.History.{raised_floor, frame_change}
use Rattle.run_promise.proofs.Marking.{IsThere, is_there, floor_below}

-- a floor that is raised covers the number, and lies below the end
record IsRaised (floor number end raised : ℕ) : Type 0 where
  pub grown : floor ≤ raised
  pub covered : number ≤ raised
  pub below : raised < end

raised_by : (floor number accept end : ℕ) (b : Bool) → nat_lt floor number ≡ b → floor < end → number < end → 1 ≤ accept
    → IsRaised floor number end (cond b (min (number + accept - 1) (end - 1)) floor)
raised_by floor number accept end true test low below some =
    let above : floor < number = grind (arith, nat_tests) in
    record { grown = omega arith; covered = omega arith; below = omega arith }
raised_by floor number accept end false test low below some =
    let covered : number ≤ floor = grind (arith, nat_tests) in
    record { grown = omega arith; covered = covered; below = low }

pub accept_allowed : (plan : PlanLines) (state : State) (spi key number : ℕ) → KeepsRules state
    → MayBeAccepted state spi key number
    → 1 ≤ plan.accept → Allows state (Accepted spi key number (raised_floor plan state key number))
accept_allowed plan state spi key number rules may some =
    let at : IsThere state key = is_there state key rules may.held in
    let raised : IsRaised (floor_of state key) number (end_of key) (raised_floor plan state key number) =
    raised_by (floor_of state key) number plan.accept (end_of key) (nat_lt (floor_of state key) number) refl
    (floor_below state key rules may.held) may.below_end some in
    record {
      row = may.row;
      held = subst (λ (o : Option KeyRow). IsSomeAnd o (λ held. held.floor ≤ raised_floor plan state key number))
          (sym at.is)
          (subst (λ (n : ℕ). n ≤ raised_floor plan state key number)
          (ap (λ (o : Option KeyRow). option_map_or (λ (row : KeyRow). row.floor) o 0) at.is) raised.grown);
      covered = raised.covered;
      below_end = raised.below;
    }

-- a reply that is not Accepted changes nothing
pub nothing_changed : (plan : PlanLines) (state : State) (reply : OpenReply)
    → ((spi key number from to : ℕ) → reply ≡ opens.Accepted spi key number from to → ⊥)
    → changes.Nothing ≡ frame_change plan state reply
nothing_changed plan state (opens.Accepted spi key number from to) not = absurd (not spi key number from to refl)
nothing_changed plan state opens.Clear not = refl
nothing_changed plan state (opens.Layout number) not = refl
nothing_changed plan state opens.Channel not = refl
nothing_changed plan state opens.Spi not = refl
nothing_changed plan state opens.Direction not = refl
nothing_changed plan state (opens.State held) not = refl
nothing_changed plan state opens.Coverage not = refl
nothing_changed plan state opens.Mac not = refl
nothing_changed plan state (opens.Number key number high width) not = refl
