-- A protected frame fits in the lane's room and in its answer's body, for the clause `fits` of `protected_answer`.
use Rattle.std.proofs.Common.{◌≡◌, ℕ, ◌+◌, ◌≤◌, Bool, List, length, Option, arith}
use Rattle.sdls_base.specs.Link.{has_fecf}
use Rattle.unit_plan.specs.PlanLines.{PlanLines}
use Rattle.frame_shield.specs.declared.protecting_frames.TheConstants.{FRAME_ROOM}
use Rattle.frame_shield.proofs.Lengths.{gain_most, gains, most_short}
use Rattle.counter_table.specs.declared.view.View.{View}
use Rattle.shared_unit.specs.declared.permit.Permit.{Permit}
use Rattle.shared_unit.specs.declared.permit.Protected.{Protected}
use Rattle.shared_unit.specs.declared.permit.Protected.TheVariants as answers
use Rattle.shared_unit.specs.Protecting.{IsProtectStep}
use Rattle.frame_workers.specs.declared.lane.TheConstants.{MOST_GAIN}
use Rattle.frame_workers.specs.Bodies.{FitsIn}

pub fits : (told : Bool) (plan : PlanLines) (link : ℕ) (clear out : List ℕ) (kept : Option Permit) (answer : Protected)
    (v w : View) (room most : ℕ)
    → IsProtectStep told plan link clear out kept answer v w → room ≡ FRAME_ROOM → length clear + MOST_GAIN ≤ most
    → FitsIn answer room most
fits told plan link clear out kept (answers.Done d) v w room most (p, is, used, under) whole enough =
    let b = p.binding in
    let done = under.0.protected in
    let bounds = used.trusted.binding.link.layout in
    let gain = gain_most b.suite (has_fecf b.link.layout) in
    let long = gains b.suite b.link.layout done.frame.parts clear bounds done.frame.clear_framed in
    let short = most_short b.link.layout bounds in
    let count = done.count in
    (omega (arith, count, long, short, whole), omega (arith, count, gain, enough))
fits told plan link clear out kept answers.Clear v w room most step whole enough = tt
fits told plan link clear out kept (answers.Refused fault epoch) v w room most step whole enough = tt
fits told plan link clear out kept (answers.Exhausted key number epoch) v w room most step whole enough = tt
fits told plan link clear out kept (answers.Fault fault position) v w room most step whole enough = tt
