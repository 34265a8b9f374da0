-- Behind a fault of the site no entry is made.
use Rattle.std.proofs.Common.{Bool, ◌&&◌, sym, subst}
use Rattle.std.specs.Prelude.{IsTrue}
use Rattle.std.specs.List.{AllPairs, slice_index_or}
use Rattle.record_io.specs.Places.{records_of}
use Rattle.unit_plan.specs.PlanLines.{PlanLines}
use Rattle.unit_state.specs.declared.state.State.{State}
use Rattle.run_promise.specs.Account.{course_of, deeds_in}
use Rattle.run_promise.specs.Call.{CallSeen, ShowsAtEntry}
use Rattle.run_promise.specs.Deed.{Deed}
use Rattle.run_promise.specs.Ends.{RunEnds}
use Rattle.run_promise.specs.History.{NearWord}
use Rattle.law_history.proofs.Behind.{is_of_entry, unmade_code}
use Rattle.law_runs.specs.Says.{StopsBehind}
use Rattle.law_image.proofs.Images.{ShowsOne}
use Rattle.law_runs.proofs.ByImage.{ShowsSome, serves_from}

pub stops_behind : ShowsSome → ShowsOne → (call : CallSeen) (run : RunEnds call) (plan : PlanLines) (state : State)
    → IsTrue call.told → ShowsAtEntry call plan state → AllPairs StopsBehind (deeds_in run.account)
stops_behind some once call run plan state told shows i j d lt low turn failed entered =
    let sound = (serves_from some call run told once plan state shows).sound.run in
    let ended = (sound.order i j d lt low turn).ended failed in
    let other : Deed = slice_index_or (deeds_in run.account) j d in
    unmade_code (NearWord state call.entries (records_of run.account.handled)) (course_of call run.account plan state)
    other.task other.answer other.task.kind entered (sound.answers j d low)
    (λ code. ended.0 (subst (λ (b : Bool). IsTrue (b && is_of_entry other.answer.code)) (sym entered) code)) ended.1
