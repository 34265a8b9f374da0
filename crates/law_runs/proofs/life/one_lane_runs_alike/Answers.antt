use Rattle.std.proofs.Common.{◌≡◌, ◌⊎◌, sym, ◌∙◌, ap, arith, inl, inr, length}
use Rattle.record_io.specs.declared.status.TheConstants.{DONE, MALFORMED}
use Rattle.run_promise.specs.declared.end.RunEnd.TheVariants.{SourceFault}
use Rattle.run_promise.specs.Call.{CallSeen}
use Rattle.run_promise.specs.Ends.{RunEnds}
use Rattle.law_runs.specs.Says.{IsUnfailed, RunsAlike}
use Rattle.law_runs.proofs.Alike.{none_fails, unfailed}
use Rattle.law_runs.proofs.Statuses.{all_done, source_failed}
use Rattle.law_runs.proofs.life.one_lane_runs_alike.Goals as goal

-- both have status 0: the site failed in neither
stood : (call : CallSeen) (run : RunEnds call) → call.status ≡ DONE → IsUnfailed call
stood call run zero = unfailed call run (λ five. absurd (let z = zero in omega arith)) (all_done call run zero).no_fault

pub returns : goal.returns
returns c = λ call other run again plan state ends source_told source_tells told tells left image shows one wants
    rewants.
    let whole : (call.status ≡ DONE) ⊎ (call.status ≡ MALFORMED) → other.status ≡ call.status → IsUnfailed call
    → IsUnfailed other
    → RunsAlike call other run.account again.account =
    λ status same still restill.
    let (handled, each, reach, retold) =
    c.one_input_is_handled_alike.ensures call other run again same status source_told source_tells left in
    let alike = c.one_lane_answers_alike.ensures call other run again plan state each reach told tells image shows
    handled one
    (none_fails call run still wants) (none_fails other again restill rewants) in
    record { answers = alike.answers; entries = alike.entries still restill; due = alike.due still restill retold } in
    elim ends [
      | inl zero ↦ whole (inl zero.0) (zero.1 ∙ sym zero.0) (stood call run zero.0) (stood other again zero.1)
      | inr more ↦ elim more [
        | inl three ↦ whole (inr three.0) (three.1 ∙ sym three.0) three.2 three.3
        | inr four ↦
            let (told_is, each) = source_failed call run four.status_is in
            let (retold_is, reach) = source_failed other again four.same_status in
            let alike = c.one_lane_answers_alike.ensures call other run again plan state each reach told tells image
            shows four.handled one
            (none_fails call run four.still wants) (none_fails other again four.still_again rewants) in
            let made : RunsAlike call other run.account again.account = record {
              answers = alike.answers;
              entries = alike.entries four.still four.still_again;
              due = alike.due four.still four.still_again (retold_is ∙ ap SourceFault four.count ∙ sym told_is);
            } in
            made
      ]
    ]
