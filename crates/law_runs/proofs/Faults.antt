-- Where answers fit, one that tells a fault of the site says that the count had risen.
use Rattle.std.proofs.Common.{ℕ, ◌≤◌, List, [], ◌∷◌, length, arith, suc, zero}
use Rattle.std.specs.List.{All}
use Rattle.sdls_outside.specs.Faults.{Rose}
use Rattle.record_io.specs.declared.answers.Answer.{Answer}
use Rattle.record_io.specs.Places.{Place}
use Rattle.run_promise.specs.Answers.{SaysSiteFailed}
use Rattle.run_promise.specs.Fits.{Course, Fits}
use Rattle.run_promise.specs.Deed.{Deed}
use Rattle.run_promise.specs.Account.{deeds_from}
use Rattle.law_workers.proofs.Faults.{fault_rose}

-- of all answers, as far as they are of these places
pub told_rose : (near : ℕ → ℕ → Type 0) (course : Course) (places : List Place) (answers : List Answer)
    → length answers ≤ length places
    → All (λ (deed : Deed). Fits near course deed.task deed.answer) (deeds_from places answers)
    → All (λ (answer : Answer). SaysSiteFailed answer → Rose course.faults_before course.faults) answers
told_rose near course places [] few fit k d low fault = absurd (omega arith)
told_rose near course [] (answer ∷ answers) few fit k d low fault = absurd (omega arith)
told_rose near course (place ∷ places) (answer ∷ answers) few fit zero d low fault =
    fault_rose near course place.task answer
    (fit zero (record { task = place.task; segment = place.segment; answer = answer }) (omega arith)) fault
told_rose near course (place ∷ places) (answer ∷ answers) few fit (suc k) d low fault =
    told_rose near course places answers (omega arith) (λ j e inside. fit (suc j) e (omega arith)) k d (omega arith)
    fault
