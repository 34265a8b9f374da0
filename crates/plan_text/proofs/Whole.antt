-- What is put for the text that was collected is what is put for the whole input, for `collect_and_put`.
use Rattle.std.proofs.Common.{◌≡◌, ℕ, ◌+◌, ◌<◌, ◌≤◌, List, ◌++◌, length, take, ap, sym, ◌∙◌, subst, arith, append-nil}
use Rattle.std.proofs.Common.{Ok, Err, inl, inr}
use Rattle.std.proofs.lemmas.Bool.{cases_lt}
use Rattle.std.proofs.lemmas.Bool.Decides.{nat_tests}
use Rattle.std.proofs.lemmas.List.{length-take-le, length-append}
use Rattle.sdls_outside.specs.Intake.{Collects}
use Rattle.unit_plan.specs.declared.plan_error.PlanCause.TheVariants as causes
use Rattle.unit_plan.specs.PlanError.{◌>>=◌, fault}
use Rattle.unit_plan.specs.Plan.{plan_of}
use Rattle.unit_plan.specs.PlanLines.{PlanLines}
use Rattle.unit_state.specs.Initial.{initial}
use Rattle.plan_text.specs.declared.check.PlanEnd.{PlanEnd}
use Rattle.plan_text.specs.declared.check.PlanEnd.TheVariants.{Plan, NoPlan, SourceFault, OutputFault, NoMemory}
use Rattle.plan_text.specs.Put.{EndsPlan, PutsPlan}

-- a text that is too long is refused for that
long_text : (text : List ℕ) → 65536 < length text → plan_of text ≡ fault 1 causes.Long
long_text text long = grind (arith, nat_tests)

whole : (most : ℕ) (left_old left_new buffer : List ℕ) (count : ℕ) → length buffer ≡ most + 1
    → Collects left_old left_new buffer count → count ≤ most → take count buffer ≡ left_old
whole most left_old left_new buffer count sized collects few =
    let ended = collects.ended (omega arith) in
    sym (collects.moved ∙ ap (λ (rest : List ℕ). take count buffer ++ rest) ended ∙ append-nil (take count buffer))

-- what was collected is the same plan as the whole input, or none for the same fault
same_plan : (left_old left_new buffer : List ℕ) (count : ℕ) → length buffer ≡ 65537
    → Collects left_old left_new buffer count
    → plan_of (take count buffer) ≡ plan_of left_old
same_plan left_old left_new buffer count sized collects = elim (cases_lt count 65537) [
  | inl short ↦ ap plan_of (whole 65536 left_old left_new buffer count (omega arith) collects (omega arith))
  | inr full ↦
      let taken : length (take count buffer) ≡ count = length-take-le count buffer collects.within in
      let grown : length left_old ≡ length (take count buffer) + length left_new
      = ap length collects.moved ∙ length-append (take count buffer) left_new in
      long_text (take count buffer) (omega arith) ∙ sym (long_text left_old (omega arith))
]

-- what was collected is the whole input if it is a plan
same_text : (left_old left_new buffer : List ℕ) (count : ℕ) → length buffer ≡ 65537
    → Collects left_old left_new buffer count
    → (plan : PlanLines) → plan_of (take count buffer) ≡ Ok plan → take count buffer ≡ left_old
same_text left_old left_new buffer count sized collects plan read = elim (cases_lt count 65537) [
  | inl short ↦ whole 65536 left_old left_new buffer count (omega arith) collects (omega arith)
  | inr full ↦
      let taken : length (take count buffer) ≡ count = length-take-le count buffer collects.within in
      absurd (cc (sym read ∙ long_text (take count buffer) (omega arith)))
]

-- texts that are the same plan, or none for the same fault, have the same put for them
pub puts_alike : (text input old new : List ℕ) (end : PlanEnd) → plan_of text ≡ plan_of input
    → ((plan : PlanLines) → plan_of text ≡ Ok plan → text ≡ input) → PutsPlan text old new end
    → PutsPlan input old new end
puts_alike text input old new (Plan moved) same equal puts =
    let P : List ℕ → Type 0 = λ text. PutsPlan text old new (Plan moved) in subst P (equal puts.1.0 puts.1.2.read) puts
puts_alike text input old new NoPlan same equal puts =
    let P : (r : _) → Type 0 = λ r. (r >>= initial) ≡ Err puts.1.0 in
    (puts.0, (puts.1.0, puts.1.1, puts.1.2, subst P same puts.1.3, puts.1.4, puts.1.5), puts.2)
puts_alike text input old new SourceFault same equal puts = puts
puts_alike text input old new OutputFault same equal puts = puts
puts_alike text input old new NoMemory same equal puts = puts

pub puts_whole : (left_old left_new buffer old new : List ℕ) (count : ℕ) (end : PlanEnd) → length buffer ≡ 65537
    → Collects left_old left_new buffer count → PutsPlan (take count buffer) old new end → PutsPlan left_old old new end
puts_whole left_old left_new buffer old new count end sized collects puts =
    puts_alike (take count buffer) left_old old new end (same_plan left_old left_new buffer count sized collects)
    (same_text left_old left_new buffer count sized collects) puts

-- what was put behind what was there, for `put_said`
pub puts_behind : (text old new put : List ℕ) (end : PlanEnd) → EndsPlan text put end → new ≡ old ++ put
    → PutsPlan text old new end
puts_behind text old new put (Plan moved) ends is = (put, ends, is)
puts_behind text old new put NoPlan ends is = (put, ends, is)
puts_behind text old new put SourceFault ends is = absurd ends
puts_behind text old new put OutputFault ends is = absurd ends
puts_behind text old new put NoMemory ends is = absurd ends
