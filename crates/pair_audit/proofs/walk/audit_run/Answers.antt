use Rattle.std.proofs.Common.{ℕ, ◌+◌, ◌-◌, ◌<◌, ◌≤◌, List, [], ◌∷◌, ◌++◌, refl, ◌∙◌, inr, arith, rules, length-append}
use Rattle.pair_audit.specs.Walk.{StepSaid}
use Rattle.pair_audit.specs.declared.walk.RunFound.TheVariants as ends
use Rattle.pair_audit.specs.declared.walk.Step.TheVariants as steps
use Rattle.pair_audit.proofs.Seen.{ok_more}
use Rattle.pair_audit.proofs.Takings.{taking_none, taking_then}
use Rattle.pair_audit.proofs.Walking.{takes_more, takes_none}
use Rattle.pair_audit.proofs.Within.{rest_passed, run_begun, run_more, unknown_said, whole_said}
use Rattle.pair_audit.proofs.walk.audit_run.Goals as goal

pub answers-init : goal.answers-init
answers-init g c = (
  omega arith,
  refl,
  refl,
  (
    [],
    [],
    refl,
    taking_none g.S.Source.told c.args.taken (g.S.Source.left c.args.source.now)
        (let few = c.ranges.taken.fits in omega arith),
    run_begun c.args.len,
    takes_none c.args.audit.now c.args.before,
  ),
)

pub answers-preserved : goal.answers-preserved
answers-preserved g c =
    let so_far = c.answers.invariant.3 in
    let said : (octets : List ℕ) × StepSaid g.S.Source.told (c.args.taken + c.answers.place)
    (c.args.len - c.answers.place) c.answers.audit c.audit_answer.new.audit
    c.answers.first octets (g.S.Source.left c.answers.source) (g.S.Source.left c.audit_answer.new.source)
    (steps.Answer c.in-Answer.count c.in-Answer.later) =
    rw c.in-Answer.is at c.in_ok-count.ensures.said in
    let answer = said.1.2.0 in
    let stands = said.1.2.1 in
    let within = stands.within in
    let place_within = c.answers.invariant.0 in
    let size = said.1.1 in
    let whole = length-append so_far.0 said.0 in
    let place_is = so_far.2 in (
      omega arith,
      c.audit_answer.ensures.sized ∙ c.answers.invariant.1,
      search rules,
      (
        so_far.0 ++ said.0,
        so_far.1 ++ answer ∷ [],
        omega arith,
        taking_then g.S.Source.told c.args.taken c.answers.place c.in-Answer.count so_far.0 said.0 _ _ _ so_far.3
            place_is said.1.0,
        run_more c.args.len (c.args.len - c.answers.place) so_far.0 said.0 so_far.1 answer so_far.4
            (omega arith) stands,
        takes_more c.args.audit.now c.answers.audit c.audit_answer.new.audit c.args.before c.answers.first
            c.in-Answer.later so_far.1 (answer ∷ [])
            so_far.5 said.1.2.2,
      ),
    )

pub returns-in-Unknown-clause-said : goal.returns-in-Unknown-clause-said
returns-in-Unknown-clause-said g c =
    let so_far = c.answers.invariant.3 in
    let said : (octets : List ℕ) × StepSaid g.S.Source.told (c.args.taken + c.answers.place)
    (c.args.len - c.answers.place) c.answers.audit c.audit_answer.new.audit
    c.answers.first octets (g.S.Source.left c.answers.source) (g.S.Source.left c.audit_answer.new.source) steps.Unknown
    =
    rw c.in-Unknown.is at c.in_ok-count.ensures.said in
    let place_within = c.answers.invariant.0 in
    let enough : 24 ≤ c.args.len - c.answers.place = c.answers-test.true in
    let header = said.0 in
    let size = length-append so_far.0 header in
    let place_is = so_far.2 in
    let header_is = said.1.1 in
    let begun = taking_then g.S.Source.told c.args.taken c.answers.place 24 so_far.0 header _ _ _ so_far.3 place_is
    said.1.0 in
    ok_more c.pass_rest.result _ _
    (λ end passed. rest_passed g.S.Source.told c.args.taken c.args.len (c.answers.place + 24)
    (so_far.0 ++ header) passed.0 _ _ _ c.args.audit.now
    c.audit_answer.new.audit c.args.before (ends.Unknown c.answers.place) end (omega arith) (omega arith) begun passed.1
    (λ all. unknown_said c.args.len c.answers.place so_far.0 header passed.0 so_far.1 c.args.audit.now
    c.audit_answer.new.audit c.args.before place_is
    so_far.4 place_within enough header_is said.1.2 all)
    passed.2)
    c.pass_rest.ensures.passed

pub returns-in-Cut-clause-said : goal.returns-in-Cut-clause-said
returns-in-Cut-clause-said g c =
    let so_far = c.answers.invariant.3 in
    let said : (octets : List ℕ) × StepSaid g.S.Source.told (c.args.taken + c.answers.place)
    (c.args.len - c.answers.place) c.answers.audit c.audit_answer.new.audit
    c.answers.first octets (g.S.Source.left c.answers.source) (g.S.Source.left c.audit_answer.new.source) steps.Cut =
    rw c.in-Cut.is at c.in_ok-count.ensures.said in
    rest_passed g.S.Source.told c.args.taken c.args.len c.answers.place so_far.0 said.0 _ _ _ c.args.audit.now
    c.audit_answer.new.audit c.args.before
    ends.Cut ends.Cut c.answers.invariant.0 so_far.2 so_far.3 said.1.0
    (λ all. let less = said.1.1 in absurd (omega arith))
    (inr (said.1.1, refl))

pub returns-clause-said : goal.returns-clause-said
returns-clause-said g c =
    let so_far = c.answers.invariant.3 in
    let low : c.args.len - c.answers.place < 24 = let test = c.answers-test.false in omega arith in
    ok_more c.pass_rest-2.result _ _
    (λ end passed. rest_passed g.S.Source.told c.args.taken c.args.len c.answers.place so_far.0 passed.0 _ _ _
    c.args.audit.now c.answers.audit c.args.before
    (ends.Whole c.answers.first) end c.answers.invariant.0 so_far.2 so_far.3 passed.1
    (λ all. whole_said c.args.len c.answers.place so_far.0 passed.0 so_far.1 c.args.audit.now c.answers.audit
    c.args.before c.answers.first so_far.2
    so_far.4 so_far.5 c.answers.invariant.0 low all)
    passed.2)
    c.pass_rest-2.ensures.passed
