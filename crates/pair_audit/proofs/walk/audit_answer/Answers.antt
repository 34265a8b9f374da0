use Rattle.std.proofs.Common.{◌≡◌, ◌+◌, ◌-◌, ◌≤◌, ◌⊎◌, ◌++◌, length, arith, rules, length-append}
use Rattle.pair_audit.specs.Taking.{Taking}
use Rattle.record_io.specs.AnswerReading.{IsKnownHead}
use Rattle.pair_audit.proofs.Takings.{taking_short, taking_then}
use Rattle.pair_audit.proofs.Walking.{takes_one}
use Rattle.pair_audit.proofs.Within.{answer_with, says_head, stands_within}
use Rattle.pair_audit.proofs.walk.audit_answer.Goals as goal

pub returns-then-branch-len-clause-said : goal.returns-then-branch-len-clause-said
returns-then-branch-len-clause-said g c =
    let behind = c.in_ok-skip.ensures.taken in
    let header = c.fill.new.room in
    let size : length header ≡ 24 = search rules in
    let all : c.in_ok-fill.field-0 ≡ 24 = search rules in
    let begun : Taking g.S.Source.told c.args.taken 24 header (g.S.Source.left c.args.source.now)
    (g.S.Source.left c.fill.new.source) = search rules in
    let less = c.if-branch-len.true in
    let few : c.min-len.result ≤ c.args.left - 24 = search rules in
    let enough = c.requires.room.1 in
    let whole = length-append header behind.0 in
    let count = behind.1 in (
      header ++ behind.0,
      (
        taking_short g.S.Source.told c.args.taken (24 + c.min-len.result) c.args.left (header ++ behind.0) _ _
            (taking_then g.S.Source.told c.args.taken 24 c.min-len.result header behind.0 _ _ _ begun size behind.2)
            (omega arith) (omega arith),
        omega arith,
      ),
    )

pub returns-clause-said : goal.returns-clause-said
returns-clause-said g c =
    let behind = c.in_ok-skip.ensures.taken in
    let header = c.fill.new.room in
    let size : length header ≡ 24 = search rules in
    let all : c.in_ok-fill.field-0 ≡ 24 = search rules in
    let begun : Taking g.S.Source.told c.args.taken 24 header (g.S.Source.left c.args.source.now)
    (g.S.Source.left c.fill.new.source) = search rules in
    let within_left : c.min-len.result ≤ c.args.left - 24 = search rules in
    let within_head : c.min-len.result ≤ c.in-Some.head.len = search rules in
    let full : (c.min-len.result ≡ c.in-Some.head.len) ⊎ (c.min-len.result ≡ c.args.left - 24) = search rules in
    let enough = c.requires.room.1 in
    let whole = length-append header behind.0 in
    let most = behind.2.within in
    let not_less = c.if-branch-len.false in
    let count = behind.1 in
    let body_size : length behind.0 ≡ c.min-len.result = omega arith in
    let known : IsKnownHead header c.in-Some.head = search rules in
    let answer = answer_with c.in-Some.head behind.0 in (
      header ++ behind.0,
      (
        taking_then g.S.Source.told c.args.taken 24 c.min-len.result header behind.0 _ _ _ begun size behind.2,
        omega arith,
        (
          answer,
          stands_within c.args.left c.min-len.result header behind.0 c.in-Some.head known size enough body_size
              within_head within_left full,
          takes_one c.args.audit.now c.feed_header.new.self answer c.args.first c.earlier.result c.in_ok-told.told
              (λ fed knows. c.in_ok-told.ensures.knows fed answer (says_head c.in-Some.head behind.0) knows)
              (λ fed knows. c.in_ok-told.ensures.told fed answer (says_head c.in-Some.head behind.0) knows)
              c.earlier.ensures,
        ),
      ),
    )
