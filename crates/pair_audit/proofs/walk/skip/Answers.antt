use Rattle.std.proofs.Common.{◌≡◌, ◌+◌, ◌-◌, ◌≤◌, ◌++◌, length, take, ◌∙◌, ap, sym, subst, arith, rules, length-append}
use Rattle.std.proofs.lemmas.List.{length-take-le}
use Rattle.pair_audit.specs.Taking.{Taking}
use Rattle.pair_audit.proofs.Takings.{taking_short, taking_then}
use Rattle.pair_audit.proofs.walk.skip.Goals as goal

pub returns-then-count-most-clause-taken : goal.returns-then-count-most-clause-taken
returns-then-count-most-clause-taken g c =
    let so_far = c.pieces.invariant.3 in
    let piece = take c.in_ok-count.count c.fill.new.room in
    let most = c.min-most.result in
    let room : length (take most c.pieces.room) ≡ most = search rules in
    let within : c.in_ok-count.count ≤ most = search rules in
    let sized : length c.fill.new.room ≡ most = search rules in
    let size : length piece ≡ c.in_ok-count.count = length-take-le c.in_ok-count.count c.fill.new.room (omega arith) in
    let few : most ≤ c.args.len - c.pieces.skipped = search rules in
    let low = c.pieces-test.true in
    let less = c.if-count-most.true in
    let now : Taking g.S.Source.told (c.args.taken + c.pieces.skipped) most piece (g.S.Source.left c.pieces.source)
    (g.S.Source.left c.fill.new.source) = rw room at c.in_ok-count.ensures.taken in
    let whole = length-append so_far.0 piece in (
      so_far.0 ++ piece,
      whole ∙ ap (λ n. n + length piece) so_far.1 ∙ ap (λ n. c.pieces.skipped + n) size,
      taking_short g.S.Source.told c.args.taken (c.pieces.skipped + most) c.args.len (so_far.0 ++ piece) _ _
          (taking_then g.S.Source.told c.args.taken c.pieces.skipped most so_far.0 piece _ _ _ so_far.2 so_far.1 now)
          (omega arith) (omega arith),
    )

pub pieces-preserved : goal.pieces-preserved
pieces-preserved g c =
    let so_far = c.pieces.invariant.3 in
    let piece = take c.in_ok-count.count c.fill.new.room in
    let most = c.min-most.result in
    let room : length (take most c.pieces.room) ≡ most = search rules in
    let within : c.in_ok-count.count ≤ most = search rules in
    let sized : length c.fill.new.room ≡ most = search rules in
    let size : length piece ≡ c.in_ok-count.count = length-take-le c.in_ok-count.count c.fill.new.room (omega arith) in
    let few : most ≤ c.args.len - c.pieces.skipped = search rules in
    let low = c.pieces-test.true in
    let all : c.in_ok-count.count ≡ most = let not_less = c.if-count-most.false in omega arith in
    let now : Taking g.S.Source.told (c.args.taken + c.pieces.skipped) most piece (g.S.Source.left c.pieces.source)
    (g.S.Source.left c.fill.new.source) = rw room at c.in_ok-count.ensures.taken in
    let whole = length-append so_far.0 piece in (
      omega arith,
      search rules,
      c.in_ok-count.ensures.cause.stood ∙ c.pieces.invariant.2,
      (
        so_far.0 ++ piece,
        whole ∙ ap (λ n. n + length piece) so_far.1 ∙ ap (λ n. c.pieces.skipped + n) size,
        subst (λ n. Taking g.S.Source.told c.args.taken (c.pieces.skipped + n) (so_far.0 ++ piece)
            (g.S.Source.left c.args.source.now) (g.S.Source.left c.fill.new.source))
            (sym all) (taking_then g.S.Source.told c.args.taken c.pieces.skipped most so_far.0 piece _ _ _ so_far.2
            so_far.1 now),
      ),
    )
