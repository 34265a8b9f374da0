use Rattle.std.proofs.Common.{◌≡◌, ◌<◌, length, take, true, true≢false, ap, ◌∙◌, sym, arith, rules}
use Rattle.std.proofs.lemmas.List.{length-take-le, take_all}
use Rattle.pair_audit.specs.Recording.{recording_beginning}
use Rattle.pair_audit.proofs.Runs.{begins_otherwise}
use Rattle.pair_audit.proofs.walk.begin.Goals as goal

pub returns-then-branch-lt8-clause-refused : goal.returns-then-branch-lt8-clause-refused
returns-then-branch-lt8-clause-refused g c = λ is.
    let part = take c.in_ok-fill.field-0 c.fill.new.room in
    let sized : length c.fill.new.room ≡ 8 = search rules in
    let less : c.in_ok-fill.field-0 < 8 = search rules in
    let size : length part ≡ c.in_ok-fill.field-0 = length-take-le c.in_ok-fill.field-0 c.fill.new.room (omega arith) in
    begins_otherwise g.S.Source.told part (g.S.Source.left c.args.source.now) (g.S.Source.left c.fill.new.source)
    c.in_ok-fill.ensures.taken
    (λ same. let long = ap length same in omega arith)

pub returns-clause-refused : goal.returns-clause-refused
returns-clause-refused g c = λ is.
    let part = take c.in_ok-fill.field-0 c.fill.new.room in
    let sized : length c.fill.new.room ≡ 8 = search rules in
    let all : part ≡ c.fill.new.room =
    take_all c.in_ok-fill.field-0 c.fill.new.room (let enough = c.if-branch-lt8.false in omega arith) in
    begins_otherwise g.S.Source.told part (g.S.Source.left c.args.source.now) (g.S.Source.left c.fill.new.source)
    c.in_ok-fill.ensures.taken
    (λ same. let whole : c.fill.new.room ≡ recording_beginning = sym all ∙ same in
    let yes : c.eq.result ≡ true = rw whole at c.eq.ensures in
    true≢false (sym yes ∙ is))
