use Rattle.std.proofs.Common.{◌≡◌, ◌<◌, length, take, arith, rules}
use Rattle.std.proofs.lemmas.List.{length-take-le, take_all}
use Rattle.pair_audit.proofs.Runs.{LengthTaken, length_cut, run_breaks, run_cut, run_taken}
use Rattle.pair_audit.proofs.walk.audit_next.Goals as goal

pub returns-in_default-clause-said : goal.returns-in_default-clause-said
returns-in_default-clause-said g c =
    let part = take c.in_ok-fill.field-0 c.fill.new.room in
    let sized : length c.fill.new.room ≡ 4 = search rules in
    let within : c.in_ok-fill.field-0 < 5 = search rules in
    let size : length part ≡ c.in_ok-fill.field-0 = length-take-le c.in_ok-fill.field-0 c.fill.new.room (omega arith) in
    let other = c.in_default in
    length_cut g.S.Source.told c.args.taken part _ _ c.in_ok-fill.ensures.taken (omega (arith, other))
    (omega (arith, other))

pub returns-in-Whole-clause-said : goal.returns-in-Whole-clause-said
returns-in-Whole-clause-said g c =
    let header = c.fill.new.room in
    let len = c.from-len.result in
    let size : length header ≡ 4 = search rules in
    let all : take c.in_ok-fill.field-0 header ≡ header =
    take_all c.in_ok-fill.field-0 header (let four = c.in-4.is in omega arith) in
    let head : LengthTaken g.S.Source.told c.args.taken len header (g.S.Source.left c.args.source.now)
    (g.S.Source.left c.fill.new.source) = record {
      spelled = search rules;
      short = search rules;
      taking = rw all at c.in_ok-fill.ensures.taken;
    } in
    let said = rw c.in-Whole.is at c.in_ok-later.ensures.said in
    run_taken g.S.Source.told c.args.taken len header said.0 _ _ _ c.args.audit.now c.audit_run.new.audit c.args.first
    c.in-Whole.later head said.1 said.2

pub returns-in-Unknown-clause-said : goal.returns-in-Unknown-clause-said
returns-in-Unknown-clause-said g c =
    let header = c.fill.new.room in
    let len = c.from-len.result in
    let size : length header ≡ 4 = search rules in
    let all : take c.in_ok-fill.field-0 header ≡ header =
    take_all c.in_ok-fill.field-0 header (let four = c.in-4.is in omega arith) in
    let head : LengthTaken g.S.Source.told c.args.taken len header (g.S.Source.left c.args.source.now)
    (g.S.Source.left c.fill.new.source) = record {
      spelled = search rules;
      short = search rules;
      taking = rw all at c.in_ok-fill.ensures.taken;
    } in
    let said = rw c.in-Unknown.is at c.in_ok-later.ensures.said in
    run_breaks g.S.Source.told c.args.taken len c.in-Unknown.place header said.0 _ _ _ c.args.audit.now
    c.audit_run.new.audit c.args.first head said.1 said.2

pub returns-in-Cut-clause-said : goal.returns-in-Cut-clause-said
returns-in-Cut-clause-said g c =
    let header = c.fill.new.room in
    let len = c.from-len.result in
    let size : length header ≡ 4 = search rules in
    let all : take c.in_ok-fill.field-0 header ≡ header =
    take_all c.in_ok-fill.field-0 header (let four = c.in-4.is in omega arith) in
    let head : LengthTaken g.S.Source.told c.args.taken len header (g.S.Source.left c.args.source.now)
    (g.S.Source.left c.fill.new.source) = record {
      spelled = search rules;
      short = search rules;
      taking = rw all at c.in_ok-fill.ensures.taken;
    } in
    let said = rw c.in-Cut.is at c.in_ok-later.ensures.said in
    run_cut g.S.Source.told c.args.taken len header said.0 _ _ _ head said.1 said.2
