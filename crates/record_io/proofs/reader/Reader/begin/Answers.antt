use Rattle.std.proofs.Common.{◌≡◌, ◌≤◌, ◌<◌, length, take, refl, sym, ap, ◌∙◌, arith, rules}
use Rattle.std.proofs.lemmas.List.{length-take-le}
use Rattle.record_io.specs.Steps.{still_counted}
use Rattle.record_io.proofs.Beginnings.{misses_cut}
use Rattle.record_io.proofs.reader.Reader.begin.Goals as goal

pub returns-then-count-lt8-clause-refused : goal.returns-then-count-lt8-clause-refused
returns-then-count-lt8-clause-refused g c =
    let within : c.in-Ok.count ≤ length c.take.new.room = search rules in
    let short : c.in-Ok.count < 8 = omega (arith, c.if-count-lt8.true) in
    let start : c.args.self.now.taken ≡ 0 = omega (arith, c.if-self-gt0.false, ap (λ p. p.taken) c.self.view_is) in
    let place : c.take.new.self.taken ≡ c.in-Ok.count =
    omega (arith, start, ap (λ p. p.taken) c.in-Ok.ensures.counted) in (
      refl,
      misses_cut g.S.Source.told (take c.in-Ok.count c.take.new.room) _ _ _ c.in-Ok.count start
          (length-take-le c.in-Ok.count c.take.new.room within) short c.in-Ok.ensures.moved
          (λ t. ap (λ n. still_counted n (g.S.Source.left c.take.new.source)) (sym place)
          ∙ c.in-Ok.ensures.ended t short),
    )
