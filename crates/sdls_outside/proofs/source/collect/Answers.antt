use Rattle.std.proofs.Common.{◌≡◌, ◌≤◌, ◌-◌, ◌∙◌, length, arith, rules}
use Rattle.sdls_outside.proofs.Collecting.{collected_more}
use Rattle.sdls_outside.proofs.source.collect.Goals as goal

pub loop-filled-preserved : goal.loop-filled-preserved
loop-filled-preserved g c =
    let sized : length c.take.new.into ≡ length c.loop-filled.buffer - c.loop-filled.filled = search rules in
    let within : c.in-Ok.count ≤ length c.take.new.into = omega (arith, c.in-Ok.ensures.filled.within) in (
      search rules,
      search rules,
      c.in-Ok.ensures.cause.stood ∙ c.loop-filled.invariant.2,
      λ told. collected_more c.loop-filled.filled c.in-Ok.count _ c.loop-filled.buffer c.take.new.into _ _ _
          c.loop-filled.invariant.0 within (c.loop-filled.invariant.3 told) (c.in-Ok.ensures.taken told).moved,
    )
