use Rattle.std.proofs.Common.{◌<◌, ap, ◌∙◌, sym, length, length-set, arith}
use Rattle.sdls_world.specs.declared.world.Key.{Key}
use Rattle.sdls_world.specs.Core.{restarted}
use Rattle.sdls_world.proofs.Places.{mapped, mapped_more, place_there, place_value}
use Rattle.sdls_world.proofs.world.restart_all.Goals as goal

pub loop-row-preserved : goal.loop-row-preserved
loop-row-preserved c =
    let inv = c.loop-row.invariant in
    let old = c.args.keys.now.items in
    let items = c.loop-row.keys.items in
    let row = c.loop-row.row in
    let key = c.index_mut-key.result.now in
    let all = inv.all in let size = inv.size in
    let below : row < length old = omega arith in
    let there = place_there items row key (omega arith) c.index_mut-key.ensures.value in
    let more = mapped_more restarted old items row (restarted key) inv.size below
    (λ (d : Key). ap restarted (sym (place_value items row key d there))) inv.done inv.rest in
    record { all = inv.all; size = length-set items row (restarted key) ∙ inv.size; done = more.0; rest = more.1 }

pub returns : goal.returns
returns c =
    let inv = c.loop-row.invariant in
    let all = inv.all in let size = inv.size in
    mapped restarted c.args.keys.now.items c.loop-row.keys.items inv.size (λ j d b. inv.done j d (omega arith))
