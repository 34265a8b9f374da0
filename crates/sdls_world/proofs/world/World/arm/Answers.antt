use Rattle.std.proofs.Common.{◌≡◌, ◌<◌, ap, ◌∙◌, sym, set, get_or, arith}
use Rattle.sdls_base.specs.KeyId.{end_of}
use Rattle.sdls_world.specs.Core.{Core}
use Rattle.sdls_world.proofs.Answering.{arm_is}
use Rattle.sdls_world.proofs.world.World.arm.Goals as goal

pub returns-clause-ok : goal.returns-clause-ok
returns-clause-ok c =
    let core = c.args.self.now in
    let actors : c.self.inside.actors.items ≡ core.actors = ap (λ w. w.actors) c.self.view_is in
    let place = c.in-Some-actor.place in
    let b = c.index_mut.result.now in
    let reached : b ≡ get_or core.actors place b = c.index_mut.ensures.value ∙ ap (λ xs. get_or xs place b) actors in
    let a' = c.arm-2.new.self in
    let moved = ap (λ (z : Core). let r : Core = record z { actors = set z.actors place a' } in r) c.self.view_is in
    let open_to : c.in-Some.key.next < end_of c.in-Some.key.id = let e = c.end.ensures in omega arith in
    moved ∙ arm_is core c.args.actor place c.in-Some-actor.field-0-1.now b c.in-Some-actor.ensures.found
    c.in-Some-actor.ensures.there.1 reached
    c.args.key c.in-Some.row c.in-Some.key a' (sym c.in-Some.ensures.found) open_to c.arm-2.ensures
