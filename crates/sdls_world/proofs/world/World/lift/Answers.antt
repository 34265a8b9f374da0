use Rattle.std.proofs.Common.{◌≡◌, true, ap, ◌∙◌, sym, set}
use Rattle.sdls_world.specs.Core.{Core, holds_turn}
use Rattle.sdls_world.proofs.Answering.{lift_is}
use Rattle.sdls_world.proofs.world.World.lift.Goals as goal

pub returns-in-Some : goal.returns-in-Some
returns-in-Some c =
    let core = c.args.self.now in
    let row = c.in-Some.row in
    let key = c.in-Some.key in
    let holder : holds_turn c.args.actor core.holder ≡ true = sym c.is_holder.ensures ∙ c.if-not-is_holder.false in
    let limit = c.max-limit.result in
    let moved = ap (λ (z : Core). let r : Core = record z { keys = set z.keys row (record key { limit = limit }) } in
    r) c.self.view_is in
    moved ∙ lift_is core c.args.actor c.args.key row key holder (sym c.in-Some.ensures.found) limit c.max-limit.ensures
