use Rattle.std.proofs.Common.{◌≡◌, ◌≤◌, true, ap, ◌∙◌, sym, set, arith}
use Rattle.sdls_base.specs.KeyId.{end_of}
use Rattle.sdls_world.specs.Core.{Core, holds_turn}
use Rattle.sdls_world.proofs.Answering.{raise_is}
use Rattle.sdls_world.proofs.world.World.raise_next.Goals as goal

pub returns-then-number-end : goal.returns-then-number-end
returns-then-number-end c =
    let core = c.args.self.now in
    let row = c.in-Some.row in
    let key = c.in-Some.key in
    let holder : holds_turn c.args.actor core.holder ≡ true = sym c.is_holder.ensures ∙ c.if-not-is_holder.false in
    let next = c.max-next.result in
    let high : c.args.number ≤ end_of key.id = let e = c.end.ensures in let t = c.if-number-end.true in omega arith in
    let moved = ap (λ (z : Core). let r : Core = record z { keys = set z.keys row (record key { next = next }) } in
    r) c.self.view_is in
    moved ∙ raise_is core c.args.actor c.args.key row key holder (sym c.in-Some.ensures.found) c.args.number next high
    c.max-next.ensures
