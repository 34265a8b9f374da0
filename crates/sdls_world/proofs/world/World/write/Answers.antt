use Rattle.std.proofs.Common.{◌≡◌, ◌≤◌, true, ap, ◌∙◌, sym, set, arith}
use Rattle.sdls_base.specs.KeyId.{end_of}
use Rattle.sdls_world.specs.Core.{Core, holds_turn}
use Rattle.sdls_world.proofs.Answering.{write_is}
use Rattle.sdls_world.proofs.world.World.write.Goals as goal

pub returns-then-mark-end : goal.returns-then-mark-end
returns-then-mark-end c =
    let core = c.args.self.now in
    let row = c.in-Some.row in
    let key = c.in-Some.key in
    let holder : holds_turn c.args.actor core.holder ≡ true = sym c.is_holder.ensures ∙ c.if-not-is_holder.false in
    let high : c.args.mark ≤ end_of key.id = let e = c.end.ensures in let t = c.if-mark-end.true in omega arith in
    let moved =
    ap (λ (z : Core). let r : Core = record z { keys = set z.keys row (record key { mark = c.args.mark }) } in
    r) c.self.view_is in
    moved ∙ write_is core c.args.actor c.args.key row key holder (sym c.in-Some.ensures.found) c.args.mark
    c.if-key-mark.true high
