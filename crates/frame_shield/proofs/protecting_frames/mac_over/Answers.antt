use Rattle.std.proofs.Common.{◌++◌, List, [], ℕ, ◌∙◌, ap}
use Rattle.cmac.specs.Cmac.{mac}
use Rattle.frame_shield.proofs.protecting_frames.mac_over.Goals as goal

pub returns : goal.returns
returns c =
    let text : List ℕ = c.args.covered.now ++ c.args.field.now in
    c.finish.ensures text
    (c.update-2.ensures.more c.args.covered.now (c.update.ensures.more [] c.new-running.ensures.empty))
    ∙ ap (λ key. mac key text) (c.update-2.ensures.key ∙ c.update.ensures.key ∙ c.new-running.ensures.key)
