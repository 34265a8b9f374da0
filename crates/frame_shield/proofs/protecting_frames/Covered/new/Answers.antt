use Rattle.std.proofs.Common.{◌++◌, ℕ, take, drop, length, ap, ◌∙◌, replicate}
use Rattle.frame_shield.proofs.CoveredFacts.{take_masked}
use Rattle.frame_shield.proofs.protecting_frames.Covered.new.Goals as goal

pub returns : goal.returns
returns c =
    let n : ℕ = length c.args.prefix.now in
    c.put-used.ensures.written
    ∙ ap (λ l. take n l ++ c.args.header.now) c.put_masked.ensures
    ∙ ap (λ l. l ++ c.args.header.now) (take_masked c.args.prefix.now c.args.mask.now (drop n (replicate 84 0)))
