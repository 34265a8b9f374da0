use Rattle.std.proofs.Common.{◌≡◌, ℕ, ◌+◌, ◌*◌, ◌/◌, List, length, drop, refl, ap, ◌∙◌, arith}
use Rattle.std.proofs.lemmas.List.{take_rest}
use Rattle.aes_block.specs.Aes.{encrypted}
use Rattle.cmac.specs.Cmac.{before_last, chain, last_block, mac, xored}
use Rattle.cmac.proofs.block.mac.Goals as goal

pub returns : goal.returns
unfolding mac chain
returns c =
    let key : List ℕ = c.args.key.now in
    let text : List ℕ = c.args.text.now in
    let n : ℕ = c.saturating_sub-before_last.result / 16 in
    let none : 0 + n ≡ n = omega arith in
    let last : n ≡ before_last (length text) = omega arith in
    c.closed.ensures
    ∙ ap (λ (r : List ℕ). encrypted key (xored c.chained_over-chained.result (last_block key r)))
    (take_rest text (16 * n))
    ∙ ap (λ (l : List ℕ). encrypted key (xored l (last_block key (drop (16 * n) text))))
    (c.chained_over-chained.ensures text 0 refl refl ∙ ap (chain key text) none)
    ∙ ap (λ (k : ℕ). encrypted key (xored (chain key text k) (last_block key (drop (16 * k) text)))) last
