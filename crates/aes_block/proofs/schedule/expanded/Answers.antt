use Rattle.std.proofs.Common.{◌≡◌, ◌*◌, List, ℕ, take, ap, sym, subst, ◌∙◌}
use Rattle.aes_block.specs.Schedule.{IsExpanded}
use Rattle.aes_block.proofs.ScheduleFacts.{is_expanded}
use Rattle.aes_block.proofs.schedule.expanded.Goals as goal

pub returns : goal.returns
returns c = sym (ap (λ n. take n c.filled.result) c.requires.key) ∙ c.filled.ensures

pub invariant_of-result : goal.invariant_of-result
invariant_of-result c =
    let view : take (4 * c.args.key_words) c.filled.result ≡ c.args.key.now =
    sym (ap (λ n. take n c.filled.result) c.requires.key) ∙ c.filled.ensures in
    subst (λ (k : List ℕ). IsExpanded k c.args.key_words c.keys_of-keys.result c.encrypt_one-zeros.result) (sym view)
    (is_expanded c.args.key_words c.expand.result c.args.key.now c.encrypt_one-zeros.result c.keys_of-keys.result
    c.requires.words
    c.requires.key c.expand.ensures c.keys_of-keys.ensures c.encrypt_one-zeros.ensures)
