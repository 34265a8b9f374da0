use Rattle.std.proofs.Common.{ap, ◌*◌, ◌+◌, take, ◌∙◌}
use Rattle.aes_block.specs.Aes.{encrypted, schedule}
use Rattle.aes_block.proofs.ScheduleFacts.{encrypted_by}
use Rattle.aes_block.proofs.schedule.Schedule.encrypt_vector.Goals as goal

pub returns : goal.returns
returns c =
    let s = c.self.inside in
    let key = take (4 * s.key_words) s.key in
    c.encrypt_one.ensures (schedule s.key_words key (3 * s.key_words + 28)) c.self.invariant.round_keys
    ∙ encrypted_by s.key_words key c.args.block c.self.invariant.whole
    ∙ ap (λ k. encrypted k c.args.block) c.self.view_is
