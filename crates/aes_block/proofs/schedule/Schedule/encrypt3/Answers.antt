use Rattle.std.proofs.Common.{ap, ◌*◌, ◌+◌, map, take, ◌∙◌}
use Rattle.aes_block.specs.Aes.{encrypted, schedule}
use Rattle.aes_block.proofs.ScheduleFacts.{each_encrypted}
use Rattle.aes_block.proofs.schedule.Schedule.encrypt3.Goals as goal

pub returns : goal.returns
returns c =
    let s = c.self.inside in
    let key = take (4 * s.key_words) s.key in
    c.encrypt_three.ensures (schedule s.key_words key (3 * s.key_words + 28)) c.self.invariant.round_keys
    ∙ each_encrypted s.key_words key c.args.blocks c.self.invariant.whole
    ∙ ap (λ k. map (encrypted k) c.args.blocks) c.self.view_is
