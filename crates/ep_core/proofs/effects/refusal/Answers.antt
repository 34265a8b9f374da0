use Rattle.std.proofs.Common.{ℕ, ap, ◌∙◌}
use Rattle.sdls_base.specs.FirstFailing.{first_told}
use Rattle.ep_codec.specs.Command.{IsInBounds}
use Rattle.ep_core.specs.Refusals.{rekey_checks}
use Rattle.ep_core.proofs.Steps.{each_of}
use Rattle.ep_core.proofs.effects.refusal.Goals as goal

pub refuse_create-requires : goal.refuse_create-requires
unfolding IsInBounds
refuse_create-requires c = let bounds = rw c.in-Create.is at c.requires.bounds in each_of _ _ bounds.2

pub returns-in-Rekey : goal.returns-in-Rekey
returns-in-Rekey c =
    rw c.in-Rekey.is
    (c.refuse_rekey.ensures
    ∙ ap (λ (w : ℕ). first_told (rekey_checks c.args.state.now c.in-Rekey.spi c.in-Rekey.key c.in-Rekey.number w))
    c.word_of.ensures)
