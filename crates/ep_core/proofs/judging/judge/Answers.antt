use Rattle.std.proofs.Common.{◌∙◌, is_some}
use Rattle.std.specs.Prelude.{if◌then◌else◌}
use Rattle.ep_core.specs.declared.judging.Need.TheVariants.{Nothing}
use Rattle.ep_core.proofs.judging.judge.Goals as goal

pub returns-in-Rekey : goal.returns-in-Rekey
returns-in-Rekey c =
    rw c.in-Rekey.is
    (c.unless_refused-in-Rekey.ensures ∙ (λ i. if is_some (c.refuse_rekey.ensures i) then Nothing
    else c.rekey_need.ensures i))
