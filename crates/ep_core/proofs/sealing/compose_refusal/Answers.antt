use Rattle.std.proofs.Common.{Some, None, sym, ◌∙◌}
use Rattle.ep_core.proofs.Checks.{compose_told}
use Rattle.ep_core.proofs.sealing.compose_refusal.Goals as goal

pub returns-in-Some-sessions_refusal : goal.returns-in-Some-sessions_refusal
returns-in-Some-sessions_refusal c =
    sym (compose_told c.args.state.now c.args.master c.args.keys.now c.args.seen.now None
    (Some c.in-Some-sessions_refusal.refusal)
    (sym c.master_refusal.ensures ∙ c.in_default.is) (sym c.sessions_refusal.ensures ∙ c.in-Some-sessions_refusal.is))

pub returns-in-None : goal.returns-in-None
returns-in-None c =
    c.if_exhausted.ensures
    ∙ sym (compose_told c.args.state.now c.args.master c.args.keys.now c.args.seen.now None None
    (sym c.master_refusal.ensures ∙ c.in_default.is) (sym c.sessions_refusal.ensures ∙ c.in-None.is))
