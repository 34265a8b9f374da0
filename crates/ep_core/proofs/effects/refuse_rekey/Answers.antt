use Rattle.std.proofs.Common.{ℕ, sym, ap, ◌∙◌, Option, Some}
use Rattle.sa_book.specs.declared.refusals.SaRefusal.{SaRefusal}
use Rattle.sa_book.specs.SaRefusal.{rekey_refusal}
use Rattle.unit_state.proofs.Found.{held_floor}
use Rattle.ep_core.specs.Refusals.{from_associations}
use Rattle.ep_core.proofs.Checks.{rekey_told}
use Rattle.ep_core.proofs.effects.refuse_rekey.Goals as goal

pub least_with-least-requires : goal.least_with-least-requires
least_with-least-requires c =
    held_floor c.args.state.now c.args.key c.in-Some.held.now c.requires (sym c.in-Some.ensures.row)

pub returns : goal.returns
returns c =
    c.as_refusal.ensures
    ∙ ap (λ (r : Option SaRefusal). from_associations c.args.spi (Some c.args.key) r)
    (c.rekey_refusal-refusal.ensures
    ∙ ap (λ (least : ℕ). rekey_refusal c.args.state.now.associations c.args.spi c.args.key c.in-Some.held.now.state
    c.args.number least) c.least_with-least.ensures)
    ∙ sym (rekey_told c.args.state.now c.args.spi c.args.key c.args.number c.args.word c.in-Ok.row.now
    c.in-Some.held.now
    c.in-Ok.ensures.row c.in-Unkeyed.is (sym c.in-Some.ensures.row))
