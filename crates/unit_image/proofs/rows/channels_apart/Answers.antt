use Rattle.std.proofs.Common.{ℕ, List, sym, subst}
use Rattle.std.specs.Prelude.{Contains}
use Rattle.unit_image.proofs.rows.channels_apart.Goals as goal

pub returns : goal.returns
returns c =
    let both = c.contend.ensures.0 c.if-not-contend.false in (
      λ t one other same channel own also. c.share_none.ensures.0 t channel
          (subst (λ (xs : List ℕ). Contains xs channel) (sym c.as_slice.ensures) own)
          (subst (λ (xs : List ℕ). Contains xs channel) (sym c.as_slice-2.ensures) also),
      λ none. c.share_none.ensures.1 (λ channel own also. none both.0 both.1 both.2 channel
          (subst (λ (xs : List ℕ). Contains xs channel) c.as_slice.ensures own)
          (subst (λ (xs : List ℕ). Contains xs channel) c.as_slice-2.ensures also)),
    )
