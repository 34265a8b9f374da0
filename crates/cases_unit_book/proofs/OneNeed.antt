-- A message has one need, for what `command` asks of what was seen.
use Rattle.std.proofs.Common.{◌≡◌, ◌⊎◌, ⊎_elim, ℕ, List, Some, None, sym, ap, ◌∙◌}
use Rattle.ep_codec.specs.declared.command.Command.{Command}
use Rattle.ep_codec.specs.Command.{IsCommandPdu}
use Rattle.ep_codec.specs.MessageFault.{command_fault}
use Rattle.ep_core.specs.declared.judging.Need.{Need}
use Rattle.ep_core.specs.declared.judging.Need.TheVariants as needs
use Rattle.ep_core.specs.Need.{need_of}
use Rattle.unit_state.specs.declared.state.State.{State}

-- the need as the book tells it: that of the command that is spelled, or nothing
abbrev pub HasNeed : State → List ℕ → Need → Type 0
HasNeed state octets need = ((command : Command) × IsCommandPdu command octets × (need ≡ need_of state command))
    ⊎ ((offset : ℕ) × (command_fault octets ≡ Some offset) × (need ≡ needs.Nothing))

module _ (octets : List ℕ) (one : (a b : Command) → IsCommandPdu a octets → IsCommandPdu b octets → a ≡ b)
    (sound : (command : Command) → IsCommandPdu command octets → command_fault octets ≡ None) where
  clash : (command : Command) → IsCommandPdu command octets → (offset : ℕ) → command_fault octets ≡ Some offset → ⊥
  clash command is offset fault = let none : None ≡ Some offset = sym (sound command is) ∙ fault in cc

  pub same_need : (state : State) (a b : Need) → HasNeed state octets a → HasNeed state octets b → a ≡ b
  same_need state a b h k = ⊎_elim
      (λ x. ⊎_elim (λ y. x.2 ∙ ap (need_of state) (one x.0 y.0 x.1 y.1) ∙ sym y.2) (λ y. absurd (clash x.0 x.1 y.0 y.1))
      k)
      (λ x. ⊎_elim (λ y. absurd (clash y.0 y.1 x.0 x.1)) (λ y. x.2 ∙ sym y.2) k) h
