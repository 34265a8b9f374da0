-- The step of a message is one.
use Rattle.std.proofs.Common.{◌≡◌, ℕ, List, Option, Some, None, IsSomeAnd, inl, inr, sym, ap, ◌∙◌, subst}
use Rattle.std.specs.Prelude.{MatchOption}
use Rattle.std.proofs.lemmas.Option.{none-some, same_Some}
use Rattle.sdls_base.specs.declared.entry.Change.{Change}
use Rattle.sdls_base.specs.declared.entry.Seen.{Seen}
use Rattle.sdls_base.specs.declared.states.KeyState.{KeyState}
use Rattle.unit_state.specs.declared.state.State.{State}
use Rattle.unit_state.specs.State.{KeepsRules}
use Rattle.ep_codec.specs.declared.command.Command.{Command}
use Rattle.ep_codec.specs.declared.command.Command.TheVariants.{Rekeying, Activate, Deactivate, Verify, Destroy}
use Rattle.ep_codec.specs.declared.command.Command.TheVariants.{Inventory, Compose, ReadNumber, Create, Delete}
use Rattle.ep_codec.specs.declared.command.Command.TheVariants.{SetWindow, Rekey, Expire, SetNumber, Start, Stop}
use Rattle.ep_codec.specs.declared.command.Command.TheVariants.{Status}
use Rattle.ep_codec.specs.declared.reply_pdu.ReplyPdu.TheVariants as replies
use Rattle.ep_codec.proofs.CommandReadings.{message_has_none, one_value}
use Rattle.ep_core.specs.declared.refusal.Refusal.{Refusal}
use Rattle.ep_core.specs.declared.refusal.Refusal.TheVariants.{PduFault}
use Rattle.ep_core.specs.declared.refusal.Reply.{Reply}
use Rattle.ep_core.specs.Refusals.{refusal_of}
use Rattle.ep_core.specs.Step.{IsStep, IsDone, telling, refused}
use Rattle.run_promise.specs.History.{IsStepOf}
use Rattle.law_history.proofs.OneInventory.{inventory_one}

some_one : {X : Type 0} (o : Option X) (f : X → Change × Reply) (step other : Change × Reply)
    → IsSomeAnd o (λ x. step ≡ f x)
    → IsSomeAnd o (λ x. other ≡ f x) → step ≡ other
some_one {X} None f step other is also = absurd is
some_one {X} (Some x) f step other is also = is ∙ sym also

done_one : (state : State) (command : Command) (seen : Seen) (step other : Change × Reply) → KeepsRules state
    → IsDone state command seen step
    → IsDone state command seen other → step ≡ other
done_one state (Rekeying master vector sealed tag) seen step other rules is also = is ∙ sym also
done_one state (Activate keys) seen step other rules is also = is ∙ sym also
done_one state (Deactivate keys) seen step other rules is also = is ∙ sym also
done_one state (Verify key challenge) seen step other rules is also = some_one _ _ step other is also
done_one state (Destroy keys) seen step other rules is also = is ∙ sym also
done_one state (Inventory first last) seen step other rules (found, listed, is) (again, lists, also) =
    let one = inventory_one state.keys first last found again rules.keys.rules listed lists in
    is ∙ ap (λ (total : ℕ). telling (replies.Inventory total found.rows)) one.total
    ∙ ap (λ (rows : List (ℕ × KeyState)). telling (replies.Inventory again.total rows)) one.rows ∙ sym also
done_one state (Compose master keys) seen step other rules is also = some_one _ _ step other is also
done_one state (ReadNumber spi) seen step other rules is also = some_one _ _ step other is also
done_one state (Create new) seen step other rules is also = is ∙ sym also
done_one state (Delete spi) seen step other rules is also = is ∙ sym also
done_one state (SetWindow spi window) seen step other rules is also = is ∙ sym also
done_one state (Rekey spi key number) seen step other rules is also = is ∙ sym also
done_one state (Expire spi) seen step other rules is also = is ∙ sym also
done_one state (SetNumber spi number) seen step other rules is also = is ∙ sym also
done_one state (Start spi) seen step other rules is also = is ∙ sym also
done_one state (Stop spi) seen step other rules is also = is ∙ sym also
done_one state (Status spi) seen step other rules is also = some_one _ _ step other is also

spelled_one : (state : State) (command : Command) (seen : Seen) (step other : Change × Reply) (o : Option Refusal)
    → KeepsRules state
    → MatchOption o (IsDone state command seen step) (λ refusal. step ≡ refused refusal)
    → MatchOption o (IsDone state command seen other) (λ refusal. other ≡ refused refusal) → step ≡ other
spelled_one state command seen step other None rules is also = done_one state command seen step other rules is also
spelled_one state command seen step other (Some refusal) rules is also = is ∙ sym also

-- the step of a message, its change and its reply, is one by the state, the message and what was seen
pub step_one : (state : State) (octets : List ℕ) (seen : Seen) (step other : Change × Reply) → KeepsRules state
    → IsStepOf state octets seen step
    → IsStepOf state octets seen other → step ≡ other
step_one state octets seen step other rules (inl (command, spelled, is)) (inl (again, spells, also)) =
    spelled_one state command seen step other (refusal_of state command seen) rules is
    (subst (λ (c : Command). IsStep state c seen other) (one_value again command octets spells spelled) also)
step_one state octets seen step other rules (inl (command, spelled, is)) (inr (offset, fault, also)) =
    absurd (none-some offset (sym (message_has_none command octets spelled) ∙ fault))
step_one state octets seen step other rules (inr (offset, fault, is)) (inl (command, spelled, also)) =
    absurd (none-some offset (sym (message_has_none command octets spelled) ∙ fault))
step_one state octets seen step other rules (inr (offset, fault, is)) (inr (at, again, also)) =
    let same : offset ≡ at = same_Some offset at (sym fault ∙ again) in
    is ∙ ap (λ (n : ℕ). refused (PduFault n)) same ∙ sym also
