-- The need of a message is one.
use Rattle.std.proofs.Common.{◌≡◌, ℕ, List, inl, inr, sym, ap, ◌∙◌}
use Rattle.std.proofs.lemmas.Option.{none-some}
use Rattle.unit_state.specs.declared.state.State.{State}
use Rattle.ep_codec.proofs.CommandReadings.{message_has_none, one_value}
use Rattle.ep_core.specs.declared.judging.Need.{Need}
use Rattle.ep_core.specs.Need.{need_of}
use Rattle.run_promise.specs.History.{IsNeedOf}

pub need_one : (state : State) (octets : List ℕ) (need other : Need) → IsNeedOf state octets need
    → IsNeedOf state octets other → need ≡ other
need_one state octets need other (inl (command, spelled, is)) (inl (again, spells, also)) =
    is ∙ ap (need_of state) (one_value command again octets spelled spells) ∙ sym also
need_one state octets need other (inl (command, spelled, is)) (inr (offset, fault, also)) =
    absurd (none-some offset (sym (message_has_none command octets spelled) ∙ fault))
need_one state octets need other (inr (offset, fault, is)) (inl (command, spelled, also)) =
    absurd (none-some offset (sym (message_has_none command octets spelled) ∙ fault))
need_one state octets need other (inr (offset, fault, is)) (inr (at, again, also)) = is ∙ sym also
