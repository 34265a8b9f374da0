-- A number that a command uses was drawn for it, and is below the mark of its key; a reserve leaves one above its
-- number.
use Rattle.std.proofs.Common.{◌≡◌, ℕ, ◌<◌, Bool, true, false, cond, List, [], ◌∷◌, ◌++◌, Option, Some, None, is_some}
use Rattle.std.proofs.Common.{IsSomeAnd, inl, inr, refl, sym, ap, ◌∙◌, subst}
use Rattle.std.specs.Prelude.{MatchOption}
use Rattle.std.specs.List.{flat_map}
use Rattle.sdls_base.specs.FirstFailing.{first_told}
use Rattle.sdls_base.specs.declared.entry.Change.{Change}
use Rattle.sdls_base.specs.declared.entry.Entry.{Entry}
use Rattle.sdls_base.specs.declared.entry.Seen.{Seen}
use Rattle.sdls_base.specs.declared.entry.Seen.TheVariants as seens
use Rattle.key_book.specs.declared.key_row.KeyRow.{KeyRow}
use Rattle.unit_plan.specs.PlanLines.{PlanLines}
use Rattle.unit_plan.specs.PlanRules.{IsPlan}
use Rattle.unit_state.specs.declared.state.State.{State}
use Rattle.unit_state.specs.State.{KeepsRules, key_row}
use Rattle.unit_state.specs.Applied.{applied}
use Rattle.ep_codec.specs.declared.command.Command.{Command}
use Rattle.ep_codec.specs.declared.command.Command.TheVariants.{Rekeying, Activate, Deactivate, Verify, Destroy}
use Rattle.ep_codec.specs.declared.command.Command.TheVariants.{Inventory, Compose, ReadNumber, Create, Delete}
use Rattle.ep_codec.specs.declared.command.Command.TheVariants.{SetWindow, Rekey, Expire, SetNumber, Start, Stop}
use Rattle.ep_codec.specs.declared.command.Command.TheVariants.{Status}
use Rattle.ep_codec.specs.declared.reply_pdu.ReplyPdu.{ReplyPdu}
use Rattle.ep_core.specs.declared.judging.Need.TheVariants as needs
use Rattle.ep_core.specs.declared.refusal.Refusal.{Refusal}
use Rattle.ep_core.specs.declared.refusal.Reply.{Reply}
use Rattle.ep_core.specs.declared.refusal.Reply.TheVariants as replies
use Rattle.ep_core.specs.Need.{need_of}
use Rattle.ep_core.specs.Refusals.{refusal_of, unless_known, by_state, unless_usable, if_exhausted, master_checks}
use Rattle.ep_core.specs.Refusals.{session_checks, verify_checks, compose_checks}
use Rattle.ep_core.specs.Seen.{MeetsNeed, IsNumberSeen, number_of}
use Rattle.ep_core.specs.Step.{IsDone, refused, using_number}
use Rattle.ep_core.proofs.ComposeFacts.{none_append}
use Rattle.ep_core.proofs.SealedFacts.{passed_both}
use Rattle.run_promise.specs.Numbers.{mark_of}
use Rattle.run_promise.specs.History.{IsNeedOf, IsStepOf, SeesFor, IsReserve}
use Rattle.law_history.proofs.Marks.{mark_is}
use Rattle.run_promise.proofs.Marking.{mark_above}

-- the reply says that this number of this key was used
pub record UsesNumber (reply : Reply) (key number : ℕ) : Type 0 where
  pub pdu : List ℕ
  pub is : reply ≡ replies.Done (Some key) number pdu

-- no reply without a key uses one
not_used : (reply : Reply) (key number : ℕ) (pdu : List ℕ) → reply ≡ replies.Done None 0 pdu
    → UsesNumber reply key number → ⊥
not_used reply key number pdu is uses = let same = sym is ∙ uses.is in cc

not_refused : (reply : Reply) (key number code value : ℕ) → reply ≡ replies.Refused code value
    → UsesNumber reply key number → ⊥
not_refused reply key number code value is uses = let same = sym is ∙ uses.is in cc

reply_of : (step made : Change × Reply) → step ≡ made → step.1 ≡ made.1
reply_of step made is = ap (λ (s : Change × Reply). s.1) is

-- a number that was drawn for a key is below its mark
drawn_below : (state : State) (key number : ℕ) (o : Option KeyRow) → key_row state key ≡ o
    → IsNumberSeen state key (seens.Number number)
    → number < mark_of state key
drawn_below state key number None is drawn =
    absurd (subst (λ (o : Option KeyRow). IsSomeAnd o (λ held. number < held.mark)) is drawn)
drawn_below state key number (Some held) is drawn =
    subst (λ (n : ℕ). number < n) (sym (mark_is state key held is))
    (subst (λ (o : Option KeyRow). IsSomeAnd o (λ held. number < held.mark)) is drawn)

-- what was seen is a number, where what needs one is not refused
number_seen : (state : State) (key : ℕ) (seen : Seen) → IsNumberSeen state key seen → if_exhausted seen ≡ None
    → seen ≡ seens.Number (number_of seen)
number_seen state key seens.Nothing drawn free = absurd drawn
number_seen state key (seens.Word word) drawn free = absurd drawn
number_seen state key (seens.Number number) drawn free = refl
number_seen state key (seens.Exhausted number) drawn free = absurd cc

-- nothing was needed where a refusal applies whatever is seen, and else the number
needed_by : (state : State) (key : ℕ) (seen : Seen) (b : Bool) (command : Command)
    → is_some (refusal_of state command seens.Nothing) ≡ b
    → MeetsNeed state (cond b needs.Nothing (needs.Number key)) seen → refusal_of state command seen ≡ None
    → if_exhausted seen ≡ None
    → (cond b needs.Nothing (needs.Number key) ≡ needs.Number key) × (seen ≡ seens.Number (number_of seen))
needed_by state key seen true command is fits free last =
    let none : refusal_of state command seens.Nothing ≡ None = ap (refusal_of state command) (sym fits) ∙ free in
    let same : is_some (refusal_of state command seens.Nothing) ≡ false = ap (λ (o : Option Refusal). is_some o) none in
    absurd (let both : true ≡ false = sym is ∙ same in cc)
needed_by state key seen false command is fits free last = (refl, number_seen state key seen fits last)

verify_last : (state : State) (key : ℕ) (seen : Seen) → first_told (verify_checks state key seen) ≡ None
    → if_exhausted seen ≡ None
verify_last state key seen none =
    let known = passed_both (unless_known key (key_row state key))
    (by_state unless_usable (key_row state key) ∷ if_exhausted seen ∷ []) none in
    let usable = passed_both (by_state unless_usable (key_row state key)) (if_exhausted seen ∷ []) known.1 in
    (passed_both (if_exhausted seen) [] usable.1).0

compose_last : (state : State) (master : ℕ) (keys : List ℕ) (seen : Seen)
    → first_told (compose_checks state master keys seen) ≡ None
    → if_exhausted seen ≡ None
compose_last state master keys seen none =
    let front = none_append (master_checks state master)
    (flat_map (session_checks state) keys ++ if_exhausted seen ∷ []) none in
    let back = none_append (flat_map (session_checks state) keys) (if_exhausted seen ∷ []) front.1 in
    (passed_both (if_exhausted seen) [] back.1).0

-- a reply that uses a number, of a step that does
used_number : (state : State) (key own number : ℕ) (seen : Seen) (step : Change × Reply) (o : Option KeyRow)
    (pdu : KeyRow → ReplyPdu)
    → IsSomeAnd o (λ held. step ≡ using_number own (number_of seen) (pdu held)) → UsesNumber step.1 key number
    → (own ≡ key) × (number_of seen ≡ number)
used_number state key own number seen step None pdu is uses = absurd is
used_number state key own number seen step (Some held) pdu is uses =
    let same = sym (reply_of step (using_number own (number_of seen) (pdu held)) is) ∙ uses.is in (cc, cc)

plainly : (step : Change × Reply) (change : Change) (pdu : List ℕ) (key number : ℕ)
    → step ≡ (change, replies.Done None 0 pdu)
    → UsesNumber step.1 key number → ⊥
plainly step change pdu key number is uses =
    not_used step.1 key number pdu (reply_of step (change, replies.Done None 0 pdu) is) uses

row_plainly : {X : Type 0} (o : Option X) (f : X → Change × Reply) (octets : X → List ℕ) (step : Change × Reply)
    (key number : ℕ)
    → ((x : X) → (f x).1 ≡ replies.Done None 0 (octets x)) → IsSomeAnd o (λ x. step ≡ f x)
    → UsesNumber step.1 key number → ⊥
row_plainly {X} None f octets step key number tells is uses = absurd is
row_plainly {X} (Some x) f octets step key number tells is uses =
    not_used step.1 key number (octets x) (reply_of step (f x) is ∙ tells x) uses

-- the command needs the number, which was seen
abbrev IsNeeded : State → Command → Seen → ℕ → ℕ → Type 0
IsNeeded state command seen key number = (need_of state command ≡ needs.Number key) × (seen ≡ seens.Number number)

done_needed : (state : State) (command : Command) (seen : Seen) (step : Change × Reply) (key number : ℕ)
    → MeetsNeed state (need_of state command) seen
    → refusal_of state command seen ≡ None → IsDone state command seen step → UsesNumber step.1 key number
    → IsNeeded state command seen key number
done_needed state (Rekeying master vector sealed tag) seen step key number fits free is uses =
    absurd (plainly step _ _ key number is uses)
done_needed state (Activate keys) seen step key number fits free is uses = absurd (plainly step _ _ key number is uses)
done_needed state (Deactivate keys) seen step key number fits free is uses =
    absurd (plainly step _ _ key number is uses)
done_needed state (Verify own challenge) seen step key number fits free is uses =
    let same = used_number state key own number seen step (key_row state own) _ is uses in
    let needed = needed_by state own seen (is_some (refusal_of state (Verify own challenge) seens.Nothing))
    (Verify own challenge) refl fits free
    (verify_last state own seen free) in
    (needed.0 ∙ ap (λ (k : ℕ). needs.Number k) same.0, needed.1 ∙ ap (λ (n : ℕ). seens.Number n) same.1)
done_needed state (Destroy keys) seen step key number fits free is uses = absurd (plainly step _ _ key number is uses)
done_needed state (Inventory first last) seen step key number fits free (found, listed, is) uses =
    absurd (plainly step _ _ key number is uses)
done_needed state (Compose master keys) seen step key number fits free is uses =
    let same = used_number state key master number seen step (key_row state master) _ is uses in
    let needed = needed_by state master seen (is_some (refusal_of state (Compose master keys) seens.Nothing))
    (Compose master keys) refl fits free
    (compose_last state master keys seen free) in
    (needed.0 ∙ ap (λ (k : ℕ). needs.Number k) same.0, needed.1 ∙ ap (λ (n : ℕ). seens.Number n) same.1)
done_needed state (ReadNumber spi) seen step key number fits free is uses =
    absurd (row_plainly _ _ _ step key number (λ row. refl) is uses)
done_needed state (Create new) seen step key number fits free is uses = absurd (plainly step _ _ key number is uses)
done_needed state (Delete spi) seen step key number fits free is uses = absurd (plainly step _ _ key number is uses)
done_needed state (SetWindow spi window) seen step key number fits free is uses =
    absurd (plainly step _ _ key number is uses)
done_needed state (Rekey spi own asked) seen step key number fits free is uses =
    absurd (plainly step _ _ key number is uses)
done_needed state (Expire spi) seen step key number fits free is uses = absurd (plainly step _ _ key number is uses)
done_needed state (SetNumber spi asked) seen step key number fits free is uses =
    absurd (plainly step _ _ key number is uses)
done_needed state (Start spi) seen step key number fits free is uses = absurd (plainly step _ _ key number is uses)
done_needed state (Stop spi) seen step key number fits free is uses = absurd (plainly step _ _ key number is uses)
done_needed state (Status spi) seen step key number fits free is uses =
    absurd (row_plainly _ _ _ step key number (λ row. refl) is uses)

step_needed : (state : State) (command : Command) (seen : Seen) (step : Change × Reply) (key number : ℕ)
    (o : Option Refusal)
    → MeetsNeed state (need_of state command) seen → refusal_of state command seen ≡ o
    → MatchOption o (IsDone state command seen step) (λ refusal. step ≡ refused refusal) → UsesNumber step.1 key number
    → IsNeeded state command seen key number
step_needed state command seen step key number None fits free is uses =
    done_needed state command seen step key number fits free is uses
step_needed state command seen step key number (Some refusal) fits free is uses =
    absurd (not_refused step.1 key number _ _ (reply_of step (refused refusal) is) uses)

-- a command that uses a number needed it, and it is the one that was seen
pub used_needed : (state : State) (octets : List ℕ) (seen : Seen) (step : Change × Reply) (key number : ℕ)
    → SeesFor state octets seen
    → IsStepOf state octets seen step → UsesNumber step.1 key number
    → IsNeedOf state octets (needs.Number key) × (seen ≡ seens.Number number)
used_needed state octets seen step key number sees (inl (command, pdu, is)) uses =
    let needed : IsNeeded state command seen key number =
    step_needed state command seen step key number (refusal_of state command seen)
    (sees (need_of state command) (inl (command, pdu, refl))) refl is uses in
    (inl (command, pdu, sym needed.0), needed.1)
used_needed state octets seen step key number sees (inr (offset, fault, is)) uses =
    absurd (not_refused step.1 key number _ _ (reply_of step _ is) uses)

-- it is below the mark of its key
pub used_below : (state : State) (octets : List ℕ) (seen : Seen) (step : Change × Reply) (key number : ℕ)
    → SeesFor state octets seen
    → IsStepOf state octets seen step → UsesNumber step.1 key number → number < mark_of state key
used_below state octets seen step key number sees is uses =
    let needed = used_needed state octets seen step key number sees is uses in
    drawn_below state key number (key_row state key) refl
    (subst (λ (s : Seen). IsNumberSeen state key s) needed.1 (sees (needs.Number key) needed.0))

-- ---- reserves

-- a reserve leaves a mark above its number
pub reserve_above : (near : ℕ → ℕ → Type 0) (plan : PlanLines) (state : State) (entry : Entry)
    (reserve : IsReserve near plan state entry) → IsPlan plan
    → KeepsRules state → reserve.number < mark_of (applied state entry.change) reserve.key
reserve_above near plan state entry reserve ok rules =
    mark_above plan state (applied state entry.change) reserve.key reserve.number
    (mark_of (applied state entry.change) reserve.key) rules reserve.there
    reserve.below ok.block.0 (ap (λ (e : Entry). applied state e.change) reserve.entry_is) refl
