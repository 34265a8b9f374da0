-- What is sealed, octet by octet, and the octets and numbers of keys that seal.
use Rattle.std.proofs.Common.{◌≡◌, ℕ, ◌<◌, List, [], ◌∷◌, length, Option, Some, None, refl, sym, ap, ◌∙◌, subst, arith}
use Rattle.std.specs.Prelude.{IsSomeAnd, nat_eq}
use Rattle.std.proofs.lemmas.Bool.{eqb-true}
use Rattle.sdls_base.specs.Bounds.{IsKeyLength}
use Rattle.sdls_base.specs.FirstFailing.{first_told}
use Rattle.sdls_base.specs.KeyId.{class_of, end_of, end_of_class}
use Rattle.sdls_base.specs.declared.entry.Seen.{Seen}
use Rattle.sdls_base.specs.declared.entry.Seen.TheVariants.{Nothing, Word, Number, Exhausted}
use Rattle.sdls_base.specs.declared.key_id.KeyClass.{KeyClass}
use Rattle.sdls_base.specs.declared.states.KeyState.{KeyState}
use Rattle.sdls_base.specs.declared.states.KeyState.TheVariants.{PreActive, Active, Deactivated, Destroyed}
use Rattle.key_book.specs.declared.key_row.KeyRow.{KeyRow}
use Rattle.key_book.specs.KeyRow.{HasBytes}
use Rattle.unit_state.specs.declared.state.State.{State}
use Rattle.unit_state.specs.State.{KeepsRules, key_row}
use Rattle.unit_state.proofs.Found.{held_rules, found_passes}
use Rattle.ep_core.specs.Refusals.{by_state, unless_usable, verify_checks, unless_known, if_exhausted}
use Rattle.ep_core.specs.Seen.{IsNumberSeen, number_of}

-- ---- checks that are passed

pub passed_both : {A : Type 0} (check : Option A) (checks : List (Option A)) → first_told (check ∷ checks) ≡ None
    → (check ≡ None) × (first_told checks ≡ None)
passed_both None checks none = (refl, none)
passed_both (Some told) checks none = absurd cc

-- ---- keys that have their octets

usable_length : (state : KeyState) (bytes digest : List ℕ) → HasBytes state bytes digest → unless_usable state ≡ None
    → IsKeyLength (length bytes)
usable_length PreActive bytes digest has none = has.0
usable_length Active bytes digest has none = has.0
usable_length Deactivated bytes digest has none = has.0
usable_length Destroyed bytes digest has none = absurd cc

-- a key that answers challenges
pub verify_length : (state : State) (key : ℕ) (held : KeyRow) (seen : Seen) → KeepsRules state
    → key_row state key ≡ Some held
    → first_told (verify_checks state key seen) ≡ None → IsKeyLength (length held.bytes)
verify_length state key held seen rules e none =
    let known = passed_both (unless_known key (key_row state key))
    (by_state unless_usable (key_row state key) ∷ if_exhausted seen ∷ []) none in
    let usable = passed_both (by_state unless_usable (key_row state key)) (if_exhausted seen ∷ []) known.1 in
    usable_length held.state held.bytes held.digest (held_rules state key held rules e).bytes
    (ap (λ (row : Option KeyRow). by_state unless_usable row) (sym e) ∙ usable.0)

-- ---- numbers that were drawn

held_id : (state : State) (key : ℕ) (held : KeyRow) → key_row state key ≡ Some held → held.id ≡ key
held_id state key held e = eqb-true held.id key (found_passes (λ (row : KeyRow). nat_eq row.id key) state.keys held e)

below_mark : (row : Option KeyRow) (held : KeyRow) (n : ℕ) → row ≡ Some held → IsSomeAnd row (λ held. n < held.mark)
    → n < held.mark
below_mark row held n e is = subst (λ (row : Option KeyRow). IsSomeAnd row (λ held. n < held.mark)) e is

pub drawn_low : (state : State) (key : ℕ) (held : KeyRow) (seen : Seen) → KeepsRules state
    → key_row state key ≡ Some held → IsNumberSeen state key seen
    → (c : KeyClass) → class_of key ≡ c → number_of seen < end_of_class c
drawn_low state key held Nothing rules e is c f = absurd is
drawn_low state key held (Word word) rules e is c f = absurd is
drawn_low state key held (Number n) rules e is c f =
    let below = below_mark (key_row state key) held n e is in
    let most = (held_rules state key held rules e).mark_to_end in
    let same : end_of held.id ≡ end_of_class c = ap end_of (held_id state key held e) ∙ ap end_of_class f in
    omega arith
drawn_low state key held (Exhausted n) rules e is c f = class_positive c
  where
    class_positive : (c : KeyClass) → 0 < end_of_class c
    class_positive c = grind arith
