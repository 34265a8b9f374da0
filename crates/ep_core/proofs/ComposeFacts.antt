-- The keys that are sealed for another unit: each has its octets, and all of them the length of a sealed text.
use Rattle.std.proofs.Common.{◌≡◌, ℕ, ◌+◌, ◌*◌, ◌≤◌, not, List, [], ◌∷◌, ◌++◌, length, Option, Some, None, refl, sym}
use Rattle.std.proofs.Common.{ap, ◌∙◌, arith, length-append}
use Rattle.std.specs.List.{flat_map}
use Rattle.std.specs.Option.{option_or}
use Rattle.sdls_base.specs.Bounds.{IsKeyLength}
use Rattle.sdls_base.specs.FirstFailing.{first_told, fails_if}
use Rattle.sdls_base.specs.KeyId.{class_of}
use Rattle.sdls_base.specs.declared.states.KeyState.{KeyState}
use Rattle.sdls_base.specs.declared.states.KeyState.TheVariants.{PreActive, Active, Deactivated, Destroyed}
use Rattle.key_book.specs.declared.key_row.KeyRow.{KeyRow}
use Rattle.key_book.specs.KeyRow.{HasBytes}
use Rattle.unit_state.specs.declared.state.State.{State}
use Rattle.unit_state.specs.State.{KeepsRules, key_row}
use Rattle.unit_state.proofs.Found.{held_rules}
use Rattle.ep_core.specs.declared.refusal.Refusal.TheVariants.{NotMaster, NotSession}
use Rattle.ep_core.specs.Refusals.{by_state, unless_active, if_destroyed, unless_known, is_master, master_checks}
use Rattle.ep_core.specs.Refusals.{session_checks}
use Rattle.sdls_base.specs.Spelling.{item_octets}
use Rattle.ep_core.specs.Step.{octets_of, clear_text}
use Rattle.ep_core.proofs.Checks.{told_append}
use Rattle.ep_core.proofs.SealedFacts.{passed_both}

none_or : {A : Type 0} (a b : Option A) → option_or a b ≡ None → (a ≡ None) × (b ≡ None)
none_or None b none = (refl, none)
none_or (Some told) b none = absurd cc

-- no check of a front, and none behind it
pub none_append : {A : Type 0} (front back : List (Option A)) → first_told (front ++ back) ≡ None
    → (first_told front ≡ None) × (first_told back ≡ None)
none_append front back none = none_or (first_told front) (first_told back) (sym (told_append front back) ∙ none)

-- ---- octets of keys

most_32 : (state : KeyState) (bytes digest : List ℕ) → HasBytes state bytes digest → length bytes ≤ 32
most_32 PreActive bytes digest has = grind arith
most_32 Active bytes digest has = grind arith
most_32 Deactivated bytes digest has = grind arith
most_32 Destroyed bytes digest has = omega (arith, ap length has)

pub bytes_most : (state : State) (key : ℕ) (held : KeyRow) → KeepsRules state → key_row state key ≡ Some held
    → length held.bytes ≤ 32
bytes_most state key held rules e = most_32 held.state held.bytes held.digest (held_rules state key held rules e).bytes

active_length : (state : KeyState) (bytes digest : List ℕ) → HasBytes state bytes digest → unless_active state ≡ None
    → IsKeyLength (length bytes)
active_length PreActive bytes digest has none = has.0
active_length Active bytes digest has none = has.0
active_length Deactivated bytes digest has none = has.0
active_length Destroyed bytes digest has none = absurd cc

kept_length : (state : KeyState) (bytes digest : List ℕ) → HasBytes state bytes digest → if_destroyed state ≡ None
    → IsKeyLength (length bytes)
kept_length PreActive bytes digest has none = has.0
kept_length Active bytes digest has none = has.0
kept_length Deactivated bytes digest has none = has.0
kept_length Destroyed bytes digest has none = absurd cc

-- an active master key
pub master_length : (state : State) (master : ℕ) (held : KeyRow) → KeepsRules state → key_row state master ≡ Some held
    → first_told (master_checks state master) ≡ None → IsKeyLength (length held.bytes)
master_length state master held rules e none =
    let active = by_state unless_active (key_row state master) in
    let class = fails_if (not (is_master (class_of master))) (NotMaster master) in
    let known = passed_both (unless_known master (key_row state master)) (class ∷ active ∷ []) none in
    let last = passed_both active [] (passed_both class (active ∷ []) known.1).1 in
    active_length held.state held.bytes held.digest (held_rules state master held rules e).bytes
    (ap (λ (row : Option KeyRow). by_state unless_active row) (sym e) ∙ last.0)

-- a session key that is not destroyed
session_length : (state : State) (key : ℕ) (row : Option KeyRow) → KeepsRules state → key_row state key ≡ row
    → first_told (session_checks state key) ≡ None → IsKeyLength (length (octets_of state key))
session_length state key None rules e none =
    let kept = by_state if_destroyed (key_row state key) in
    let class = fails_if (is_master (class_of key)) (NotSession key) in
    let known = passed_both (unless_known key (key_row state key)) (class ∷ kept ∷ []) none in
    absurd (let wrong : unless_known key None ≡ None = ap (unless_known key) (sym e) ∙ known.0 in cc)
session_length state key (Some held) rules e none =
    let kept = by_state if_destroyed (key_row state key) in
    let class = fails_if (is_master (class_of key)) (NotSession key) in
    let known = passed_both (unless_known key (key_row state key)) (class ∷ kept ∷ []) none in
    let last = passed_both kept [] (passed_both class (kept ∷ []) known.1).1 in
    let length_held = kept_length held.state held.bytes held.digest (held_rules state key held rules e).bytes
    (ap (λ (row : Option KeyRow). by_state if_destroyed row) (sym e) ∙ last.0) in
    rw e length_held

-- the length of their text
pub record IsLong (count : ℕ) (text : List ℕ) : Type 0 where
  pub least : 19 * count ≤ length text
  pub most : length text ≤ 35 * count

longer : (count n : ℕ) (item text : List ℕ) → IsKeyLength n → length item ≡ 3 + n → IsLong count text
    → IsLong (1 + count) (item ++ text)
longer count n item text is e long =
    record { least = grind (arith, length-append item text); most = grind (arith, length-append item text) }

pub clear_length : (state : State) (keys : List ℕ) → KeepsRules state
    → first_told (flat_map (session_checks state) keys) ≡ None
    → IsLong (length keys) (clear_text state keys)
clear_length state [] rules none = record { least = omega arith; most = omega arith }
clear_length state (key ∷ keys) rules none =
    let both = none_append (session_checks state key) (flat_map (session_checks state) keys) none in
    let item = item_octets (record { id = key; bytes = octets_of state key }) in
    let long = longer (length keys) (length (octets_of state key)) item (clear_text state keys)
    (session_length state key (key_row state key) rules refl both.0) (omega arith)
    (clear_length state keys rules both.1) in
    record { least = omega arith; most = omega arith }
