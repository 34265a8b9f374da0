-- Lists of checks whose first ones are passed, for the clauses that tell the first refusal of a command.
use Rattle.std.proofs.Common.{◌≡◌, ℕ, zero, suc, ◌+◌, ◌<◌, List, [], ◌∷◌, ◌++◌, length, get_or, drop, Option, Some}
use Rattle.std.proofs.Common.{None, refl, sym, ap, ◌∙◌, arith}
use Rattle.std.specs.List.{flat_map}
use Rattle.std.specs.Option.{option_and_then, option_or}
use Rattle.sdls_base.specs.FirstFailing.{first_told}
use Rattle.sdls_base.specs.declared.entry.Seen.{Seen}
use Rattle.sdls_base.specs.declared.states.SaState.{SaState}
use Rattle.sdls_base.specs.declared.states.SaState.TheVariants.{Unkeyed}
use Rattle.key_book.specs.declared.key_row.KeyRow.{KeyRow}
use Rattle.sa_book.specs.declared.sa_book.SaRow.{SaRow}
use Rattle.sa_book.specs.SaRefusal.{on_row, unless_unkeyed}
use Rattle.unit_state.specs.declared.state.State.{State}
use Rattle.unit_state.specs.State.{key_row, association_row}
use Rattle.ep_core.specs.declared.refusal.Refusal.{Refusal}
use Rattle.ep_core.specs.Refusals.{from_associations, unless_known, rekey_checks, if_exhausted, master_checks}
use Rattle.ep_core.specs.Refusals.{session_checks, compose_checks}
use Rattle.unit_state.specs.Taking.{taking_refusal}

-- one check alone
pub one_told : {A : Type 0} (check : Option A) → first_told (check ∷ []) ≡ check
one_told None = refl
one_told (Some told) = refl

-- an unkeyed association, and a key that is there
pub rekey_told : (state : State) (spi key number word : ℕ) (row : SaRow) (held : KeyRow)
    → association_row state spi ≡ Some row
    → row.state ≡ Unkeyed → key_row state key ≡ Some held
    → first_told (rekey_checks state spi key number word) ≡ from_associations spi (Some key)
    (taking_refusal state spi key number word row held)
rekey_told state spi key number word row held p q r =
    ap (λ (a : Option SaRow). first_told (from_associations spi None (on_row a (λ row. unless_unkeyed row.state))
    ∷ unless_known key (key_row state key)
    ∷ from_associations spi (Some key)
    (option_and_then (λ row. option_and_then (taking_refusal state spi key number word row) (key_row state key)) a)
    ∷ [])) p
    ∙ ap (λ (h : Option KeyRow). first_told (from_associations spi None (unless_unkeyed row.state)
    ∷ unless_known key h
    ∷ from_associations spi (Some key) (option_and_then (taking_refusal state spi key number word row) h)
    ∷ [])) r
    ∙ ap (λ (s : SaState). first_told (from_associations spi None (unless_unkeyed s)
    ∷ None
    ∷ from_associations spi (Some key) (taking_refusal state spi key number word row held)
    ∷ [])) q
    ∙ one_told (from_associations spi (Some key) (taking_refusal state spi key number word row held))

-- checks behind others
pub told_append : {A : Type 0} (front back : List (Option A))
    → first_told (front ++ back) ≡ option_or (first_told front) (first_told back)
told_append [] back = refl
told_append (None ∷ front) back = told_append front back
told_append (Some told ∷ front) back = refl

-- the keys of a list from a place on: those of the key there, and then of the others
sessions_at : (state : State) (keys : List ℕ) (i key : ℕ) → i < length keys → key ≡ get_or keys i key
    → first_told (flat_map (session_checks state) (drop i keys))
    ≡ option_or (first_told (session_checks state key))
    (first_told (flat_map (session_checks state) (drop (suc i) keys)))
sessions_at state [] i key h e = absurd (omega arith)
sessions_at state (k ∷ keys) zero key h e =
    told_append (session_checks state k) (flat_map (session_checks state) keys)
    ∙ ap (λ (n : ℕ). option_or (first_told (session_checks state n))
    (first_told (flat_map (session_checks state) keys))) (sym e)
sessions_at state (k ∷ keys) (suc i) key h e = sessions_at state keys i key (omega arith) e

pub sessions_from : (state : State) (keys : List ℕ) (i key : ℕ) → i < length keys → key ≡ get_or keys i key
    → first_told (flat_map (session_checks state) (drop i keys))
    ≡ option_or (first_told (session_checks state key))
    (first_told (flat_map (session_checks state) (drop (i + 1) keys)))
sessions_from state keys i key h e =
    let same : suc i ≡ i + 1 = omega arith in
    sessions_at state keys i key h e
    ∙ ap (λ (n : ℕ). option_or (first_told (session_checks state key))
    (first_told (flat_map (session_checks state) (drop n keys)))) same

-- the master key, the keys to be sealed, and the number
pub compose_told : (state : State) (master : ℕ) (keys : List ℕ) (seen : Seen) (a b : Option Refusal)
    → first_told (master_checks state master) ≡ a
    → first_told (flat_map (session_checks state) keys) ≡ b
    → first_told (compose_checks state master keys seen) ≡ option_or a (option_or b (if_exhausted seen))
compose_told state master keys seen a b p q =
    let last = if_exhausted seen ∷ [] in
    told_append (master_checks state master) (flat_map (session_checks state) keys ++ last)
    ∙ ap (λ (o : Option Refusal). option_or o (first_told (flat_map (session_checks state) keys ++ last))) p
    ∙ ap (λ (o : Option Refusal). option_or a o)
    (told_append (flat_map (session_checks state) keys) last
    ∙ ap (λ (o : Option Refusal). option_or o (first_told last)) q
    ∙ ap (λ (o : Option Refusal). option_or b o) (one_told (if_exhausted seen)))
