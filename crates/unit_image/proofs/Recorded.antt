-- The changes that a state allows and that are stored have records.
use Rattle.std.proofs.Common.{◌≡◌, ◌≢◌, ℕ, ◌≤◌, List, [], ◌∷◌, length, Option, None, Some, refl, sym, ◌∙◌, ap, subst}
use Rattle.std.proofs.Common.{arith}
use Rattle.std.specs.Option.{option_map_or, option_or}
use Rattle.std.proofs.lemmas.Option.{none-some}
use Rattle.sdls_base.specs.declared.entry.Change.{Change}
use Rattle.sdls_base.specs.declared.entry.Change.TheVariants.{Marks, Load, KeyStates, Create, Rekey, SaTo, SetNumber}
use Rattle.sdls_base.specs.declared.entry.Change.TheVariants.{SetWindow, Accepted, Nothing}
use Rattle.sdls_base.specs.declared.states.KeyState.{KeyState}
use Rattle.sdls_base.specs.declared.states.KeyState.TheVariants.{PreActive, Active, Deactivated, Destroyed}
use Rattle.key_book.specs.declared.key_row.KeyRow.{KeyRow}
use Rattle.key_book.specs.KeyBook.{row_of}
use Rattle.key_book.specs.Moves.{lowest_holder, state_refusal, moved, moves_refusal}
use Rattle.key_book.specs.declared.refusals.KeyRefusal.{KeyRefusal}
use Rattle.key_book.specs.declared.refusals.KeyRefusal.TheVariants.{WrongState, UnknownKey}
use Rattle.sa_book.specs.SaBook.{in_use}
use Rattle.unit_state.specs.declared.state.State.{State}
use Rattle.unit_state.specs.Allows.{Allows}
use Rattle.unit_state.specs.Restart.{IsStorable}
use Rattle.book_record.specs.Record.{HasRecord, IsRecord}

-- no key becomes pre-active
stays_out : (from : KeyState) (holder : Option ℕ) → state_refusal from PreActive holder ≡ Some (WrongState from)
stays_out PreActive holder = refl
stays_out Active holder = refl
stays_out Deactivated holder = refl
stays_out Destroyed holder = refl

refused : (found : Option KeyRow) (id : ℕ) (holder : Option ℕ) (rest : Option KeyRefusal)
    → ¬ (option_or (option_map_or (λ (row : KeyRow). state_refusal row.state PreActive holder) found
    (Some (UnknownKey id))) rest ≡ None)
refused None id holder rest none = none-some (UnknownKey id) (sym none)
refused (Some row) id holder rest none =
    none-some (WrongState row.state)
    (sym none ∙ ap (λ (o : Option KeyRefusal). option_or o rest) (stays_out row.state holder))

pub not_pre_active : (rows : List KeyRow) (ids : List ℕ) (to : KeyState) (uses : List (ℕ × ℕ)) → 1 ≤ length ids
    → moves_refusal rows ids to uses ≡ None → to ≢ PreActive
not_pre_active rows [] to uses some none is = absurd (let no : ⊥ = omega arith in no)
not_pre_active rows (id ∷ rest) to uses some none is =
    absurd (refused (row_of rows id) id (lowest_holder uses id)
    (moves_refusal (moved rows (id ∷ []) PreActive) rest PreActive uses)
    (subst (λ (t : KeyState). moves_refusal rows (id ∷ rest) t uses ≡ None) is none))

pub has_record : (state : State) (change : Change) → IsStorable change → Allows state change → HasRecord change
unfolding HasRecord
has_record state (Marks key mark floor) storable allowed = tt
has_record state (Load items) storable allowed =
    (record { least = allowed.count.least; most = allowed.count.most }, λ i d low. (allowed.each i d low).length)
has_record state (KeyStates ids to) storable allowed = (
  not_pre_active state.keys ids to (in_use state.associations) allowed.count.least allowed.book,
  record { least = allowed.count.least; most = allowed.count.most },
)
has_record state (Create new) storable allowed = allowed.channels
has_record state (Rekey spi key number) storable allowed = tt
has_record state (SaTo spi to) storable allowed = tt
has_record state (SetNumber spi number) storable allowed = tt
has_record state (SetWindow spi window) storable allowed = tt
has_record state (Accepted spi key number floor) storable allowed = absurd storable
has_record state Nothing storable allowed = absurd storable

has_storable : (change : Change) → HasRecord change → IsStorable change
unfolding HasRecord
has_storable (Marks key mark floor) bounds = tt
has_storable (Load items) bounds = tt
has_storable (KeyStates ids to) bounds = tt
has_storable (Create new) bounds = tt
has_storable (Rekey spi key number) bounds = tt
has_storable (SaTo spi to) bounds = tt
has_storable (SetNumber spi number) bounds = tt
has_storable (SetWindow spi window) bounds = tt
has_storable (Accepted spi key number floor) bounds = absurd bounds
has_storable Nothing bounds = absurd bounds

-- a record is one of a change that is stored
pub record_storable : (change : Change) (body : List ℕ) → IsRecord change body → IsStorable change
record_storable change body is_record = has_storable change is_record.bounds

pub storable_unless : (change : Change) → ((spi key number floor : ℕ) → change ≡ Accepted spi key number floor → ⊥)
    → (change ≡ Nothing → ⊥) → IsStorable change
storable_unless (Marks key mark floor) not_accepted not_nothing = tt
storable_unless (Load items) not_accepted not_nothing = tt
storable_unless (KeyStates ids to) not_accepted not_nothing = tt
storable_unless (Create new) not_accepted not_nothing = tt
storable_unless (Rekey spi key number) not_accepted not_nothing = tt
storable_unless (SaTo spi to) not_accepted not_nothing = tt
storable_unless (SetNumber spi number) not_accepted not_nothing = tt
storable_unless (SetWindow spi window) not_accepted not_nothing = tt
storable_unless (Accepted spi key number floor) not_accepted not_nothing =
    absurd (not_accepted spi key number floor refl)
storable_unless Nothing not_accepted not_nothing = absurd (not_nothing refl)
