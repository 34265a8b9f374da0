-- The refusals of each command, in their order; the first that applies is told (CCSDS 355.1-B-1; order profile).
use Rattle.std.specs.Prelude.{ℕ, Bool, true, false, not, List, [], ◌∷◌, ◌++◌, length, Option, Some, None, is_none}
use Rattle.std.specs.List.{flat_map}
use Rattle.std.specs.Option.{option_map, option_map_or, option_and_then}
use Rattle.gcm.specs.Gcm.{gcm_open}
use Rattle.sdls_base.specs.declared.TheConstants.{MOST_KEYS_AT_ONCE}
use Rattle.sdls_base.specs.FirstFailing.{fails_if, first_told}
use Rattle.sdls_base.specs.KeyId.{class_of}
use Rattle.sdls_base.specs.declared.entry.Seen.{Seen}
use Rattle.sdls_base.specs.declared.entry.Seen.TheVariants as seen
use Rattle.sdls_base.specs.declared.key_id.KeyItem.{KeyItem}
use Rattle.sdls_base.specs.declared.key_id.KeyClass.{KeyClass}
use Rattle.sdls_base.specs.declared.key_id.KeyClass.TheVariants.{Master, Gcm, Cmac}
use Rattle.sdls_base.specs.declared.states.KeyState.{KeyState}
use Rattle.sdls_base.specs.declared.states.KeyState.TheVariants.{PreActive, Active, Deactivated, Destroyed}
use Rattle.key_book.specs.declared.refusals.KeyRefusal.{KeyRefusal}
use Rattle.key_book.specs.declared.key_row.KeyRow.{KeyRow}
use Rattle.key_book.specs.KeyRefusal.{load_refusal}
use Rattle.key_book.specs.Moves.{moves_refusal}
use Rattle.sa_book.specs.declared.refusals.SaRefusal.{SaRefusal}
use Rattle.sa_book.specs.declared.sa_book.SaRow.{SaRow}
use Rattle.sa_book.specs.SaBook.{in_use}
use Rattle.sa_book.specs.SaRefusal.{on_row, unless_unkeyed, create_refusal, delete_refusal, expire_refusal}
use Rattle.sa_book.specs.SaRefusal.{read_number_refusal, set_number_refusal, set_window_refusal, start_refusal}
use Rattle.sa_book.specs.SaRefusal.{stop_refusal}
use Rattle.unit_state.specs.declared.state.State.{State}
use Rattle.unit_state.specs.State.{key_row, association_row}
use Rattle.unit_state.specs.Taking.{least_with, taking_refusal}
use Rattle.ep_codec.specs.declared.command.Command.{Command}
use Rattle.ep_codec.specs.declared.command.Command.TheVariants.{Rekeying, Activate, Deactivate, Verify, Destroy}
use Rattle.ep_codec.specs.declared.command.Command.TheVariants.{Inventory, Compose, ReadNumber, Create, Delete}
use Rattle.ep_codec.specs.declared.command.Command.TheVariants.{SetWindow, Rekey, Expire, SetNumber, Start, Stop}
use Rattle.ep_codec.specs.declared.command.Command.TheVariants.{Status}
use Rattle.ep_core.specs.declared.refusal.Refusal.{Refusal}
use Rattle.ep_core.specs.declared.refusal.Refusal.TheVariants.{UnknownKey, KeyInState, BadTag, BadItems, Exhausted}
use Rattle.ep_core.specs.declared.refusal.Refusal.TheVariants.{NotMaster, NotSession}
use Rattle.ep_core.specs.Refusal.{of_keys, of_association}
use Rattle.ep_core.specs.Seen.{word_of}
use Rattle.ep_core.specs.Sealed.{front, items_in, items_fault}

-- ---- what the books refuse

abbrev pub from_keys : Option KeyRefusal → Option Refusal
from_keys refusal = option_and_then of_keys refusal

abbrev pub from_associations : ℕ → Option ℕ → Option SaRefusal → Option Refusal
from_associations spi key refusal = option_and_then (of_association spi key) refusal

-- ---- associations

-- the row of the key that an association holds
abbrev pub held_row : State → SaRow → Option KeyRow
held_row state row = option_and_then (key_row state) row.key

-- the least lawful number of an association as it stands, by the word that was seen of it
abbrev pub least_of : State → ℕ → SaRow → ℕ
least_of state word row = option_map_or (least_with word row.direction) (held_row state row) word

abbrev pub least_at : State → ℕ → ℕ → ℕ
least_at state spi word = option_map_or (least_of state word) (association_row state spi) word

-- an unkeyed association, to take a key
abbrev pub unless_free : State → ℕ → Option SaRefusal
unless_free state spi = on_row (association_row state spi) (λ row. unless_unkeyed row.state)

abbrev pub unless_known : ℕ → Option KeyRow → Option Refusal
unless_known key None = Some (UnknownKey key)
unless_known key (Some held) = None

abbrev pub unless_takes : State → ℕ → ℕ → ℕ → ℕ → Option SaRefusal
unless_takes state spi key number word = option_and_then
    (λ row. option_and_then (taking_refusal state spi key number word row) (key_row state key))
    (association_row state spi)

abbrev pub rekey_checks : State → ℕ → ℕ → ℕ → ℕ → List (Option Refusal)
rekey_checks state spi key number word =
    from_associations spi None (unless_free state spi)
    ∷ unless_known key (key_row state key)
    ∷ from_associations spi (Some key) (unless_takes state spi key number word)
    ∷ []

-- ---- keys

abbrev pub is_master : KeyClass → Bool
is_master Master = true
is_master Gcm = false
is_master Cmac = false

abbrev pub unless_active : KeyState → Option Refusal
unless_active PreActive = Some (KeyInState PreActive)
unless_active Active = None
unless_active Deactivated = Some (KeyInState Deactivated)
unless_active Destroyed = Some (KeyInState Destroyed)

-- neither pre-active nor active
abbrev pub unless_usable : KeyState → Option Refusal
unless_usable PreActive = None
unless_usable Active = None
unless_usable Deactivated = Some (KeyInState Deactivated)
unless_usable Destroyed = Some (KeyInState Destroyed)

abbrev pub if_destroyed : KeyState → Option Refusal
if_destroyed PreActive = None
if_destroyed Active = None
if_destroyed Deactivated = None
if_destroyed Destroyed = Some (KeyInState Destroyed)

-- what a key's state refuses, where the key is there
abbrev pub by_state : (KeyState → Option Refusal) → Option KeyRow → Option Refusal
by_state refusal row = option_and_then (λ held. refusal held.state) row

abbrev pub if_exhausted : Seen → Option Refusal
if_exhausted seen.Nothing = None
if_exhausted (seen.Word word) = None
if_exhausted (seen.Number number) = None
if_exhausted (seen.Exhausted number) = Some (Exhausted number)

-- an active master key
abbrev pub master_checks : State → ℕ → List (Option Refusal)
master_checks state master =
    unless_known master (key_row state master)
    ∷ fails_if (not (is_master (class_of master))) (NotMaster master)
    ∷ by_state unless_active (key_row state master)
    ∷ []

-- a session key that is not destroyed
abbrev pub session_checks : State → ℕ → List (Option Refusal)
session_checks state key =
    unless_known key (key_row state key)
    ∷ fails_if (is_master (class_of key)) (NotSession key)
    ∷ by_state if_destroyed (key_row state key)
    ∷ []

abbrev pub verify_checks : State → ℕ → Seen → List (Option Refusal)
verify_checks state key seen =
    unless_known key (key_row state key) ∷ by_state unless_usable (key_row state key) ∷ if_exhausted seen ∷ []

abbrev pub compose_checks : State → ℕ → List ℕ → Seen → List (Option Refusal)
compose_checks state master keys seen =
    master_checks state master ++ (flat_map (session_checks state) keys ++ if_exhausted seen ∷ [])

-- what was sealed under a master key, if the tag is right
abbrev pub opened : State → ℕ → List ℕ → List ℕ → List ℕ → Option (List ℕ)
opened state master vector sealed tag =
    option_and_then (λ held. gcm_open held.bytes vector (front master (length sealed)) sealed tag)
    (key_row state master)

-- the keys of a clear text
abbrev pub items_of : Option (List ℕ) → List KeyItem
items_of text = option_map_or (items_in MOST_KEYS_AT_ONCE) text []

abbrev pub text_checks : State → Option (List ℕ) → List (Option Refusal)
text_checks state text =
    fails_if (is_none text) BadTag
    ∷ option_map BadItems (option_and_then (items_fault MOST_KEYS_AT_ONCE 0) text)
    ∷ from_keys (load_refusal state.keys (items_of text))
    ∷ []

abbrev pub rekeying_checks : State → ℕ → Option (List ℕ) → List (Option Refusal)
rekeying_checks state master text = master_checks state master ++ text_checks state text

-- ---- all commands

-- the first refusal that applies
abbrev pub refusal_of : State → Command → Seen → Option Refusal
refusal_of state (Rekeying master vector sealed tag) seen =
    first_told (rekeying_checks state master (opened state master vector sealed tag))
refusal_of state (Activate keys) seen = from_keys (moves_refusal state.keys keys Active (in_use state.associations))
refusal_of state (Deactivate keys) seen = from_keys
    (moves_refusal state.keys keys Deactivated (in_use state.associations))
refusal_of state (Verify key challenge) seen = first_told (verify_checks state key seen)
refusal_of state (Destroy keys) seen = from_keys (moves_refusal state.keys keys Destroyed (in_use state.associations))
refusal_of state (Inventory first last) seen = None
refusal_of state (Compose master keys) seen = first_told (compose_checks state master keys seen)
refusal_of state (ReadNumber spi) seen = from_associations spi None (read_number_refusal state.associations spi)
refusal_of state (Create new) seen = from_associations new.spi None
    (create_refusal state.associations new state.channels)
refusal_of state (Delete spi) seen = from_associations spi None (delete_refusal state.associations spi)
refusal_of state (SetWindow spi window) seen = from_associations spi None (set_window_refusal state.associations spi)
refusal_of state (Rekey spi key number) seen = first_told (rekey_checks state spi key number (word_of seen))
refusal_of state (Expire spi) seen = from_associations spi None (expire_refusal state.associations spi)
refusal_of state (SetNumber spi number) seen =
    from_associations spi None (set_number_refusal state.associations spi number (least_at state spi (word_of seen)))
refusal_of state (Start spi) seen = from_associations spi None (start_refusal state.associations spi)
refusal_of state (Stop spi) seen = from_associations spi None (stop_refusal state.associations spi)
refusal_of state (Status spi) seen = from_associations spi None (set_window_refusal state.associations spi)
