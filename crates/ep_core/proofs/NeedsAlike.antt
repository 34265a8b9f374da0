-- The need of a command does not look at marks, floors and highest numbers.
use Rattle.std.proofs.Common.{◌≡◌, ℕ, nat_eq, Bool, true, false, List, [], ◌∷◌, ◌++◌, map, Option, Some, None, refl}
use Rattle.std.proofs.Common.{sym, ap, ◌∙◌}
use Rattle.std.specs.Prelude.{if◌then◌else◌, is_some, not}
use Rattle.std.specs.List.{flat_map}
use Rattle.std.specs.Option.{option_map, option_map_or, option_and_then}
use Rattle.sdls_base.proofs.Searches.{find-map}
use Rattle.sdls_base.specs.FirstFailing.{fails_if, first_told}
use Rattle.sdls_base.specs.KeyId.{class_of}
use Rattle.sdls_base.specs.Suite.{class_of_suite}
use Rattle.sdls_base.specs.declared.entry.Seen.TheVariants as seen
use Rattle.sdls_base.specs.declared.states.Direction.{Direction}
use Rattle.sdls_base.specs.declared.states.Direction.TheVariants.{Send, Receive}
use Rattle.sdls_base.specs.declared.states.KeyState.{KeyState}
use Rattle.key_book.specs.declared.key_row.KeyRow.{KeyRow}
use Rattle.sa_book.specs.declared.sa_book.SaRow.{SaRow}
use Rattle.sa_book.specs.declared.refusals.SaRefusal.{SaRefusal}
use Rattle.sa_book.specs.declared.refusals.SaRefusal.TheVariants.{WrongSuite}
use Rattle.sa_book.specs.SaRefusal.{on_row, unless_unkeyed, if_unkeyed, unless_active, is_same_class, taken_key}
use Rattle.sa_book.specs.SaRefusal.{receiver_with, number_refusal, number_refusal_of, key_refusal}
use Rattle.unit_state.specs.declared.state.State.{State}
use Rattle.unit_state.specs.State.{key_row, association_row}
use Rattle.unit_state.specs.Restart.{still, still_key, still_association}
use Rattle.ep_codec.specs.declared.command.Command.{Command}
use Rattle.ep_codec.specs.declared.command.Command.TheVariants.{Rekeying, Activate, Deactivate, Verify, Destroy}
use Rattle.ep_codec.specs.declared.command.Command.TheVariants.{Inventory, Compose, ReadNumber, Create, Delete}
use Rattle.ep_codec.specs.declared.command.Command.TheVariants.{SetWindow, Rekey, Expire, SetNumber, Start, Stop}
use Rattle.ep_codec.specs.declared.command.Command.TheVariants.{Status}
use Rattle.ep_core.specs.declared.judging.Need.{Need}
use Rattle.ep_core.specs.declared.judging.Need.TheVariants.{Nothing, Look, Raise, Number}
use Rattle.ep_core.specs.declared.refusal.Refusal.{Refusal}
use Rattle.ep_core.specs.declared.refusal.Refusal.TheVariants.{NotMaster, NotSession}
use Rattle.ep_core.specs.Need.{is_sending, sending_key_of, need_of}
use Rattle.ep_core.specs.Refusals as refusals
use Rattle.ep_core.specs.Refusals.{from_associations, unless_known, by_state, unless_usable, master_checks}
use Rattle.ep_core.specs.Refusals.{session_checks, compose_checks, least_of, held_row}
use Rattle.unit_state.specs.Taking.{least_with}

-- ---- rows

association_still : (state : State) (spi : ℕ) → association_row (still state) spi
    ≡ option_map still_association (association_row state spi)
association_still state spi = find-map (λ (row : SaRow). nat_eq row.spi spi) still_association state.associations
    (λ _. refl)

key_still : (state : State) (key : ℕ) → key_row (still state) key ≡ option_map still_key (key_row state key)
key_still state key = find-map (λ (row : KeyRow). nat_eq row.id key) still_key state.keys (λ _. refl)

-- ---- a challenge

abbrev verify_need : ℕ → Option KeyRow → Need
verify_need key row =
    if is_some (first_told (unless_known key row ∷ by_state unless_usable row ∷ None ∷ [])) then Nothing else Number key

verify_still : (key : ℕ) (row : Option KeyRow) → verify_need key (option_map still_key row) ≡ verify_need key row
verify_still key None = refl
verify_still key (Some held) = refl

-- ---- keys to be sealed

abbrev masters : ℕ → Option KeyRow → List (Option Refusal)
masters master row =
    unless_known master row
    ∷ fails_if (not (refusals.is_master (class_of master))) (NotMaster master)
    ∷ by_state refusals.unless_active row
    ∷ []

abbrev sessions : ℕ → Option KeyRow → List (Option Refusal)
sessions key row =
    unless_known key row
    ∷ fails_if (refusals.is_master (class_of key)) (NotSession key)
    ∷ by_state refusals.if_destroyed row
    ∷ []

masters_still : (master : ℕ) (row : Option KeyRow) → masters master (option_map still_key row) ≡ masters master row
masters_still master None = refl
masters_still master (Some held) = refl

sessions_still : (key : ℕ) (row : Option KeyRow) → sessions key (option_map still_key row) ≡ sessions key row
sessions_still key None = refl
sessions_still key (Some held) = refl

keys_still : (state : State) (keys : List ℕ) → flat_map (session_checks (still state)) keys
    ≡ flat_map (session_checks state) keys
keys_still state [] = refl
keys_still state (key ∷ keys) =
    ap (λ (checks : List (Option Refusal)). checks ++ flat_map (session_checks (still state)) keys)
    (ap (sessions key) (key_still state key) ∙ sessions_still key (key_row state key))
    ∙ ap (λ (checks : List (Option Refusal)). session_checks state key ++ checks) (keys_still state keys)

compose_still : (state : State) (master : ℕ) (keys : List ℕ)
    → compose_checks (still state) master keys seen.Nothing ≡ compose_checks state master keys seen.Nothing
compose_still state master keys =
    ap (λ (checks : List (Option Refusal)). checks ++ (flat_map (session_checks (still state)) keys ++ None ∷ []))
    (ap (masters master) (key_still state master) ∙ masters_still master (key_row state master))
    ∙ ap (λ (checks : List (Option Refusal)). master_checks state master ++ (checks ++ None ∷ []))
    (keys_still state keys)

-- ---- the next number of an association

abbrev look_need : ℕ → Option SaRow → Need
look_need spi row =
    if is_some (from_associations spi None (on_row row (λ row. if_unkeyed row.state))) then Nothing
    else option_map_or Look (option_and_then sending_key_of row) Nothing

look_still : (spi : ℕ) (row : Option SaRow) → look_need spi (option_map still_association row) ≡ look_need spi row
look_still spi None = refl
look_still spi (Some row) = refl

-- ---- a key for an association: of one that receives, nothing is asked

either_nothing : (b : Bool) → (if b then Nothing else Nothing) ≡ Nothing
either_nothing true = refl
either_nothing false = refl

abbrev sends_row : Option SaRow → Bool
sends_row row = option_map_or (λ (row : SaRow). is_sending row.direction) row false

abbrev rekey_list : ℕ → ℕ → ℕ → List SaRow → Option SaRow → Option KeyRow → List (Option Refusal)
rekey_list spi key number rows row held =
    from_associations spi None (on_row row (λ row. unless_unkeyed row.state))
    ∷ unless_known key held
    ∷ from_associations spi (Some key)
    (option_and_then (λ (one : SaRow).
    option_and_then (λ (held : KeyRow).
    on_row row (λ row. key_refusal rows row key held.state number (least_with 0 one.direction held))) held) row)
    ∷ []

abbrev raise_need : ℕ → ℕ → ℕ → List SaRow → Option SaRow → Option KeyRow → Need
raise_need spi key number rows row held =
    if is_some (first_told (rekey_list spi key number rows row held)) then Nothing
    else (if sends_row row then Raise key number else Nothing)

-- the checks of a key for a row, by its direction
abbrev directed : SaRow → ℕ → ℕ → KeyState → Direction → Option SaRow → KeyRow → Option SaRefusal
directed row key number state direction holder held = first_told
    (unless_unkeyed row.state
    ∷ fails_if (not (is_same_class (class_of key) (class_of_suite row.suite))) WrongSuite
    ∷ unless_active state
    ∷ taken_key direction holder
    ∷ number_refusal key number (least_with 0 direction held)
    ∷ [])

sender_still : (rows others : List SaRow) (row : SaRow) (key number : ℕ) (held : KeyRow) → row.direction ≡ Send
    → key_refusal others (still_association row) key held.state number (least_with 0 row.direction (still_key held))
    ≡ key_refusal rows row key held.state number (least_with 0 row.direction held)
sender_still rows others row key number held send =
    ap (λ (d : Direction). directed row key number held.state d (receiver_with others key) (still_key held)) send
    ∙ sym (ap (λ (d : Direction). directed row key number held.state d (receiver_with rows key) held) send)

raise_sender : (spi key number : ℕ) (rows others : List SaRow) (row : SaRow) (held : Option KeyRow)
    → row.direction ≡ Send
    → raise_need spi key number others (Some (still_association row)) (option_map still_key held)
    ≡ raise_need spi key number rows (Some row) held
raise_sender spi key number rows others row None send = refl
raise_sender spi key number rows others row (Some held) send =
    ap (λ (refusal : Option SaRefusal).
    if is_some
    (first_told (from_associations spi None (unless_unkeyed row.state) ∷ None
    ∷ from_associations spi (Some key) refusal ∷ [])) then Nothing
    else (if is_sending row.direction then Raise key number else Nothing))
    (sender_still rows others row key number held send)

raise_receiver : (spi key number : ℕ) (rows : List SaRow) (row : SaRow) (held : Option KeyRow) → row.direction ≡ Receive
    → raise_need spi key number rows (Some row) held ≡ Nothing
raise_receiver spi key number rows row held receive =
    let b = is_some (first_told (rekey_list spi key number rows (Some row) held)) in
    ap (λ (d : Direction). if b then Nothing else (if is_sending d then Raise key number else Nothing)) receive
    ∙ either_nothing b

raise_row : (spi key number : ℕ) (rows others : List SaRow) (row : SaRow) (held : Option KeyRow) (d : Direction)
    → row.direction ≡ d
    → raise_need spi key number others (Some (still_association row)) (option_map still_key held)
    ≡ raise_need spi key number rows (Some row) held
raise_row spi key number rows others row held Send e = raise_sender spi key number rows others row held e
raise_row spi key number rows others row held Receive e =
    raise_receiver spi key number others (still_association row) (option_map still_key held) e
    ∙ sym (raise_receiver spi key number rows row held e)

raise_still : (spi key number : ℕ) (rows others : List SaRow) (row : Option SaRow) (held : Option KeyRow)
    → raise_need spi key number others (option_map still_association row) (option_map still_key held)
    ≡ raise_need spi key number rows row held
raise_still spi key number rows others None held = refl
raise_still spi key number rows others (Some row) held =
    raise_row spi key number rows others row held row.direction refl

-- ---- a number for an association: of one that receives, nothing is asked

abbrev number_need : ℕ → ℕ → Option SaRow → ℕ → Need
number_need spi number row least =
    if is_some
    (from_associations spi None
    (on_row row (λ row. first_told (if_unkeyed row.state ∷ number_refusal_of row.key number least ∷ []))))
    then Nothing
    else option_map_or (λ key. Raise key number) (option_and_then sending_key_of row) Nothing

zero_least : (direction : Direction) (held : Option KeyRow) → direction ≡ Send
    → option_map_or (least_with 0 direction) held 0 ≡ 0
zero_least direction None send = refl
zero_least direction (Some held) send = ap (λ (d : Direction). least_with 0 d held) send

number_row : (spi number : ℕ) (row : SaRow) (held other : Option KeyRow) (d : Direction) → row.direction ≡ d
    → number_need spi number (Some (still_association row)) (option_map_or (least_with 0 row.direction) other 0)
    ≡ number_need spi number (Some row) (option_map_or (least_with 0 row.direction) held 0)
number_row spi number row held other Send e =
    ap (number_need spi number (Some row)) (zero_least row.direction other e ∙ sym (zero_least row.direction held e))
number_row spi number row held other Receive e =
    number_receiver spi number row (option_map_or (least_with 0 row.direction) other 0) e
    ∙ sym (number_receiver spi number row (option_map_or (least_with 0 row.direction) held 0) e)
  where
    number_receiver : (spi number : ℕ) (row : SaRow) (least : ℕ) → row.direction ≡ Receive
        → number_need spi number (Some row) least ≡ Nothing
    number_receiver spi number row least receive =
        let b = is_some
        (from_associations spi None
        (first_told (if_unkeyed row.state ∷ number_refusal_of row.key number least ∷ []))) in
        ap (λ (d : Direction). if b then Nothing
        else option_map_or (λ key. Raise key number) (if is_sending d then row.key else None) Nothing) receive
        ∙ either_nothing b

abbrev least_in : State → Option SaRow → ℕ
least_in state row = option_map_or (least_of state 0) row 0

number_still : (state : State) (spi number : ℕ) (row : Option SaRow)
    → number_need spi number (option_map still_association row)
    (least_in (still state) (option_map still_association row))
    ≡ number_need spi number row (least_in state row)
number_still state spi number None = refl
number_still state spi number (Some row) =
    number_row spi number row (held_row state row) (held_row (still state) row) row.direction refl

-- ---- all commands

need_still : (state : State) (command : Command) → need_of (still state) command ≡ need_of state command
need_still state (Rekeying master vector sealed tag) = refl
need_still state (Activate keys) = refl
need_still state (Deactivate keys) = refl
need_still state (Verify key challenge) =
    ap (verify_need key) (key_still state key) ∙ verify_still key (key_row state key)
need_still state (Destroy keys) = refl
need_still state (Inventory first last) = refl
need_still state (Compose master keys) =
    ap (λ (checks : List (Option Refusal)). if is_some (first_told checks) then Nothing else Number master)
    (compose_still state master keys)
need_still state (ReadNumber spi) =
    ap (look_need spi) (association_still state spi) ∙ look_still spi (association_row state spi)
need_still state (Create new) = refl
need_still state (Delete spi) = refl
need_still state (SetWindow spi window) = refl
need_still state (Rekey spi key number) =
    let others = map still_association state.associations in
    ap (λ (row : Option SaRow). raise_need spi key number others row (key_row (still state) key))
    (association_still state spi)
    ∙ ap (raise_need spi key number others (option_map still_association (association_row state spi)))
    (key_still state key)
    ∙ raise_still spi key number state.associations others (association_row state spi) (key_row state key)
need_still state (Expire spi) = refl
need_still state (SetNumber spi number) =
    ap (λ (row : Option SaRow). number_need spi number row (least_in (still state) row)) (association_still state spi)
    ∙ number_still state spi number (association_row state spi)
need_still state (Start spi) = refl
need_still state (Stop spi) = refl
need_still state (Status spi) = refl

pub same_need : (one other : State) (command : Command) → still one ≡ still other
    → need_of one command ≡ need_of other command
same_need one other command e =
    sym (need_still one command) ∙ ap (λ (state : State). need_of state command) e ∙ need_still other command
