-- A need names a key that is there.
use Rattle.std.proofs.Common.{◌≡◌, ℕ, Bool, true, false, not, List, [], ◌∷◌, ◌++◌, Option, Some, None, IsSome, refl}
use Rattle.std.proofs.Common.{sym, ◌∙◌, ap, subst, inl, inr}
use Rattle.std.specs.Prelude.{IfSome, IsSomeAnd, if◌then◌else◌, is_some}
use Rattle.std.specs.List.{flat_map}
use Rattle.std.specs.Option.{option_map_or, option_and_then}
use Rattle.sdls_base.specs.FirstFailing.{fails_if, first_told}
use Rattle.sdls_base.specs.KeyId.{class_of}
use Rattle.sdls_base.specs.Suite.{class_of_suite}
use Rattle.sdls_base.specs.declared.entry.Seen.TheVariants as seen
use Rattle.sdls_base.specs.declared.states.Direction.{Direction}
use Rattle.sdls_base.specs.declared.states.Direction.TheVariants.{Send, Receive}
use Rattle.sdls_base.specs.declared.states.SaState.{SaState}
use Rattle.sdls_base.specs.declared.states.SaState.TheVariants.{Unkeyed, Keyed, Operational}
use Rattle.key_book.specs.declared.key_row.KeyRow.{KeyRow}
use Rattle.sa_book.specs.declared.sa_book.SaRow.{SaRow}
use Rattle.sa_book.specs.declared.refusals.SaRefusal.TheVariants.{WrongSuite}
use Rattle.sa_book.specs.SaRefusal.{unless_unkeyed, if_unkeyed, unless_active, is_same_class, taken_key, receiver_with}
use Rattle.sa_book.specs.SaRefusal.{number_refusal, number_refusal_of, key_refusal}
use Rattle.sa_book.proofs.Changes.{number_below}
use Rattle.unit_state.specs.declared.state.State.{State}
use Rattle.unit_state.specs.State.{KeepsRules, HasKey, key_row, association_row}
use Rattle.unit_state.proofs.Found.{found}
use Rattle.unit_state.proofs.SaRules.{judged}
use Rattle.ep_codec.specs.declared.command.Command.{Command}
use Rattle.ep_codec.specs.declared.command.Command.TheVariants.{Rekeying, Activate, Deactivate, Verify, Destroy}
use Rattle.ep_codec.specs.declared.command.Command.TheVariants.{Inventory, Compose, ReadNumber, Create, Delete}
use Rattle.ep_codec.specs.declared.command.Command.TheVariants.{SetWindow, Rekey, Expire, SetNumber, Start, Stop}
use Rattle.ep_codec.specs.declared.command.Command.TheVariants.{Status}
use Rattle.ep_core.specs.declared.judging.Need.{Need}
use Rattle.ep_core.specs.declared.judging.Need.TheVariants.{Nothing, Look, Raise, Number}
use Rattle.ep_core.specs.declared.refusal.Refusal.{Refusal}
use Rattle.ep_core.specs.declared.refusal.Refusal.TheVariants.{NotMaster}
use Rattle.ep_core.specs.Need.{is_sending, sends, sending_key, sending_key_of, need_of}
use Rattle.ep_core.specs.Refusals as refusals
use Rattle.ep_core.specs.Refusals.{refusal_of, from_associations, unless_known, unless_free, by_state, unless_usable}
use Rattle.ep_core.specs.Refusals.{unless_takes, session_checks, least_at}
use Rattle.unit_state.specs.Taking.{taking_refusal, least_with}
use Rattle.ep_core.proofs.Checks.{rekey_told}
use Rattle.ep_core.proofs.Free.{associations_free, tells_free, tells_rekey, tells_set_number}
use Rattle.ep_core.proofs.SealedFacts.{passed_both}
use Rattle.run_promise.specs.History.{IsNeedOf}
use Rattle.unit_book.specs.Needs.{NamesKey}

-- nothing, or the need
unless : (state : State) (b : Bool) (need : Need) → (b ≡ false → NamesKey state need)
    → NamesKey state (if b then Nothing else need)
unless state true need names = tt
unless state false need names = names refl

-- where a first check is that a key is there
first_known : (state : State) (key : ℕ) (row : Option KeyRow) (rest : List (Option Refusal)) (need : Need)
    → key_row state key ≡ row
    → (IsSome (key_row state key) → NamesKey state need)
    → NamesKey state (if is_some (first_told (unless_known key row ∷ rest)) then Nothing else need)
first_known state key None rest need is names = tt
first_known state key (Some held) rest need is names =
    unless state (is_some (first_told (None ∷ rest))) need (λ not. names (subst IsSome (sym is) refl))

-- ---- keys of associations

held_by : (own : Option ℕ) (key : ℕ) (P : ℕ → Type 0) → own ≡ Some key → IfSome own P → P key
held_by None key P is holds = absurd cc
held_by (Some other) key P is holds = subst (λ (o : Option ℕ). IfSome o P) is holds

some_of : {A : Type 0} (o : Option A) (P : A → Type 0) → IsSomeAnd o P → IsSome o
some_of {A} None P holds = absurd holds
some_of {A} (Some a) P holds = refl

-- an association's key is there
own_known : (state : State) (spi key : ℕ) (row : SaRow) → KeepsRules state → association_row state spi ≡ Some row
    → row.key ≡ Some key
    → IsSome (key_row state key)
own_known state spi key row rules there own =
    some_of (key_row state key) _ (held_by row.key key _ own
    (found (HasKey state.keys) _ state.associations row there rules.held))

sender_of : (direction : Direction) (own : Option ℕ) (key : ℕ) → (if is_sending direction then own else None) ≡ Some key
    → own ≡ Some key
sender_of Send own key is = is
sender_of Receive own key is = absurd cc

-- ---- a look

look_names : (state : State) (spi : ℕ) (row : Option SaRow) (key : Option ℕ) → KeepsRules state
    → association_row state spi ≡ row
    → option_and_then sending_key_of row ≡ key → NamesKey state (option_map_or Look key Nothing)
look_names state spi row None rules there is = tt
look_names state spi None (Some key) rules there is = absurd cc
look_names state spi (Some row) (Some key) rules there is =
    own_known state spi key row rules there (sender_of row.direction row.key key is)

-- ---- numbers

none_of : {A : Type 0} (o : Option A) → is_some o ≡ false → o ≡ None
none_of {A} None not = refl
none_of {A} (Some a) not = absurd cc

raise_if : (state : State) (b : Bool) (key number : ℕ) → NamesKey state (Raise key number)
    → NamesKey state (if b then Raise key number else Nothing)
raise_if state true key number names = names
raise_if state false key number names = tt

unkeyed : (s : SaState) → unless_unkeyed s ≡ None → s ≡ Unkeyed
unkeyed Unkeyed none = refl
unkeyed Keyed none = absurd cc
unkeyed Operational none = absurd cc

known : (key : ℕ) (row : Option KeyRow) → unless_known key row ≡ None → (held : KeyRow) × (row ≡ Some held)
known key None none = absurd cc
known key (Some held) none = (held, refl)

rekey_names : (state : State) (spi key number : ℕ) → refusal_of state (Rekey spi key number) seen.Nothing ≡ None
    → NamesKey state (Raise key number)
rekey_names state spi key number none =
    let free_check = from_associations spi None (unless_free state spi) in
    let key_check = unless_known key (key_row state key) in
    let takes_check = from_associations spi (Some key) (unless_takes state spi key number 0) in
    let one = passed_both free_check (key_check ∷ takes_check ∷ []) none in
    let (held, is) = known key (key_row state key) (passed_both key_check (takes_check ∷ []) one.1).0 in
    let at = judged state.associations spi (λ (row : SaRow). unless_unkeyed row.state)
    (associations_free spi None (unless_free state spi) (tells_free None (association_row state spi)) one.0) in
    let least = least_with 0 at.row.direction held in
    let takes : taking_refusal state spi key number 0 at.row held ≡ None =
    associations_free spi (Some key) _ (tells_rekey state.associations spi key held.state number least)
    (sym (rekey_told state spi key number 0 at.row held at.there (unkeyed at.row.state at.free) is) ∙ none) in
    let own = judged state.associations spi
    (λ (row : SaRow). key_refusal state.associations row key held.state number least) takes in
    let first = passed_both (unless_unkeyed own.row.state) _ own.free in
    let second = passed_both (fails_if (not (is_same_class (class_of key) (class_of_suite own.row.suite))) WrongSuite) _
    first.1 in
    let third = passed_both (unless_active held.state) _ second.1 in
    let fourth = passed_both (taken_key own.row.direction (receiver_with state.associations key)) _ third.1 in
    let last = passed_both (number_refusal key number least) [] fourth.1 in
    (subst IsSome (sym is) refl, number_below key number least last.0)

number_names : (state : State) (spi number : ℕ) (o : Option ℕ) → KeepsRules state → sending_key state spi ≡ o
    → refusal_of state (SetNumber spi number) seen.Nothing ≡ None
    → NamesKey state (option_map_or (λ key. Raise key number) o Nothing)
number_names state spi number None rules is none = tt
number_names state spi number (Some key) rules is none =
    let least = least_at state spi 0 in
    let at = judged state.associations spi
    (λ (row : SaRow). first_told (if_unkeyed row.state ∷ number_refusal_of row.key number least ∷ []))
    (associations_free spi None _ (tells_set_number state.associations spi number least) none) in
    let own : at.row.key ≡ Some key = sender_of at.row.direction at.row.key key
    (sym (ap (λ (o : Option SaRow). option_and_then sending_key_of o) at.there) ∙ is) in
    let first = passed_both (if_unkeyed at.row.state) _ at.free in
    let last = passed_both (number_refusal_of at.row.key number least) [] first.1 in
    let free : number_refusal key number least ≡ None =
    sym (ap (λ (o : Option ℕ). number_refusal_of o number least) own) ∙ last.0 in
    (own_known state spi key at.row rules at.there own, number_below key number least free)

-- ---- all commands

need_names : (state : State) (command : Command) → KeepsRules state → NamesKey state (need_of state command)
need_names state (Rekeying master vector sealed tag) rules = tt
need_names state (Activate keys) rules = tt
need_names state (Deactivate keys) rules = tt
need_names state (Verify key challenge) rules =
    first_known state key (key_row state key) (by_state unless_usable (key_row state key) ∷ None ∷ []) (Number key) refl
    (λ there. there)
need_names state (Destroy keys) rules = tt
need_names state (Inventory first last) rules = tt
need_names state (Compose master keys) rules =
    first_known state master (key_row state master)
    ((fails_if (not (refusals.is_master (class_of master))) (NotMaster master) ∷ by_state refusals.unless_active
    (key_row state master) ∷ [])
    ++ (flat_map (session_checks state) keys ++ None ∷ [])) (Number master) refl (λ there. there)
need_names state (ReadNumber spi) rules =
    unless state (is_some (refusal_of state (ReadNumber spi) seen.Nothing))
    (option_map_or Look (sending_key state spi) Nothing)
    (λ not. look_names state spi (association_row state spi) (sending_key state spi) rules refl refl)
need_names state (Create new) rules = tt
need_names state (Delete spi) rules = tt
need_names state (SetWindow spi window) rules = tt
need_names state (Rekey spi key number) rules =
    unless state (is_some (refusal_of state (Rekey spi key number) seen.Nothing))
    (if sends state spi then Raise key number else Nothing)
    (λ not. raise_if state (sends state spi) key number
    (rekey_names state spi key number (none_of (refusal_of state (Rekey spi key number) seen.Nothing) not)))
need_names state (Expire spi) rules = tt
need_names state (SetNumber spi number) rules =
    unless state (is_some (refusal_of state (SetNumber spi number) seen.Nothing))
    (option_map_or (λ key. Raise key number) (sending_key state spi) Nothing)
    (λ not. number_names state spi number (sending_key state spi) rules refl
    (none_of (refusal_of state (SetNumber spi number) seen.Nothing) not))
need_names state (Start spi) rules = tt
need_names state (Stop spi) rules = tt
need_names state (Status spi) rules = tt

pub names_key : (state : State) (octets : List ℕ) (need : Need) → KeepsRules state → IsNeedOf state octets need
    → NamesKey state need
names_key state octets need rules (inl (command, spelled, is)) =
    subst (NamesKey state) (sym is) (need_names state command rules)
names_key state octets need rules (inr (offset, fault, is)) = subst (NamesKey state) (sym is) tt
