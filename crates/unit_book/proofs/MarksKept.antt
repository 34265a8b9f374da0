-- Marks do not fall but by a release.
use Rattle.std.proofs.Common.{◌≡◌, ℕ, ◌+◌, ◌<◌, ◌≤◌, min, Bool, true, false, cond, ◌||◌, nat_eq, List, [], ◌∷◌, ◌++◌}
use Rattle.std.proofs.Common.{Option, Some, None, refl, sym, ◌∙◌, ap, subst, inl, inr, arith}
use Rattle.std.specs.Prelude.{IfSome, IsSomeAnd, MatchOption}
use Rattle.std.specs.List.{list_any, slice_get}
use Rattle.std.specs.Option.{option_map_or, option_and_then}
use Rattle.std.proofs.lemmas.List.Folds.{list_any-append}
use Rattle.std.proofs.lemmas.Option.{none-some, same_Some}
use Rattle.sdls_base.specs.KeyId.{end_of}
use Rattle.sdls_base.specs.declared.entry.Change.{Change}
use Rattle.sdls_base.specs.declared.entry.Change.TheVariants.{Marks}
use Rattle.sdls_base.specs.declared.entry.Change.TheVariants as changes
use Rattle.sdls_base.specs.declared.entry.Entry.{Entry}
use Rattle.sdls_base.specs.declared.entry.Seen.{Seen}
use Rattle.sdls_base.specs.declared.entry.Seen.TheVariants.{Word}
use Rattle.sdls_base.specs.declared.states.KeyState.TheVariants.{Active, Deactivated, Destroyed}
use Rattle.sdls_base.specs.declared.states.SaState.TheVariants.{Unkeyed, Keyed, Operational}
use Rattle.key_book.specs.declared.key_row.KeyRow.{KeyRow}
use Rattle.unit_plan.specs.PlanLines.{PlanLines}
use Rattle.unit_state.specs.declared.state.State.{State}
use Rattle.unit_state.specs.State.{KeepsRules, key_row, association_row}
use Rattle.unit_state.specs.Applied.{applied}
use Rattle.unit_state.specs.Allows.{Allows}
use Rattle.unit_state.specs.Laws.{RowRises, FallsOnlyTo, IsNoMarks}
use Rattle.unit_state.proofs.Found.{found_passes}
use Rattle.unit_state.proofs.KeyRules.{equal_number}
use Rattle.unit_state.proofs.RulesKept.{rules_kept}
use Rattle.unit_state.proofs.StateLaws.{rises, fall_only_to, places_kept}
use Rattle.ep_codec.specs.declared.command.Command.{Command}
use Rattle.ep_codec.specs.declared.command.Command.TheVariants.{Rekeying, Activate, Deactivate, Verify, Destroy}
use Rattle.ep_codec.specs.declared.command.Command.TheVariants.{Inventory, Compose, ReadNumber, Create, Delete}
use Rattle.ep_codec.specs.declared.command.Command.TheVariants.{SetWindow, Rekey, Expire, SetNumber, Start, Stop}
use Rattle.ep_codec.specs.declared.command.Command.TheVariants.{Status}
use Rattle.ep_core.specs.declared.refusal.Refusal.{Refusal}
use Rattle.ep_core.specs.declared.refusal.Reply.{Reply}
use Rattle.ep_core.specs.Refusals.{refusal_of, opened, items_of}
use Rattle.ep_core.specs.Step.{IsDone, refused}
use Rattle.run_promise.specs.Numbers.{mark_at, mark_of, floor_of, reserve_of, released_floor, is_released, release_of}
use Rattle.run_promise.specs.Numbers.{release_at}
use Rattle.unit_book.specs.Marks.{is_release, HasNoRelease, KeepsMarks}
use Rattle.run_promise.specs.History.{IsStepOf}
use Rattle.unit_book.proofs.Places.{by_place}

-- ---- lists of entries

either_false : (a b : Bool) → (a || b) ≡ false → (a ≡ false) × (b ≡ false)
either_false true b none = absurd cc
either_false false b none = (refl, none)

pub no_release_parts : (some more : List Entry) → HasNoRelease (some ++ more) → HasNoRelease some × HasNoRelease more
no_release_parts some more none =
    either_false (list_any is_release some) (list_any is_release more)
    (sym (list_any-append is_release some more) ∙ none)

pub no_release_last : (entries : List Entry) (entry : Entry) → HasNoRelease (entries ++ entry ∷ [])
    → HasNoRelease entries × (is_release entry ≡ false)
no_release_last entries entry none =
    let parts : HasNoRelease entries × HasNoRelease (entry ∷ []) = no_release_parts entries (entry ∷ []) none in
    (parts.0, (either_false (is_release entry) false parts.1).0)

-- ---- from state to state

kept_by : (one other : Option KeyRow) → IfSome one (λ held. IsSomeAnd other (RowRises held))
    → IfSome one (λ held. IsSomeAnd other (λ now. held.mark ≤ now.mark))
kept_by None other risen = tt
kept_by (Some held) None risen = risen
kept_by (Some held) (Some now) risen = risen.mark

-- a change but that of marks keeps them
pub no_marks_kept : (state : State) (change : Change) → KeepsRules state → Allows state change → IsNoMarks change
    → KeepsMarks state (applied state change)
no_marks_kept state change rules allows other =
    by_place state (applied state change) rules (rules_kept state change rules allows) (places_kept state change)
    (λ id. kept_by (key_row state id) (key_row (applied state change) id) (rises state change other id))

pub marks_same : (state : State) → KeepsMarks state state
marks_same state place = omega arith

pub marks_then : (one mid other : State) → KeepsMarks one mid → KeepsMarks mid other → KeepsMarks one other
marks_then one mid other first next place =
    let before : mark_at one place ≤ mark_at mid place = first place in
    let after : mark_at mid place ≤ mark_at other place = next place in
    omega arith

-- ---- a reserve

reserve_by : (key number to floor id : ℕ) (one other : Option KeyRow) → number < to
    → ((held : KeyRow) → one ≡ Some held → held.id ≡ key → held.mark ≤ number)
    → IfSome one (λ held. IsSomeAnd other (FallsOnlyTo key to floor held))
    → IfSome one (λ held. IsSomeAnd other (λ now. held.mark ≤ now.mark))
reserve_by key number to floor id None other above low falls = tt
reserve_by key number to floor id (Some held) None above low falls = falls
reserve_by key number to floor id (Some held) (Some now) above low falls =
    let not_down : ¬ (now.mark < held.mark) = λ down.
    let under : held.mark ≤ number = low held refl (falls.mark down).0 in
    let is : now.mark ≡ to = (falls.mark down).1 in
    absurd (let no : ⊥ = omega arith in no) in
    omega arith

-- the first row of a key has its mark
first_mark : (state : State) (key id number : ℕ) (held : KeyRow) → key_row state id ≡ Some held → held.id ≡ key
    → mark_of state key ≤ number
    → held.mark ≤ number
first_mark state key id number held is same low =
    let found : held.id ≡ id = equal_number held.id id
    (found_passes (λ (row : KeyRow). nat_eq row.id id) state.keys held is) in
    let there : key_row state key ≡ Some held = ap (key_row state) (sym same ∙ found) ∙ is in
    subst (λ (o : Option KeyRow). option_map_or (λ (row : KeyRow). row.mark) o 1 ≤ number) there low

-- a reserve of a number that is not below its key's mark
pub reserve_keeps : (plan : PlanLines) (state : State) (key number : ℕ) → KeepsRules state
    → Allows state (reserve_of plan state key number).change → number < end_of key → 1 ≤ plan.block
    → mark_of state key ≤ number
    → KeepsMarks state (applied state (reserve_of plan state key number).change)
reserve_keeps plan state key number rules allows below block low =
    let to : ℕ = min (number + plan.block) (end_of key) in
    by_place state (applied state (Marks key to (floor_of state key))) rules
    (rules_kept state (Marks key to (floor_of state key)) rules allows)
    (places_kept state (Marks key to (floor_of state key)))
    (λ id. reserve_by key number to (floor_of state key) id (key_row state id)
    (key_row (applied state (Marks key to (floor_of state key))) id) (omega arith)
    (λ held is same. first_mark state key id number held is same low)
    (fall_only_to state key to (floor_of state key) id))

-- ---- a step of a command

changes_to : (step : Change × Reply) (change : Change) → IsNoMarks change → step.0 ≡ change → IsNoMarks step.0
changes_to step change other is = subst IsNoMarks (sym is) other

some_keep : {A : Type 0} (o : Option A) (P : A → Type 0) (R : Type 0) → ((a : A) → P a → R) → IsSomeAnd o P → R
some_keep {A} None P R from is = absurd is
some_keep {A} (Some a) P R from is = from a is

abbrev change_of : Change × Reply → Change
change_of step = step.0

done_keeps : (state : State) (command : Command) (seen : Seen) (step : Change × Reply) → IsDone state command seen step
    → IsNoMarks step.0
done_keeps state (Rekeying master vector sealed tag) seen step is =
    changes_to step (changes.Load (items_of (opened state master vector sealed tag))) tt (ap change_of is)
done_keeps state (Activate keys) seen step is = changes_to step (changes.KeyStates keys Active) tt (ap change_of is)
done_keeps state (Deactivate keys) seen step is =
    changes_to step (changes.KeyStates keys Deactivated) tt (ap change_of is)
done_keeps state (Verify key challenge) seen step is =
    some_keep (key_row state key) _ (IsNoMarks step.0)
    (λ row same. changes_to step changes.Nothing tt (ap change_of same)) is
done_keeps state (Destroy keys) seen step is = changes_to step (changes.KeyStates keys Destroyed) tt (ap change_of is)
done_keeps state (Inventory first last) seen step (found, listed, is) =
    changes_to step changes.Nothing tt (ap change_of is)
done_keeps state (Compose master keys) seen step is =
    some_keep (key_row state master) _ (IsNoMarks step.0)
    (λ row same. changes_to step changes.Nothing tt (ap change_of same)) is
done_keeps state (ReadNumber spi) seen step is =
    some_keep (association_row state spi) _ (IsNoMarks step.0)
    (λ row same. changes_to step changes.Nothing tt (ap change_of same)) is
done_keeps state (Create new) seen step is = changes_to step (changes.Create new) tt (ap change_of is)
done_keeps state (Delete spi) seen step is = changes_to step (changes.SaTo spi None) tt (ap change_of is)
done_keeps state (SetWindow spi window) seen step is =
    changes_to step (changes.SetWindow spi window) tt (ap change_of is)
done_keeps state (Rekey spi key number) seen step is =
    changes_to step (changes.Rekey spi key number) tt (ap change_of is)
done_keeps state (Expire spi) seen step is = changes_to step (changes.SaTo spi (Some Unkeyed)) tt (ap change_of is)
done_keeps state (SetNumber spi number) seen step is =
    changes_to step (changes.SetNumber spi number) tt (ap change_of is)
done_keeps state (Start spi) seen step is = changes_to step (changes.SaTo spi (Some Operational)) tt (ap change_of is)
done_keeps state (Stop spi) seen step is = changes_to step (changes.SaTo spi (Some Keyed)) tt (ap change_of is)
done_keeps state (Status spi) seen step is =
    some_keep (association_row state spi) _ (IsNoMarks step.0)
    (λ row same. changes_to step changes.Nothing tt (ap change_of same)) is

step_by : (state : State) (command : Command) (seen : Seen) (step : Change × Reply) (refusal : Option Refusal)
    → MatchOption refusal (IsDone state command seen step) (λ refusal. step ≡ refused refusal) → IsNoMarks step.0
step_by state command seen step None is = done_keeps state command seen step is
step_by state command seen step (Some refusal) is = changes_to step changes.Nothing tt (ap change_of is)

-- no command changes marks, but by a number that is set, which raises them
pub step_keeps : (state : State) (octets : List ℕ) (seen : Seen) (step : Change × Reply)
    → IsStepOf state octets seen step → IsNoMarks step.0
step_keeps state octets seen step (inl (command, spelled, is)) =
    step_by state command seen step (refusal_of state command seen) is
step_keeps state octets seen step (inr (offset, fault, is)) = changes_to step changes.Nothing tt (ap change_of is)

-- ---- a release

release_by : (state : State) (word : ℕ) (held : KeyRow) (b : Bool) (entry : Entry)
    → cond b None (Some (record {
      index = None;
      seen = Word word;
      change =
          Marks held.id (min held.mark word) (released_floor state held);
    })) ≡ Some entry
    → is_release entry ≡ true
release_by state word held true entry is = absurd (none-some entry is)
release_by state word held false entry is = subst (λ (e : Entry). is_release e ≡ true) (same_Some _ entry is) refl

release_at_by : (state : State) (word : ℕ) (o : Option KeyRow) (entry : Entry)
    → option_and_then (release_of state word) o ≡ Some entry
    → is_release entry ≡ true
release_at_by state word None entry is = absurd (none-some entry is)
release_at_by state word (Some held) entry is = release_by state word held (is_released state held word) entry is

pub release_is : (state : State) (place word : ℕ) (entry : Entry) → release_at state place word ≡ Some entry
    → is_release entry ≡ true
release_is state place word entry is = release_at_by state word (slice_get state.keys place) entry is
