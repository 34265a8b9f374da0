-- Along a legal history.
use Rattle.std.proofs.Common.{◌≡◌, ℕ, zero, suc, ◌+◌, ◌-◌, ◌<◌, ◌≤◌, min, List, [], ◌∷◌, length, Some, inl, inr, ⊎_elim}
use Rattle.std.proofs.Common.{refl, sym, ap, subst, arith}
use Rattle.std.specs.List.{slice_get}
use Rattle.std.proofs.lemmas.Bool.{cases_lt}
use Rattle.std.proofs.lemmas.Option.{none-some, same_Some, slice_get_within}
use Rattle.sdls_base.specs.declared.entry.Change.TheVariants.{Marks}
use Rattle.sdls_base.specs.declared.entry.Entry.{Entry}
use Rattle.replay_window.specs.declared.TheConstants.{MOST_BACK}
use Rattle.unit_plan.specs.PlanLines.{PlanLines}
use Rattle.unit_plan.specs.PlanRules.{IsPlan}
use Rattle.unit_state.specs.declared.state.State.{State}
use Rattle.unit_state.specs.State.{KeepsRules}
use Rattle.unit_state.specs.Applied.{applied}
use Rattle.unit_state.specs.Allows.{Allows}
use Rattle.unit_state.specs.History.{after_first}
use Rattle.unit_state.specs.Restart.{restarted}
use Rattle.unit_state.proofs.RulesKept.{rules_kept}
use Rattle.record_io.specs.declared.item_cursor.Record.{Record}
use Rattle.record_io.specs.Places.{Place, records_of}
use Rattle.run_promise.specs.Numbers.{mark_of, floor_of, released_floor, kept_floor}
use Rattle.run_promise.specs.History.{IsLegal, IsRelease, AcceptsAt, NearWord, TurnIn, LegalRun, IsLegalHistory}
use Rattle.law_history.specs.Entries.{IsEntry}
use Rattle.law_history.specs.Taken.{IsTaken}
use Rattle.law_history.specs.Laws.{IsBelowReleases, NumbersRise}
use Rattle.law_history.proofs.Legal.{legal_allowed, release_is_allowed}
use Rattle.law_history.proofs.Marks.{mark_from_one, numbers_up, legal_up, release_entry, release_marks}
use Rattle.law_history.proofs.Accepting.{acceptance_takes, not_fresh, near_fresh, entry_takes, kept_up, taken_restarted}

-- ---- one entry after another

pub step_first : (start : State) (entries : List Entry) (p : ℕ) (entry : Entry) → slice_get entries p ≡ Some entry
    → after_first start entries (suc p) ≡ applied (after_first start entries p) entry.change
step_first start [] p entry is = absurd (none-some entry is)
step_first start (e ∷ es) zero entry is = ap (λ (e : Entry). applied start e.change) (same_Some e entry is)
step_first start (e ∷ es) (suc p) entry is = step_first (applied start e.change) es p entry is

entry_at : (entries : List Entry) (p : ℕ) → p < length entries → (entry : Entry) × (slice_get entries p ≡ Some entry)
entry_at [] p low = absurd (omega arith)
entry_at (e ∷ es) zero low = (e, refl)
entry_at (e ∷ es) (suc p) low = entry_at es p (omega arith)

-- what holds after p entries, and is kept by each further one, holds after n more
along : (P : State → Type 0) (start : State) (entries : List Entry) (p n : ℕ) → p + n ≤ length entries
    → P (after_first start entries p)
    → ((k : ℕ) (entry : Entry) → p ≤ k → k < p + n → slice_get entries k ≡ Some entry → P (after_first start entries k)
    → P (applied (after_first start entries k) entry.change))
    → P (after_first start entries (p + n))
along P start entries p zero within here step =
    let same : p ≡ p + 0 = omega arith in
    subst (λ (q : ℕ). P (after_first start entries q)) same here
along P start entries p (suc n) within here step =
    let (entry, there) = entry_at entries (p + n) (omega arith) in
    let before : P (after_first start entries (p + n)) =
    along P start entries p n (omega arith) here (λ k entry least below is. step k entry least (omega arith) is) in
    let same : suc (p + n) ≡ p + suc n = omega arith in
    subst (λ (q : ℕ). P (after_first start entries q)) same
    (subst P (sym (step_first start entries (p + n) entry there))
    (step (p + n) entry (omega arith) (omega arith) there before))

pub along_to : (P : State → Type 0) (start : State) (entries : List Entry) (p q : ℕ) → p ≤ q → q ≤ length entries
    → P (after_first start entries p)
    → ((k : ℕ) (entry : Entry) → p ≤ k → k < q → slice_get entries k ≡ Some entry → P (after_first start entries k)
    → P (applied (after_first start entries k) entry.change))
    → P (after_first start entries q)
along_to P start entries p q low within here step =
    let same : p + (q - p) ≡ q = omega arith in
    subst (λ (m : ℕ). P (after_first start entries m)) same
    (along P start entries p (q - p) (omega arith) here (λ k entry least below is. step k entry least (omega arith) is))

-- ---- a legal history

pub record OfRun (plan : PlanLines) (start : State) (records : List Record) (in_turn : ℕ → ℕ → Type 0)
    (entries : List Entry) : Type 0 where
  pub ok : IsPlan plan
  pub rules : KeepsRules start
  pub run : LegalRun plan start records in_turn entries

pub is_entry : (plan : PlanLines) (start : State) (records : List Record) (in_turn : ℕ → ℕ → Type 0)
    (entries : List Entry)
    → LegalRun plan start records in_turn entries → (k : ℕ) (entry : Entry) → slice_get entries k ≡ Some entry
    → IsEntry (NearWord start entries records) plan (after_first start entries k) records entry
is_entry plan start records in_turn entries run k entry there =
    ⊎_elim (λ (low : k < run.ends). inl (run.each k entry low there))
    (λ (high : run.ends ≤ k). inr (run.releases k entry high there))
    (cases_lt k run.ends)

word_from_one : (start : State) (entries : List Entry) (records : List Record) (state : State) (entry : Entry)
    → KeepsRules start
    → (release : IsRelease (NearWord start entries records) state entry) → 1 ≤ release.word
word_from_one start entries records state entry rules release =
    let least : mark_of start release.held.id ≤ release.word = release.is_near.least in
    let some : 1 ≤ mark_of start release.held.id = mark_from_one start release.held.id rules in
    omega arith

entry_allowed : (plan : PlanLines) (start : State) (records : List Record) (entries : List Entry) (state : State)
    (entry : Entry) → IsPlan plan
    → KeepsRules start → KeepsRules state → IsEntry (NearWord start entries records) plan state records entry
    → Allows state entry.change
entry_allowed plan start records entries state entry ok first rules (inl legal) =
    legal_allowed (NearWord start entries records) plan state records entry ok rules legal
entry_allowed plan start records entries state entry ok first rules (inr release) =
    release_is_allowed (NearWord start entries records) state entry release rules
    (word_from_one start entries records state entry first release)

-- each state keeps the rules
pub rules_along : (plan : PlanLines) (start : State) (records : List Record) (in_turn : ℕ → ℕ → Type 0)
    (entries : List Entry)
    → OfRun plan start records in_turn entries → (p : ℕ) → p ≤ length entries → KeepsRules (after_first start entries p)
rules_along plan start records in_turn entries of p within =
    along_to KeepsRules start entries zero p (omega arith) within of.rules
    (λ k entry least below there rules. rules_kept (after_first start entries k) entry.change rules
    (entry_allowed plan start records entries (after_first start entries k) entry of.ok of.rules rules
    (is_entry plan start records in_turn entries of.run k entry there)))

pub allowed_along : (plan : PlanLines) (start : State) (records : List Record) (in_turn : ℕ → ℕ → Type 0)
    (entries : List Entry)
    → OfRun plan start records in_turn entries → (p : ℕ) (entry : Entry) → slice_get entries p ≡ Some entry
    → Allows (after_first start entries p) entry.change
allowed_along plan start records in_turn entries of p entry there =
    let below : p < length entries = slice_get_within entries p entry there in
    entry_allowed plan start records entries (after_first start entries p) entry of.ok of.rules
    (rules_along plan start records in_turn entries of p (omega arith))
    (is_entry plan start records in_turn entries of.run p entry there)

-- ---- floors, marks, numbers accepted

-- the floor that a release would leave never falls, through the releases neither
pub kept_along : (plan : PlanLines) (start : State) (records : List Record) (in_turn : ℕ → ℕ → Type 0)
    (entries : List Entry)
    → OfRun plan start records in_turn entries → (p q key : ℕ) → p ≤ q → q ≤ length entries
    → kept_floor (after_first start entries p) key ≤ kept_floor (after_first start entries q) key
kept_along plan start records in_turn entries of p q key low within =
    along_to (λ (s : State). kept_floor (after_first start entries p) key ≤ kept_floor s key) start entries p q low
    within (omega arith)
    (λ k entry least below there so_far.
    let up = kept_up (NearWord start entries records) plan (after_first start entries k) records entry key of.ok
    (rules_along plan start records in_turn entries of k (omega arith))
    (is_entry plan start records in_turn entries of.run k entry there) in
    omega arith)

pub taken_along : (plan : PlanLines) (start : State) (records : List Record) (in_turn : ℕ → ℕ → Type 0)
    (entries : List Entry)
    → OfRun plan start records in_turn entries → (p q key number : ℕ) → p ≤ q → q ≤ length entries
    → IsTaken (after_first start entries p) key number → IsTaken (after_first start entries q) key number
taken_along plan start records in_turn entries of p q key number low within taken =
    along_to (λ (s : State). IsTaken s key number) start entries p q low within taken
    (λ k entry least below there so_far.
    entry_takes (NearWord start entries records) plan (after_first start entries k) records entry key number of.ok
    (rules_along plan start records in_turn entries of k (omega arith))
    (is_entry plan start records in_turn entries of.run k entry there) so_far)

legal_marks : (plan : PlanLines) (start : State) (records : List Record) (in_turn : ℕ → ℕ → Type 0)
    (entries : List Entry)
    → OfRun plan start records in_turn entries → (k key : ℕ) (entry : Entry) → slice_get entries k ≡ Some entry
    → IsLegal (NearWord start entries records) plan (after_first start entries k) records entry
    → NumbersRise (after_first start entries k) (applied (after_first start entries k) entry.change) key
legal_marks plan start records in_turn entries of k key entry there legal =
    let below : k < length entries = slice_get_within entries k entry there in
    let state : State = after_first start entries k in
    let rules : KeepsRules state = rules_along plan start records in_turn entries of k (omega arith) in
    numbers_up state (applied state entry.change) key
    (rules_kept state entry.change rules
    (legal_allowed (NearWord start entries records) plan state records entry of.ok rules legal))
    (legal_up (NearWord start entries records) plan state records entry rules legal)

-- before the releases no mark falls
pub marks_along : (plan : PlanLines) (start : State) (records : List Record) (in_turn : ℕ → ℕ → Type 0)
    (entries : List Entry)
    → (of : OfRun plan start records in_turn entries) → (p q key : ℕ) → p ≤ q → q ≤ of.run.ends
    → mark_of (after_first start entries p) key ≤ mark_of (after_first start entries q) key
marks_along plan start records in_turn entries of p q key low within =
    let ends : of.run.ends ≤ length entries = of.run.within in
    along_to (λ (s : State). mark_of (after_first start entries p) key ≤ mark_of s key) start entries p q low
    (omega arith) (omega arith)
    (λ k entry least below there so_far.
    let up : mark_of (after_first start entries k) key ≤ mark_of (applied (after_first start entries k) entry.change)
    key =
    (legal_marks plan start records in_turn entries of k key entry there
    (of.run.each k entry (omega arith) there)).mark in
    omega arith)

below_step : (plan : PlanLines) (start : State) (records : List Record) (in_turn : ℕ → ℕ → Type 0)
    (entries : List Entry)
    → (of : OfRun plan start records in_turn entries) → (k key number : ℕ) (entry : Entry)
    → slice_get entries k ≡ Some entry
    → IsBelowReleases entries of.run.ends key number → number < mark_of (after_first start entries k) key
    → number < mark_of (applied (after_first start entries k) entry.change) key
below_step plan start records in_turn entries of k key number entry there under below =
    let state : State = after_first start entries k in
    let within : k < length entries = slice_get_within entries k entry there in
    ⊎_elim
    (λ (low : k < of.run.ends).
    let up : mark_of state key ≤ mark_of (applied state entry.change) key =
    (legal_marks plan start records in_turn entries of k key entry there (of.run.each k entry low there)).mark in
    omega arith)
    (λ (high : of.run.ends ≤ k).
    let release = of.run.releases k entry high there in
    let rules : KeepsRules (applied state entry.change) =
    subst KeepsRules (step_first start entries k entry there)
    (rules_along plan start records in_turn entries of (suc k) (omega arith)) in
    let made = release_entry state release.word release.held entry release.releases in
    let mark : ℕ = min release.held.mark release.word in
    let floor : ℕ = released_floor state release.held in
    release_marks (NearWord start entries records) state entry release rules key number below
    (λ same. under k entry release.word mark floor high there made.seen_is
    (subst (λ (id : ℕ). entry.change ≡ Marks id mark floor) same made.change_is)))
    (cases_lt k of.run.ends)

-- a number below a mark stays below it, where no release of the key saw a word that is not above it
pub below_along : (plan : PlanLines) (start : State) (records : List Record) (in_turn : ℕ → ℕ → Type 0)
    (entries : List Entry)
    → (of : OfRun plan start records in_turn entries) → (p q key number : ℕ) → p ≤ q → q ≤ length entries
    → IsBelowReleases entries of.run.ends key number → number < mark_of (after_first start entries p) key
    → number < mark_of (after_first start entries q) key
below_along plan start records in_turn entries of p q key number low within under below =
    along_to (λ (s : State). number < mark_of s key) start entries p q low within below
    (λ k entry least less there so_far. below_step plan start records in_turn entries of k key number entry there under
    so_far)

-- what is accepted at a place is taken from then on
pub accepted_taken : (plan : PlanLines) (start : State) (records : List Record) (in_turn : ℕ → ℕ → Type 0)
    (entries : List Entry)
    → OfRun plan start records in_turn entries → (p q key number : ℕ) → AcceptsAt entries p key number → p < q
    → q ≤ length entries
    → IsTaken (after_first start entries q) key number
accepted_taken plan start records in_turn entries of p q key number at low within =
    let state : State = after_first start entries p in
    taken_along plan start records in_turn entries of (suc p) q key number (omega arith) within
    (subst (λ (s : State). IsTaken s key number) (sym (step_first start entries p at.entry at.there))
    (acceptance_takes state at.entry.change at.spi key number at.floor
    (rules_along plan start records in_turn entries of p (omega arith))
    (allowed_along plan start records in_turn entries of p at.entry at.there) at.change_is))

-- what is taken is not accepted
pub not_taken_at : (plan : PlanLines) (start : State) (records : List Record) (in_turn : ℕ → ℕ → Type 0)
    (entries : List Entry)
    → OfRun plan start records in_turn entries → (p key number : ℕ) → AcceptsAt entries p key number
    → IsTaken (after_first start entries p) key number → ⊥
not_taken_at plan start records in_turn entries of p key number at taken =
    not_fresh (after_first start entries p) at.spi key number
    (rules_along plan start records in_turn entries of p
    (let within : p < length entries = slice_get_within entries p at.entry at.there in omega arith)) taken
    (subst (Allows (after_first start entries p)) at.change_is
    (allowed_along plan start records in_turn entries of p at.entry at.there)).row

-- no number is accepted at two places under one key
pub accepted_twice : (plan : PlanLines) (start : State) (records : List Record) (in_turn : ℕ → ℕ → Type 0)
    (entries : List Entry)
    → OfRun plan start records in_turn entries → (p q key number : ℕ) → p < q → AcceptsAt entries p key number
    → AcceptsAt entries q key number → ⊥
accepted_twice plan start records in_turn entries of p q key number less one other =
    let within : q < length entries = slice_get_within entries q other.entry other.there in
    not_taken_at plan start records in_turn entries of q key number other
    (accepted_taken plan start records in_turn entries of p q key number one less (omega arith))

-- what is accepted below a number that was accepted before is less than 64 below
pub accepted_late : (plan : PlanLines) (start : State) (records : List Record) (in_turn : ℕ → ℕ → Type 0)
    (entries : List Entry)
    → OfRun plan start records in_turn entries → (p q key high number : ℕ) → p < q → AcceptsAt entries p key high
    → AcceptsAt entries q key number
    → high - number < MOST_BACK
accepted_late plan start records in_turn entries of p q key high number less one other =
    let within : q < length entries = slice_get_within entries q other.entry other.there in
    near_fresh (after_first start entries q) other.spi key high number
    (rules_along plan start records in_turn entries of q (omega arith))
    (accepted_taken plan start records in_turn entries of p q key high one less (omega arith))
    (subst (Allows (after_first start entries q)) other.change_is
    (allowed_along plan start records in_turn entries of q other.entry other.there)).row

-- after a restart each number that is accepted is above the key's floor
pub accepted_above : (plan : PlanLines) (start : State) (records : List Record) (in_turn : ℕ → ℕ → Type 0)
    (entries : List Entry)
    → OfRun plan start records in_turn entries → restarted start ≡ start → (p key number : ℕ)
    → AcceptsAt entries p key number
    → floor_of start key < number
accepted_above plan start records in_turn entries of same p key number at =
    let within : p < length entries = slice_get_within entries p at.entry at.there in
    ⊎_elim (λ (above : floor_of start key < number). above)
    (λ (low : number ≤ floor_of start key). absurd (not_taken_at plan start records in_turn entries of p key number at
    (taken_along plan start records in_turn entries of zero p key number (omega arith) (omega arith)
    (taken_restarted start key number same low))))
    (cases_lt (floor_of start key) number)

-- ---- the same of the run of some places

abbrev pub of_places : (plan : PlanLines) (start : State) (places : List Place) (entries : List Entry)
    → IsLegalHistory plan start places entries
    → OfRun plan start (records_of places) (TurnIn places) entries
of_places plan start places entries history = record { ok = history.plan_is; rules = history.rules; run = history.run }
