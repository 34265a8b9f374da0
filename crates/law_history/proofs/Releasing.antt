-- The releases of a book's keys, in loading order, are releases, each in the state before it.
use Rattle.std.proofs.Common.{◌≡◌, ◌≢◌, ℕ, zero, suc, ◌+◌, ◌<◌, ◌≤◌, min, Bool, true, false, cond, nat_eq, List, []}
use Rattle.std.proofs.Common.{◌∷◌, ◌++◌, length, map, Option, Some, None, refl, sym, ap, ◌∙◌, subst, arith}
use Rattle.std.specs.List.{slice_get}
use Rattle.std.specs.Option.{option_map, option_map_or, option_and_then}
use Rattle.std.proofs.lemmas.Option.{none-some, same_Some, slice_get-map, slice_get_within, get_or_from_slice_get}
use Rattle.sdls_base.specs.declared.entry.Change.{Change}
use Rattle.sdls_base.specs.declared.entry.Entry.{Entry}
use Rattle.key_book.specs.declared.key_row.KeyRow.{KeyRow}
use Rattle.key_book.specs.KeyBook.{AreKeyRows, row_of, changed}
use Rattle.unit_state.specs.declared.state.State.{State}
use Rattle.unit_state.specs.State.{KeepsRules}
use Rattle.unit_state.specs.Applied.{applied}
use Rattle.unit_state.specs.History.{after_first}
use Rattle.unit_state.proofs.KeyRules.{equal_number, number_test}
use Rattle.unit_state.proofs.RulesKept.{rules_kept}
use Rattle.run_promise.specs.Numbers.{released_floor, release_of, release_at, releases}
use Rattle.run_promise.specs.History.{IsRelease}
use Rattle.law_history.specs.Entries.{AreNear}
use Rattle.law_history.proofs.Legal.{release_is_allowed}
use Rattle.law_history.proofs.Marks.{release_entry}
use Rattle.law_history.proofs.GoingOn.{get_front, first_stays}

-- ---- the row at a place is the one of its identifier

earlier_row : (rows : List KeyRow) (place : ℕ) (held : KeyRow)
    → ((i k : ℕ) (a b : KeyRow) → i < k → slice_get rows i ≡ Some a → slice_get rows k ≡ Some b
    → a.id ≢ b.id) → slice_get rows place ≡ Some held → row_of rows held.id ≡ Some held
earlier_row [] place held apart is = absurd (none-some held is)
earlier_row (row ∷ rows) zero held apart is =
    let same : row ≡ held = same_Some row held is in
    ap (λ (b : Bool). cond b (Some row) (row_of rows held.id))
    (number_test row.id held.id (ap (λ (r : KeyRow). r.id) same))
    ∙ ap (λ (r : KeyRow). Some r) same
earlier_row (row ∷ rows) (suc place) held apart is =
    by (nat_eq row.id held.id) refl
    (earlier_row rows place held (λ i k a b less one other. apart (suc i) (suc k) a b (omega arith) one other) is)
  where
    by : (b : Bool) → nat_eq row.id held.id ≡ b → row_of rows held.id ≡ Some held
        → cond b (Some row) (row_of rows held.id) ≡ Some held
    by true test rest = absurd (apart zero (suc place) row held (omega arith) refl is
        (equal_number row.id held.id test))
    by false test rest = rest

pub row_at : (rows : List KeyRow) (place : ℕ) (held : KeyRow) → AreKeyRows rows → slice_get rows place ≡ Some held
    → row_of rows held.id ≡ Some held
row_at rows place held ok is =
    earlier_row rows place held
    (λ i k a b less one other same.
    ok.identifiers i k a less (slice_get_within rows k b other)
    (ap (λ (r : KeyRow). r.id) (get_or_from_slice_get rows i a a one) ∙ same ∙ ap (λ (r : KeyRow). r.id)
    (sym (get_or_from_slice_get rows k b a other))))
    is

-- ---- words that are near stay so

id_if : (b : Bool) (mark floor : ℕ) (row : KeyRow) → (cond b (record row { mark = mark; floor = floor }) row).id
    ≡ row.id
id_if true mark floor row = refl
id_if false mark floor row = refl

near_row : (near : ℕ → ℕ → Type 0) (keys : List KeyRow) (place own mark floor word : ℕ) (held : KeyRow)
    (o : Option KeyRow) → slice_get keys place ≡ o
    → option_map (λ (row : KeyRow). cond (nat_eq row.id own) (record row { mark = mark; floor = floor }) row) o
    ≡ Some held
    → ((row : KeyRow) → slice_get keys place ≡ Some row → near row.id word) → near held.id word
near_row near keys place own mark floor word held None is made all = absurd (none-some held made)
near_row near keys place own mark floor word held (Some row) is made all =
    let same : row.id ≡ held.id = sym (id_if (nat_eq row.id own) mark floor row) ∙ ap (λ (r : KeyRow). r.id)
    (same_Some _ held made) in
    subst (λ (id : ℕ). near id word) same (all row is)

near_stays : (near : ℕ → ℕ → Type 0) (keys : List KeyRow) (own mark floor from word : ℕ) (words : List ℕ)
    → AreNear near keys from (word ∷ words)
    → AreNear near (changed keys own (λ row. record row { mark = mark; floor = floor })) (from + 1) words
near_stays near keys own mark floor from word words all i other held there at =
    let place : ℕ = from + suc i in
    let same : from + 1 + i ≡ place = omega arith in
    let v : KeyRow → KeyRow = λ row. cond (nat_eq row.id own) (record row { mark = mark; floor = floor }) row in
    near_row near keys place own mark floor other held (slice_get keys place) refl
    (sym (slice_get-map v keys place) ∙ ap (λ (k : ℕ). slice_get (map v keys) k) (sym same) ∙ at)
    (λ row is. all (suc i) other row there is)

near_next : (near : ℕ → ℕ → Type 0) (keys : List KeyRow) (from word : ℕ) (words : List ℕ)
    → AreNear near keys from (word ∷ words)
    → AreNear near keys (from + 1) words
near_next near keys from word words all i other held there at =
    let same : from + 1 + i ≡ from + suc i = omega arith in
    all (suc i) other held there (ap (λ (k : ℕ). slice_get keys k) (sym same) ∙ at)

-- ---- the releases

-- the release at a place
pub record ReleasesAt (state : State) (place word : ℕ) (entry : Entry) : Type 0 where
  pub held : KeyRow
  pub at : slice_get state.keys place ≡ Some held
  pub releases : release_of state word held ≡ Some entry

releases_by : (state : State) (place word : ℕ) (entry : Entry) (o : Option KeyRow) → slice_get state.keys place ≡ o
    → option_and_then (release_of state word) o ≡ Some entry → ReleasesAt state place word entry
releases_by state place word entry None at is = absurd (none-some entry is)
releases_by state place word entry (Some held) at is = record { held = held; at = at; releases = is }

pub releases_at : (state : State) (place word : ℕ) (entry : Entry) → release_at state place word ≡ Some entry
    → ReleasesAt state place word entry
releases_at state place word entry is = releases_by state place word entry (slice_get state.keys place) refl is

abbrev is_release : (near : ℕ → ℕ → Type 0) (state : State) (place word : ℕ) (words : List ℕ) (entry : Entry)
    → KeepsRules state
    → AreNear near state.keys place (word ∷ words) → release_at state place word ≡ Some entry
    → IsRelease near state entry
is_release near state place word words entry rules all is =
    let at = releases_at state place word entry is in
    let same : place ≡ place + 0 = omega arith in
    record {
      held = at.held;
      word = word;
      there = row_at state.keys place at.held rules.keys.rules at.at;
      is_near = all zero word at.held refl (ap (λ (k : ℕ). slice_get state.keys k) (sym same) ∙ at.at);
      releases = at.releases;
    }

-- what holds of each entry of a list, in the state before it
abbrev EachReleases : (ℕ → ℕ → Type 0) → State → List Entry → Type 0
EachReleases near state entries = (p : ℕ) (entry : Entry) → slice_get entries p ≡ Some entry
    → IsRelease near (after_first state entries p) entry

each_more : (near : ℕ → ℕ → Type 0) (state : State) (entry : Entry) (entries : List Entry) → IsRelease near state entry
    → EachReleases near (applied state entry.change) entries → EachReleases near state (entry ∷ entries)
each_more near state entry entries first rest zero other is =
    subst (IsRelease near state) (same_Some entry other is) first
each_more near state entry entries first rest (suc p) other is = rest p other is

releases_step : (near : ℕ → ℕ → Type 0) (state : State) (place word : ℕ) (words : List ℕ) (o : Option Entry)
    → release_at state place word ≡ o → KeepsRules state
    → AreNear near state.keys place (word ∷ words) → EachReleases near state (releases state (place + 1) words)
    → ((entry : Entry) → release_at state place word ≡ Some entry
    → EachReleases near (applied state entry.change) (releases (applied state entry.change) (place + 1) words))
    → EachReleases near state (option_map_or (λ entry. entry ∷ releases (applied state entry.change) (place + 1) words)
    o (releases state (place + 1) words))
releases_step near state place word words None is rules all without behind = without
releases_step near state place word words (Some entry) is rules all without behind =
    each_more near state entry (releases (applied state entry.change) (place + 1) words)
    (is_release near state place word words entry rules all is) (behind entry is)

near_behind : (near : ℕ → ℕ → Type 0) (state : State) (place word : ℕ) (words : List ℕ) (entry : Entry)
    → AreNear near state.keys place (word ∷ words)
    → release_at state place word ≡ Some entry → AreNear near (applied state entry.change).keys (place + 1) words
near_behind near state place word words entry all is =
    let at = releases_at state place word entry is in
    let made = release_entry state word at.held entry at.releases in
    subst (λ (c : Change). AreNear near (applied state c).keys (place + 1) words) (sym made.change_is)
    (near_stays near state.keys at.held.id (min at.held.mark word) (released_floor state at.held) place word words all)

rules_behind : (near : ℕ → ℕ → Type 0) (state : State) (place word : ℕ) (words : List ℕ) (entry : Entry)
    → KeepsRules state → 1 ≤ word
    → AreNear near state.keys place (word ∷ words) → release_at state place word ≡ Some entry
    → KeepsRules (applied state entry.change)
rules_behind near state place word words entry rules some all is =
    rules_kept state entry.change rules
    (release_is_allowed near state entry (is_release near state place word words entry rules all is) rules some)

releases_each : (near : ℕ → ℕ → Type 0) (state : State) (place : ℕ) (words : List ℕ) → KeepsRules state
    → ((i word : ℕ) → slice_get words i ≡ Some word → 1 ≤ word) → AreNear near state.keys place words
    → EachReleases near state (releases state place words)
releases_each near state place [] rules some all = λ p entry is. absurd (none-some entry is)
releases_each near state place (word ∷ words) rules some all =
    releases_step near state place word words (release_at state place word) refl rules all
    (releases_each near state (place + 1) words rules (λ i other is. some (suc i) other is)
    (near_next near state.keys place word words all))
    (λ entry is. releases_each near (applied state entry.change) (place + 1) words
    (rules_behind near state place word words entry rules (some zero word refl) all is)
    (λ i other is. some (suc i) other is)
    (near_behind near state place word words entry all is))

-- the first of the releases
pub made_release : (near : ℕ → ℕ → Type 0) (state : State) (words : List ℕ) (made rest : List Entry) → KeepsRules state
    → ((i word : ℕ) → slice_get words i ≡ Some word → 1 ≤ word) → AreNear near state.keys 0 words
    → made ++ rest ≡ releases state 0 words
    → (p : ℕ) (entry : Entry) → slice_get made p ≡ Some entry → IsRelease near (after_first state made p) entry
made_release near state words made rest rules some all are p entry is =
    let low : p < length made = slice_get_within made p entry is in
    let low_too : p ≤ length made = omega arith in
    subst (λ (s : State). IsRelease near s entry)
    (ap (λ (entries : List Entry). after_first state entries p) (sym are) ∙ first_stays state made rest p low_too)
    (releases_each near state 0 words rules some all p entry
    (ap (λ (entries : List Entry). slice_get entries p) (sym are) ∙ get_front made rest p low ∙ is))
