-- Keys, and the octets that they were loaded with.
use Rattle.std.proofs.Common.{◌≡◌, ◌≢◌, ℕ, ◌<◌, ◌-◌, max, Bool, true, false, cond, nat_eq, List, [], ◌∷◌, ◌++◌, length}
use Rattle.std.proofs.Common.{get_or, map, Option, Some, None, IsSomeAnd, inl, inr, ⊎_elim, ◌⊎◌, refl, sym, ap, ◌∙◌}
use Rattle.std.proofs.Common.{subst, arith}
use Rattle.std.specs.Option.{option_map, option_or}
use Rattle.std.proofs.lemmas.Bool.{cases_eq, cases_lt}
use Rattle.std.proofs.lemmas.List.{get_or_default}
use Rattle.std.proofs.lemmas.List.Folds.{find-append}
use Rattle.std.proofs.lemmas.List.Quantifiers.{position-Some}
use Rattle.sha2.specs.Sha256.{sha256}
use Rattle.sdls_base.specs.declared.entry.Change.{Change}
use Rattle.sdls_base.specs.declared.entry.Change.TheVariants.{Marks, Load, KeyStates, Create, Rekey, SaTo, SetNumber}
use Rattle.sdls_base.specs.declared.entry.Change.TheVariants.{SetWindow, Accepted, Nothing}
use Rattle.sdls_base.specs.declared.entry.Entry.{Entry}
use Rattle.sdls_base.specs.declared.states.Direction.{Direction}
use Rattle.sdls_base.specs.declared.states.Direction.TheVariants.{Send, Receive}
use Rattle.sdls_base.specs.declared.states.KeyState.{KeyState}
use Rattle.sdls_base.specs.declared.states.KeyState.TheVariants.{PreActive, Active, Deactivated, Destroyed}
use Rattle.key_book.specs.declared.key_row.KeyRow.{KeyRow}
use Rattle.key_book.specs.KeyRow.{HasBytes, new_row, in_state}
use Rattle.key_book.specs.KeyBook.{AreKeyRows, row_of, changed}
use Rattle.key_book.proofs.Moved.{moved_row}
use Rattle.unit_state.specs.declared.state.State.{State}
use Rattle.unit_state.specs.State.{KeepsRules, key_row}
use Rattle.unit_state.specs.Applied.{applied, numbered, direction_of, key_held}
use Rattle.unit_state.specs.History.{after_all}
use Rattle.unit_state.proofs.Found.{held_rules}
use Rattle.unit_state.proofs.Held.{row_of_changed}
use Rattle.unit_state.proofs.KeyRules.{stands, row_of_moved}
use Rattle.unit_state.proofs.RulesKept.{there}
use Rattle.law_history.specs.Taken.{IsLoadedWith}
use Rattle.law_history.proofs.Marks.{row_named}

-- ---- digests stay

-- the key's row has this digest
abbrev HasDigest : List KeyRow → ℕ → List ℕ → Type 0
HasDigest rows key digest = IsSomeAnd (row_of rows key) (λ held. held.digest ≡ digest)

digest_if : (f : KeyRow → KeyRow) (b : Bool) (row : KeyRow) → (f row).digest ≡ row.digest → (cond b (f row) row).digest
    ≡ row.digest
digest_if f true row same = same
digest_if f false row same = refl

mapped : (o p : Option KeyRow) (f : KeyRow → KeyRow) (digest : List ℕ) → p ≡ option_map f o
    → ((row : KeyRow) → (f row).digest ≡ row.digest)
    → IsSomeAnd o (λ held. held.digest ≡ digest) → IsSomeAnd p (λ held. held.digest ≡ digest)
mapped None p f digest e same has = absurd has
mapped (Some row) p f digest e same has =
    subst (λ (o : Option KeyRow). IsSomeAnd o (λ held. held.digest ≡ digest)) (sym e) (same row ∙ has)

first : (o p more : Option KeyRow) (digest : List ℕ) → p ≡ option_or o more
    → IsSomeAnd o (λ held. held.digest ≡ digest) → IsSomeAnd p (λ held. held.digest ≡ digest)
first None p more digest e has = absurd has
first (Some row) p more digest e has =
    subst (λ (o : Option KeyRow). IsSomeAnd o (λ held. held.digest ≡ digest)) (sym e) has

digest_changed : (rows : List KeyRow) (id key : ℕ) (f : KeyRow → KeyRow) (digest : List ℕ)
    → ((row : KeyRow) → (f row).id ≡ row.id)
    → ((row : KeyRow) → (f row).digest ≡ row.digest) → HasDigest rows key digest
    → HasDigest (changed rows id f) key digest
digest_changed rows id key f digest same_id same has =
    mapped (row_of rows key) (row_of (changed rows id f) key) (λ (row : KeyRow). cond (nat_eq row.id id) (f row) row)
    digest
    (row_of_changed rows id key f same_id) (λ row. digest_if f (nat_eq row.id id) row (same row)) has

digest_numbered : (rows : List KeyRow) (key : ℕ) (direction : Option Direction) (own : Option ℕ) (number : ℕ)
    (digest : List ℕ)
    → HasDigest rows key digest → HasDigest (numbered rows direction own number) key digest
digest_numbered rows key (Some Send) (Some own) number digest has =
    digest_changed rows own key (λ (row : KeyRow). record row { mark = max row.mark number }) digest (λ row. refl)
    (λ row. refl) has
digest_numbered rows key (Some Receive) (Some own) number digest has =
    digest_changed rows own key (λ (row : KeyRow). record row { floor = max row.floor (number - 1) }) digest
    (λ row. refl) (λ row. refl) has
digest_numbered rows key None own number digest has = has
digest_numbered rows key (Some direction) None number digest has = has

moved_digest : (ids : List ℕ) (to : KeyState) (row : KeyRow) → (moved_row ids to row).digest ≡ row.digest
moved_digest ids to row = digest_if (λ (r : KeyRow). in_state r to) _ row refl

digest_kept : (state : State) (change : Change) (key : ℕ) (digest : List ℕ) → HasDigest state.keys key digest
    → HasDigest (applied state change).keys key digest
digest_kept state (Marks own mark floor) key digest has =
    digest_changed state.keys own key (λ (row : KeyRow). record row { mark = mark; floor = floor }) digest (λ row. refl)
    (λ row. refl) has
digest_kept state (Load items) key digest has =
    first (row_of state.keys key) (row_of (state.keys ++ map new_row items) key) (row_of (map new_row items) key) digest
    (find-append _ state.keys (map new_row items)) has
digest_kept state (KeyStates ids to) key digest has =
    mapped (row_of state.keys key) (row_of (applied state (KeyStates ids to)).keys key) (moved_row ids to) digest
    (row_of_moved state.keys ids to key)
    (moved_digest ids to) has
digest_kept state (Create new) key digest has = has
digest_kept state (Rekey spi own number) key digest has =
    digest_numbered state.keys key (direction_of state spi) (Some own) number digest has
digest_kept state (SaTo spi to) key digest has = has
digest_kept state (SetNumber spi number) key digest has =
    digest_numbered state.keys key (direction_of state spi) (key_held state spi) number digest has
digest_kept state (SetWindow spi window) key digest has = has
digest_kept state (Accepted spi own number floor) key digest has =
    digest_changed state.keys own key (λ (row : KeyRow). record row { floor = max row.floor floor }) digest
    (λ row. refl) (λ row. refl) has
digest_kept state Nothing key digest has = has

pub loaded_step : (state : State) (change : Change) (key : ℕ) (octets : List ℕ) → IsLoadedWith state key octets
    → IsLoadedWith (applied state change) key octets
loaded_step state change key octets is = digest_kept state change key (sha256 octets) is

-- what a key was loaded with stays so through every history, and through a restart
pub loaded_along : (start : State) (entries : List Entry) (key : ℕ) (octets : List ℕ) → IsLoadedWith start key octets
    → IsLoadedWith (after_all start entries) key octets
loaded_along start [] key octets is = is
loaded_along start (entry ∷ entries) key octets is =
    loaded_along (applied start entry.change) entries key octets (digest_kept start entry.change key (sha256 octets) is)

-- ---- octets that are there

has_digest : (state : KeyState) (bytes digest : List ℕ) → HasBytes state bytes digest → bytes ≢ []
    → digest ≡ sha256 bytes
has_digest Destroyed bytes digest is some = absurd (some is)
has_digest PreActive bytes digest is some = is.1
has_digest Active bytes digest is some = is.1
has_digest Deactivated bytes digest is some = is.1

-- a key that has octets was loaded with them
pub octets_loaded : (state : State) (key : ℕ) (held : KeyRow) → KeepsRules state → key_row state key ≡ Some held
    → held.bytes ≢ []
    → IsLoadedWith state key held.bytes
octets_loaded state key held rules is some =
    subst (λ (o : Option KeyRow). IsSomeAnd o (λ row. row.digest ≡ sha256 held.bytes)) (sym is)
    (has_digest held.state held.bytes held.digest (held_rules state key held rules is).bytes some)

-- ---- two keys have two digests

same_place : (rows : List KeyRow) (i k : ℕ) (d : KeyRow) → AreKeyRows rows → i < length rows → k < length rows
    → (get_or rows i d).digest ≡ (get_or rows k d).digest → k ≡ i
same_place rows i k d ok at_i at_k same =
    ⊎_elim (λ (here : k ≡ i). here)
    (λ (apart : k ≢ i). ⊎_elim
    (λ (less : k < i). absurd (ok.digests k i d less at_i (sym same)))
    (λ (more : i < k). absurd (ok.digests i k d more at_k same))
    (let sides : (k < i) ⊎ (i < k) = ⊎_elim (λ x. inl x) (λ x. inr (omega arith)) (cases_lt k i) in sides))
    (cases_eq k i)

-- no two keys of a state were loaded with the same octets
pub one_key : (state : State) (one other : ℕ) (octets : List ℕ) → KeepsRules state → IsLoadedWith state one octets
    → IsLoadedWith state other octets
    → one ≡ other
one_key state one other octets rules is_one is_other =
    let rows : List KeyRow = state.keys in
    let a = there (key_row state one) _ is_one in
    let b = there (key_row state other) _ is_other in
    let at_a = stands (λ (row : KeyRow). nat_eq row.id one) rows a.row a.is in
    let at_b = stands (λ (row : KeyRow). nat_eq row.id other) rows b.row b.is in
    let low_a : at_a.index < length rows =
    (position-Some (λ (row : KeyRow). nat_eq row.id one) rows at_a.index a.row at_a.place).0 in
    let low_b : at_b.index < length rows =
    (position-Some (λ (row : KeyRow). nat_eq row.id other) rows at_b.index b.row at_b.place).0 in
    let here : get_or rows at_b.index a.row ≡ b.row =
    get_or_default rows at_b.index a.row b.row low_b ∙ sym at_b.read in
    let digests : (get_or rows at_a.index a.row).digest ≡ (get_or rows at_b.index a.row).digest =
    ap (λ (r : KeyRow). r.digest) (sym at_a.read) ∙ a.holds ∙ sym b.holds ∙ ap (λ (r : KeyRow). r.digest) (sym here) in
    let same = same_place rows at_a.index at_b.index a.row rules.keys.rules low_a low_b digests in
    let row : a.row ≡ b.row = at_a.read ∙ ap (λ (n : ℕ). get_or rows n a.row) (sym same) ∙ here in
    sym (row_named state one a.row a.is) ∙ ap (λ (r : KeyRow). r.id) row ∙ row_named state other b.row b.is
