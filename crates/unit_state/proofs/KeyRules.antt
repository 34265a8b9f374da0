-- What changes leave of the rules of keys, and of the keys that associations hold.
use Rattle.std.proofs.Common.{◌≡◌, ℕ, zero, suc, ◌+◌, ◌<◌, ◌≤◌, max, Bool, true, false, cond, ◌||◌, nat_eq, nat_lt}
use Rattle.std.proofs.Common.{List, [], ◌∷◌, ◌++◌, length, get_or, map, Option, Some, None, is_some, sym, refl, ap, ◌∙◌}
use Rattle.std.proofs.Common.{subst, append_assoc, append-nil, set, arith}
use Rattle.std.specs.List.{find, position, All, list_any}
use Rattle.std.specs.Option.{option_map, option_map_or}
use Rattle.std.proofs.lemmas.Bool.{false≢true}
use Rattle.std.proofs.lemmas.Bool.Decides.{nat_tests}
use Rattle.std.proofs.lemmas.List.{length-map, length-append}
use Rattle.std.proofs.lemmas.Option.{same_Some}
use Rattle.sdls_base.specs.Bounds.{IsKeyLength}
use Rattle.sdls_base.specs.FirstFailing.{fails_if}
use Rattle.sdls_base.proofs.Searches.{find-map, find_placed, find_nowhere}
use Rattle.sdls_base.specs.KeyId.{end_of}
use Rattle.sdls_base.specs.declared.TheConstants.{MOST_KEYS}
use Rattle.sdls_base.specs.declared.key_id.KeyItem.{KeyItem}
use Rattle.sdls_base.specs.declared.states.KeyState.{KeyState}
use Rattle.sdls_base.specs.declared.states.KeyState.TheVariants.{PreActive, Active, Deactivated, Destroyed}
use Rattle.key_book.specs.declared.key_row.KeyRow.{KeyRow}
use Rattle.key_book.specs.declared.refusals.KeyRefusal.TheVariants.{UnknownKey, BookFull}
use Rattle.key_book.specs.KeyRow.{new_row, in_state}
use Rattle.key_book.specs.KeyBook.{AreKeyRows, IsKeyBook, row_of, place_of, changed}
use Rattle.key_book.specs.KeyRefusal.{items_refusal, load_refusal}
use Rattle.key_book.specs.Moves.{lowest_holder, state_refusal, move_refusal, moves_refusal, moved}
use Rattle.key_book.proofs.Rows.{AreKeyRows-push, set-changed, IsKeyBook-raise_mark, IsKeyBook-raise_floor}
use Rattle.key_book.proofs.Rows.{IsKeyBook-set_marks}
use Rattle.key_book.proofs.Moved.{moved_row}
use Rattle.sa_book.specs.declared.sa_book.SaRow.{SaRow}
use Rattle.sa_book.specs.SaBook.{in_use}
use Rattle.unit_state.proofs.Found.{found_passes}
use Rattle.unit_state.proofs.Moves.{or_none, is_held, holder_found}

pub equal_number : (a b : ℕ) → nat_eq a b ≡ true → a ≡ b
equal_number a b h = grind (arith, nat_tests)

pub number_test : (a b : ℕ) → a ≡ b → nat_eq a b ≡ true
number_test a b h = grind (arith, nat_tests)

-- a row that is found stands at a place
pub record Stands {X : Type 0} (p : X → Bool) (xs : List X) (x : X) : Type 0 where
  pub index : ℕ
  pub place : position p xs ≡ Some index
  pub read : x ≡ get_or xs index x

stands_at : {X : Type 0} (p : X → Bool) (xs : List X) (x : X) (o : Option ℕ) → position p xs ≡ o → find p xs ≡ Some x
    → Stands p xs x
stands_at p xs x None e found = absurd (cc (find_nowhere p xs e, found))
stands_at p xs x (Some i) e found =
    record { index = i; place = e; read = same_Some _ _ (sym found ∙ find_placed p xs i x e) }

pub stands : {X : Type 0} (p : X → Bool) (xs : List X) (x : X) → find p xs ≡ Some x → Stands p xs x
stands p xs x found = stands_at p xs x (position p xs) refl found

-- one key changed

pub key_rules_changed : (keys : List KeyRow) (id : ℕ) (f : KeyRow → KeyRow) (row : KeyRow) → IsKeyBook keys
    → row_of keys id ≡ Some row
    → ((i : ℕ) → place_of keys id ≡ Some i → row ≡ get_or keys i row → IsKeyBook (set keys i (f row)))
    → IsKeyBook (changed keys id f)
key_rules_changed keys id f row ok there kept =
    let at = stands (λ (row : KeyRow). nat_eq row.id id) keys row there in
    subst IsKeyBook (set-changed keys id at.index f row ok.rules at.place at.read) (kept at.index at.place at.read)

pub rules_raise_mark : (keys : List KeyRow) (id mark : ℕ) (row : KeyRow) → IsKeyBook keys → row_of keys id ≡ Some row
    → mark ≤ end_of id → IsKeyBook (changed keys id (λ row. record row { mark = max row.mark mark }))
rules_raise_mark keys id mark row ok there below =
    key_rules_changed keys id (λ row. record row { mark = max row.mark mark }) row ok there
    (λ i place read. IsKeyBook-raise_mark keys id i mark row ok place read below)

pub rules_raise_floor : (keys : List KeyRow) (id floor : ℕ) (row : KeyRow) → IsKeyBook keys → row_of keys id ≡ Some row
    → floor < end_of id → IsKeyBook (changed keys id (λ row. record row { floor = max row.floor floor }))
rules_raise_floor keys id floor row ok there below =
    key_rules_changed keys id (λ row. record row { floor = max row.floor floor }) row ok there
    (λ i place read. IsKeyBook-raise_floor keys id i floor row ok place read below)

pub rules_marks : (keys : List KeyRow) (id mark floor : ℕ) (row : KeyRow) → IsKeyBook keys → row_of keys id ≡ Some row
    → 1 ≤ mark → mark ≤ end_of id → floor < end_of id
    → IsKeyBook (changed keys id (λ row. record row { mark = mark; floor = floor }))
rules_marks keys id mark floor row ok there one most below =
    key_rules_changed keys id (λ row. record row { mark = mark; floor = floor }) row ok there
    (λ i place read. IsKeyBook-set_marks keys id i mark floor row ok place read one most below)

-- keys loaded

rows_loaded : (keys : List KeyRow) (items : List KeyItem) → AreKeyRows keys
    → All (λ item. IsKeyLength (length item.bytes)) items → items_refusal keys items ≡ None
    → AreKeyRows (keys ++ map new_row items)
rows_loaded keys [] ok long free = subst AreKeyRows (sym (append-nil keys)) ok
rows_loaded keys (item ∷ items) ok long free =
    let parts = or_none _ _ free in
    let here = AreKeyRows-push keys item ok (long zero item (omega arith)) parts.0 in
    subst AreKeyRows (append_assoc keys (new_row item ∷ []) (map new_row items))
    (rows_loaded (keys ++ new_row item ∷ []) items here (λ k d low. long (suc k) d (omega arith)) parts.1)

not_full : (most n : ℕ) → fails_if (nat_lt most n) BookFull ≡ None → n ≤ most
not_full most n free = by (nat_lt most n) refl free
  where
    by : (b : Bool) → nat_lt most n ≡ b → fails_if b BookFull ≡ None → n ≤ most
    by true e free = absurd (cc)
    by false e free = grind (arith, nat_tests)

pub rules_loaded : (keys : List KeyRow) (items : List KeyItem) → IsKeyBook keys
    → All (λ item. IsKeyLength (length item.bytes)) items → load_refusal keys items ≡ None
    → IsKeyBook (keys ++ map new_row items)
rules_loaded keys items ok long free =
    let parts = or_none _ _ free in
    let room : length keys + length items ≤ MOST_KEYS = not_full MOST_KEYS (length keys + length items) parts.1 in
    let count : length (keys ++ map new_row items) ≡ length keys + length items =
    length-append keys (map new_row items) ∙ ap (λ n. length keys + n) (length-map items new_row) in
    record {
      most = subst (λ n. n ≤ MOST_KEYS) (sym count) room;
      rules = rows_loaded keys items ok.rules long parts.0;
    }

-- a key that an association holds takes no state

moved_id : (ids : List ℕ) (to : KeyState) (row : KeyRow) → (moved_row ids to row).id ≡ row.id
moved_id ids to row = by (list_any (λ id. nat_eq id row.id) ids)
  where
    by : (b : Bool) → (cond b (in_state row to) row).id ≡ row.id
    by true = refl
    by false = refl

pub row_of_moved : (keys : List KeyRow) (ids : List ℕ) (to : KeyState) (key : ℕ)
    → row_of (moved keys ids to) key ≡ option_map (moved_row ids to) (row_of keys key)
row_of_moved keys ids to key =
    find-map (λ (row : KeyRow). nat_eq row.id key) (moved_row ids to) keys
    (λ row. ap (λ n. nat_eq n key) (moved_id ids to row))

not_named : (id key : ℕ) (held : KeyRow) (to : KeyState) → nat_eq id key ≡ false → held.id ≡ key
    → moved_row (id ∷ []) to held ≡ held
not_named id key held to other same =
    ap (λ b. cond (b || false) (in_state held to) held) (ap (nat_eq id) same ∙ other)

means_by : (keys : List KeyRow) (id : ℕ) (ids : List ℕ) (to : KeyState) (U : List (ℕ × ℕ)) (key : ℕ) (held : KeyRow)
    (b : Bool) → nat_eq id key ≡ b → row_of keys key ≡ Some held → held.id ≡ key → move_refusal keys id to U ≡ None
    → (b || list_any (λ id. nat_eq id key) ids) ≡ true
    → (row_of (moved keys (id ∷ []) to) key ≡ Some held → list_any (λ id. nat_eq id key) ids ≡ true
    → state_refusal held.state to (lowest_holder U key) ≡ None) → state_refusal held.state to (lowest_holder U key)
    ≡ None
means_by keys id ids to U key held true e there same free named rest =
    let judged : move_refusal keys key to U ≡ None =
    subst (λ n. move_refusal keys n to U ≡ None) (equal_number id key e) free in
    sym (ap (λ (o : Option KeyRow). option_map_or (λ (row : KeyRow). state_refusal row.state to (lowest_holder U key)) o
    (Some (UnknownKey key))) there) ∙ judged
means_by keys id ids to U key held false e there same free named rest =
    rest
    (row_of_moved keys (id ∷ []) to key ∙ ap (option_map (moved_row (id ∷ []) to)) there
    ∙ ap (λ (row : KeyRow). Some row) (not_named id key held to e same))
    named

moved_means : (keys : List KeyRow) (ids : List ℕ) (to : KeyState) (U : List (ℕ × ℕ)) (key : ℕ) (held : KeyRow)
    → moves_refusal keys ids to U ≡ None → row_of keys key ≡ Some held → list_any (λ id. nat_eq id key) ids ≡ true
    → state_refusal held.state to (lowest_holder U key) ≡ None
moved_means keys [] to U key held free there named = absurd (false≢true named)
moved_means keys (id ∷ ids) to U key held free there named =
    let parts = or_none _ _ free in
    means_by keys id ids to U key held (nat_eq id key) refl there (equal_number _ _ (found_passes _ keys held there))
    parts.0 named
    (λ there named. moved_means (moved keys (id ∷ []) to) ids to U key held parts.1 there named)

active_rests : (to : KeyState) (holder : Option ℕ) → state_refusal Active to holder ≡ None → holder ≡ None
active_rests Deactivated None free = refl
active_rests Deactivated (Some spi) free = absurd (cc)
active_rests PreActive holder free = absurd (cc)
active_rests Active holder free = absurd (cc)
active_rests Destroyed holder free = absurd (cc)

-- a key that is held and active is not among those that take a state
pub not_moved : (keys : List KeyRow) (ids : List ℕ) (to : KeyState) (associations : List SaRow) (key : ℕ)
    (held : KeyRow) (b : Bool) → list_any (λ id. nat_eq id key) ids ≡ b
    → moves_refusal keys ids to (in_use associations) ≡ None → row_of keys key ≡ Some held → held.state ≡ Active
    → is_held associations key ≡ true → b ≡ false
not_moved keys ids to associations key held false e free there active held_by = refl
not_moved keys ids to associations key held true e free there active held_by =
    let none : lowest_holder (in_use associations) key ≡ None =
    active_rests to _ (subst (λ state. state_refusal state to (lowest_holder (in_use associations) key) ≡ None)
    active (moved_means keys ids to (in_use associations) key held free there e)) in
    absurd (false≢true (sym (ap is_some none) ∙ holder_found associations key ∙ held_by))
