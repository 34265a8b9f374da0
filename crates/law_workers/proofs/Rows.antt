-- The rows of keys: a row is of one key, and its mark is that key's.
use Rattle.std.proofs.Common.{◌≡◌, ℕ, zero, suc, ◌<◌, ◌≤◌, nat_eq, List, [], ◌∷◌, length, map, get_or, Some, None}
use Rattle.std.proofs.Common.{Option, Bool, refl, sym, ◌∙◌, ap, subst, inl, inr, arith}
use Rattle.std.specs.List.{position_or_len, slice_get, slice_index_or}
use Rattle.std.specs.Option.{option_map_or}
use Rattle.std.proofs.lemmas.Bool.{cases_lt}
use Rattle.std.proofs.lemmas.Bool.Decides.{nat_tests}
use Rattle.std.proofs.lemmas.List.{length-map, get_or-map}
use Rattle.std.proofs.lemmas.List.Folds.{find_at}
use Rattle.std.proofs.lemmas.List.Sums.{position_or_len_is}
use Rattle.std.proofs.lemmas.List.Quantifiers.{position-Some}
use Rattle.std.proofs.lemmas.Option.{slice_get-get_or, slice_get_past}
use Rattle.sdls_base.specs.declared.entry.Entry.{Entry}
use Rattle.sdls_base.specs.declared.states.KeyState.TheVariants.{PreActive}
use Rattle.key_book.specs.declared.key_row.KeyRow.{KeyRow}
use Rattle.key_book.specs.KeyBook.{AreKeyRows, place_of, row_of}
use Rattle.key_book.proofs.Rows.{same_number, other_identifier}
use Rattle.unit_state.specs.declared.state.State.{State}
use Rattle.unit_state.specs.State.{KeepsRules}
use Rattle.unit_state.specs.History.{after_all}
use Rattle.run_promise.specs.Numbers.{mark_of, mark_at}
use Rattle.law_workers.proofs.Histories.{row_kept}

no_row : KeyRow
no_row = record { id = 0; state = PreActive; bytes = []; digest = []; mark = 0; floor = 0 }

is_key : ℕ → KeyRow → Bool
is_key key row = nat_eq row.id key

-- a row has its key
pub row_named : (keys : List KeyRow) (key row : ℕ) (d : KeyRow) → place_of keys key ≡ Some row
    → (row < length keys) × ((get_or keys row d).id ≡ key)
row_named keys key row d place =
    let at = position-Some (λ (held : KeyRow). nat_eq held.id key) keys row d place in
    (at.0, same_number (get_or keys row d).id key at.1)

-- and is of one key
pub row_one : (keys : List KeyRow) (a b row : ℕ) → place_of keys a ≡ Some row → place_of keys b ≡ Some row → a ≡ b
row_one keys a b row p q =
    let x = row_named keys a row (record { id = 0; state = PreActive; bytes = []; digest = []; mark = 0; floor = 0 })
    p in
    let y = row_named keys b row (record { id = 0; state = PreActive; bytes = []; digest = []; mark = 0; floor = 0 })
    q in
    sym x.1 ∙ y.1

-- the key of a row has that place
pub row_placed : (keys : List KeyRow) (row : ℕ) (d : KeyRow) → AreKeyRows keys → row < length keys
    → place_of keys (get_or keys row d).id ≡ Some row
row_placed keys row d rules low =
    let p : KeyRow → Bool = λ held. nat_eq held.id (get_or keys row d).id in
    let at : position_or_len (λ (held : KeyRow). nat_eq held.id (get_or keys row d).id) keys ≡ row =
    position_or_len_is (λ (held : KeyRow). nat_eq held.id (get_or keys row d).id) keys row d (omega arith)
    (λ k less. let off = other_identifier keys row k d rules low (omega arith) (λ e. omega arith) in
    grind (arith, nat_tests))
    (λ _. grind (arith, nat_tests)) in
    grind (arith, nat_tests)

place_is : (keys : List KeyRow) (key row : ℕ) → place_of keys key ≡ Some row
    → position_or_len (λ (held : KeyRow). nat_eq held.id key) keys ≡ row
place_is keys key row place = grind (arith, nat_tests)

-- the mark at the place of a key is the key's
pub mark_placed : (state : State) (key row : ℕ) → place_of state.keys key ≡ Some row
    → mark_at state row ≡ mark_of state key
mark_placed state key row place =
    let d : KeyRow = record { id = 0; state = PreActive; bytes = []; digest = []; mark = 0; floor = 0 } in
    let named =
    row_named state.keys key row (record {
      id = 0;
      state = PreActive;
      bytes = [];
      digest = [];
      mark = 0;
      floor = 0;
    }) place in
    let found : row_of state.keys key
    ≡ Some (get_or state.keys row (record {
      id = 0;
      state = PreActive;
      bytes = [];
      digest = [];
      mark = 0;
      floor = 0;
    })) =
    find_at (λ (held : KeyRow). nat_eq held.id key) state.keys
    ∙ (ap (slice_get state.keys) (place_is state.keys key row place)
    ∙ slice_get-get_or state.keys row (record {
      id = 0;
      state = PreActive;
      bytes = [];
      digest = [];
      mark = 0;
      floor = 0;
    }) named.0) in
    get_or-map (λ (held : KeyRow). held.mark) state.keys row
    (record { id = 0; state = PreActive; bytes = []; digest = []; mark = 0; floor = 0 }) 1 named.0
    ∙ sym (ap (λ (o : Option KeyRow). option_map_or (λ (held : KeyRow). held.mark) o 1) found)

-- A key that a later state has at a row has there, at the start, its own mark; where the start lacks the key, no other
-- key has
-- the row, and its mark is 1.
pub mark_known : (start : State) (entries : List Entry) (key row : ℕ) → KeepsRules start
    → place_of (after_all start entries).keys key ≡ Some row
    → mark_at start row ≡ mark_of start key
mark_known start entries key row rules place = elim (cases_lt row (length start.keys)) [
  | inl low ↦
      let d : KeyRow = record { id = 0; state = PreActive; bytes = []; digest = []; mark = 0; floor = 0 } in
      let own : place_of start.keys
      (get_or start.keys row (record {
        id = 0;
        state = PreActive;
        bytes = [];
        digest = [];
        mark = 0;
        floor = 0;
      })).id ≡ Some row =
      row_placed start.keys row (record { id = 0; state = PreActive; bytes = []; digest = []; mark = 0; floor = 0 })
      rules.keys.rules low in
      let same : (get_or start.keys row (record {
        id = 0;
        state = PreActive;
        bytes = [];
        digest = [];
        mark = 0;
        floor = 0;
      })).id ≡ key =
      row_one (after_all start entries).keys _ key row (row_kept start entries _ row own) place in
      mark_placed start key row (subst (λ (id : ℕ). place_of start.keys id ≡ Some row) same own)
  | inr high ↦
      let here : mark_at start row ≡ 1 =
      past (map (λ (held : KeyRow). held.mark) start.keys) row (let n =
      length-map start.keys (λ (held : KeyRow). held.mark) in omega arith) in
      here ∙ sym (lacking high (position_or_len (λ (held : KeyRow). nat_eq held.id key) start.keys) refl)
]
  where
    past : (xs : List ℕ) (i : ℕ) → length xs ≤ i → slice_index_or xs i 1 ≡ 1
    past [] i h = refl
    past (x ∷ xs) zero h = absurd (omega arith)
    past (x ∷ xs) (suc i) h = past xs i (omega arith)

    lacking : length start.keys ≤ row → (n : ℕ) → position_or_len (λ (held : KeyRow). nat_eq held.id key) start.keys ≡ n
        → mark_of start key ≡ 1
    lacking high n is = elim (cases_lt n (length start.keys)) [
      | inl low ↦
          let at : place_of start.keys key ≡ Some n = grind (arith, nat_tests) in
          let there : Some n ≡ Some row = sym (row_kept start entries key n at) ∙ place in
          absurd (let m : n ≡ row = (let t = there in cc) in omega arith)
      | inr out ↦
          let none : row_of start.keys key ≡ None =
          find_at (λ (held : KeyRow). nat_eq held.id key) start.keys
          ∙ (ap (slice_get start.keys) is ∙ slice_get_past start.keys n out) in
          ap (λ (o : Option KeyRow). option_map_or (λ (held : KeyRow). held.mark) o 1) none
    ]
