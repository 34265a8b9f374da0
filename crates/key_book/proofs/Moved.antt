-- Keys that take a state: what that leaves of the rules, and how it is judged.
use Rattle.std.proofs.Common.{append-nil, ◌≡◌, ◌≢◌, ℕ, ◌+◌, ◌<◌, ◌≤◌, min, Bool, true, false, cond, nat_eq, not, ◌||◌}
use Rattle.std.proofs.Common.{List, [], ◌∷◌, ◌++◌, length, get_or, take, drop, map, Option, Some, None, sym, refl, ap}
use Rattle.std.proofs.Common.{◌∙◌, subst, ⊎_elim, arith}
use Rattle.std.specs.List.{list_any, filter}
use Rattle.std.specs.Option.{option_map, option_map_or, option_or}
use Rattle.std.proofs.lemmas.Bool.{cases_eq, false≢true}
use Rattle.std.proofs.lemmas.List.{length-map, get_or_default, map-append, at_drop_more, take_more}
use Rattle.std.proofs.lemmas.List.Elements.{All-map, filter_more}
use Rattle.std.proofs.lemmas.List.Folds.{list_any-append, map_fixed}
use Rattle.std.proofs.lemmas.List.Quantifiers.{position-Some}
use Rattle.sdls_base.specs.declared.TheConstants.{MOST_KEYS}
use Rattle.sdls_base.specs.declared.states.KeyState.{KeyState}
use Rattle.sdls_base.specs.declared.states.KeyState.TheVariants.{PreActive, Active, Deactivated, Destroyed}
use Rattle.key_book.specs.declared.key_row.KeyRow.{KeyRow}
use Rattle.key_book.specs.declared.refusals.KeyRefusal.{KeyRefusal}
use Rattle.key_book.specs.declared.refusals.KeyRefusal.TheVariants.{WrongState, UnknownKey}
use Rattle.key_book.specs.KeyRow.{HasBytes, IsKeyRow, in_state, bytes_in}
use Rattle.key_book.specs.KeyBook.{AreKeyRows, IsKeyBook, row_of, place_of}
use Rattle.sdls_base.specs.FirstFailing.{fails_if}
use Rattle.key_book.specs.Moves.{is_next, least, lowest_holder, state_refusal, move_refusal, moved, moves_refusal}
use Rattle.sdls_base.proofs.Searches.{find_placed, find_nowhere, find_none, find-map, chosen, left_out, pairs_map}
use Rattle.key_book.proofs.Rows.{same_number, eqb-same, other_identifier}

-- the lowest index

min_swaps : (m n : ℕ) (o : Option ℕ) → min m (option_map_or (min n) o n) ≡ min n (option_map_or (min m) o m)
min_swaps m n None = omega arith
min_swaps m n (Some l) = omega arith

least-push : (ns : List ℕ) (n : ℕ) → least (ns ++ n ∷ []) ≡ Some (option_map_or (min n) (least ns) n)
least-push [] n = refl
least-push (m ∷ ns) n =
    ap (λ o. Some (option_map_or (min m) o m)) (least-push ns n) ∙ ap (λ k. Some k) (min_swaps m n (least ns))

-- one more pair
lowest_holder-more : (pairs : List (ℕ × ℕ)) (i id : ℕ) (pair : ℕ × ℕ) → i < length pairs → pair ≡ get_or pairs i pair
    → lowest_holder (take (i + 1) pairs) id ≡ cond (nat_eq pair.0 id)
    (Some (option_map_or (min pair.1) (lowest_holder (take i pairs) id) pair.1)) (lowest_holder (take i pairs) id)
lowest_holder-more pairs i id pair within read =
    let p : ℕ × ℕ → Bool = λ x. nat_eq x.0 id in
    let front : List (ℕ × ℕ) = filter p (take i pairs) in
    ap (λ (xs : List (ℕ × ℕ)). least (map (λ x. x.1) xs))
    (filter_more p pairs i pair within ∙ ap (λ (x : ℕ × ℕ). front ++ cond (p x) (x ∷ []) []) (sym read))
    ∙ one (nat_eq pair.0 id) front
  where
    one : (b : Bool) (front : List (ℕ × ℕ)) → least (map (λ x. x.1) (front ++ cond b (pair ∷ []) []))
        ≡ cond b (Some (option_map_or (min pair.1) (least (map (λ x. x.1) front)) pair.1))
        (least (map (λ x. x.1) front))
    one true front = ap least (map-append (λ x. x.1) front (pair ∷ [])) ∙ least-push (map (λ x. x.1) front) pair.1
    one false front = ap least (map-append (λ x. x.1) front []) ∙ ap least (append-nil (map (λ x. x.1) front))

pub lowest_holder-takes : (pairs : List (ℕ × ℕ)) (i id : ℕ) (pair : ℕ × ℕ) → i < length pairs
    → pair ≡ get_or pairs i pair → nat_eq pair.0 id ≡ true → lowest_holder (take (i + 1) pairs) id
    ≡ Some (option_map_or (min pair.1) (lowest_holder (take i pairs) id) pair.1)
lowest_holder-takes pairs i id pair within read test =
    lowest_holder-more pairs i id pair within read ∙ chosen (nat_eq pair.0 id)
    (Some (option_map_or (min pair.1) (lowest_holder (take i pairs) id) pair.1)) (lowest_holder (take i pairs) id)
    test

pub lowest_holder-passes : (pairs : List (ℕ × ℕ)) (i id : ℕ) (pair : ℕ × ℕ) → i < length pairs
    → pair ≡ get_or pairs i pair → nat_eq pair.0 id ≡ false → lowest_holder (take (i + 1) pairs) id
    ≡ lowest_holder (take i pairs) id
lowest_holder-passes pairs i id pair within read test =
    lowest_holder-more pairs i id pair within read ∙ left_out (nat_eq pair.0 id)
    (Some (option_map_or (min pair.1) (lowest_holder (take i pairs) id) pair.1)) (lowest_holder (take i pairs) id)
    test

-- keys that took a state, again

twice : (to : KeyState) (bytes : List ℕ) → bytes_in to (bytes_in to bytes) ≡ bytes_in to bytes
twice PreActive bytes = refl
twice Active bytes = refl
twice Deactivated bytes = refl
twice Destroyed bytes = refl

in_state-twice : (row : KeyRow) (to : KeyState) → in_state (in_state row to) to ≡ in_state row to
in_state-twice row to = ap (λ (xs : List ℕ). record row { state = to; bytes = xs }) (twice to row.bytes)

same_either : {X : Type 0} (b : Bool) (x y : X) → x ≡ y → cond b x y ≡ y
same_either true x y e = e
same_either false x y e = refl

-- what a row becomes where the keys of a list take a state
abbrev pub moved_row : List ℕ → KeyState → KeyRow → KeyRow
moved_row ids to row = cond (list_any (λ id. nat_eq id row.id) ids) (in_state row to) row

pub moved_row-in : (ids : List ℕ) (to : KeyState) (row : KeyRow) → list_any (λ id. nat_eq id row.id) ids ≡ true
    → moved_row ids to row ≡ in_state row to
moved_row-in ids to row test = chosen _ (in_state row to) row test

pub moved_row-out : (ids : List ℕ) (to : KeyState) (row : KeyRow) → list_any (λ id. nat_eq id row.id) ids ≡ false
    → moved_row ids to row ≡ row
moved_row-out ids to row test = left_out _ (in_state row to) row test

moved_row-id : (ids : List ℕ) (to : KeyState) (row : KeyRow) → (moved_row ids to row).id ≡ row.id
moved_row-id ids to row = by (list_any (λ id. nat_eq id row.id) ids)
  where
    by : (b : Bool) → (cond b (in_state row to) row).id ≡ row.id
    by true = refl
    by false = refl

moved_row-digest : (ids : List ℕ) (to : KeyState) (row : KeyRow) → (moved_row ids to row).digest ≡ row.digest
moved_row-digest ids to row = by (list_any (λ id. nat_eq id row.id) ids)
  where
    by : (b : Bool) → (cond b (in_state row to) row).digest ≡ row.digest
    by true = refl
    by false = refl

moved_row-moved_row : (done more : List ℕ) (to : KeyState) (row : KeyRow)
    → moved_row more to (moved_row done to row) ≡ moved_row (done ++ more) to row
moved_row-moved_row done more to row =
    by (list_any (λ id. nat_eq id row.id) done)
    ∙ ap (λ b. cond b (in_state row to) row) (sym (list_any-append (λ id. nat_eq id row.id) done more))
  where
    by : (b : Bool) → moved_row more to (cond b (in_state row to) row)
        ≡ cond (b || list_any (λ id. nat_eq id row.id) more) (in_state row to) row
    by true = same_either (list_any (λ id. nat_eq id row.id) more) (in_state (in_state row to) to) (in_state row to)
        (in_state-twice row to)
    by false = refl

map-both : {X : Type 0} (f g h : X → X) (xs : List X) → ((x : X) → g (f x) ≡ h x) → map g (map f xs) ≡ map h xs
map-both f g h [] e = refl
map-both f g h (x ∷ xs) e = ap (λ y. y ∷ map g (map f xs)) (e x) ∙ ap (λ ys. h x ∷ ys) (map-both f g h xs e)

pub moved-moved : (rows : List KeyRow) (done more : List ℕ) (to : KeyState)
    → moved (moved rows done to) more to ≡ moved rows (done ++ more) to
moved-moved rows done more to =
    map-both (moved_row done to) (moved_row more to) (moved_row (done ++ more) to) rows
    (moved_row-moved_row done more to)

pub moved-none : (rows : List KeyRow) (to : KeyState) → moved rows [] to ≡ rows
moved-none rows to = map_fixed (moved_row [] to) rows (λ k d low. refl)

-- judging one key when others have taken the state

row_of-moved : (rows : List KeyRow) (done : List ℕ) (to : KeyState) (id : ℕ)
    → row_of (moved rows done to) id ≡ option_map (moved_row done to) (row_of rows id)
row_of-moved rows done to id =
    find-map (λ (row : KeyRow). nat_eq row.id id) (moved_row done to) rows
    (λ (row : KeyRow). ap (λ n. nat_eq n id) (moved_row-id done to row))

abbrev judged : KeyState → List (ℕ × ℕ) → ℕ → Option KeyRow → Option KeyRefusal
judged to in_use id r = option_map_or (λ (row : KeyRow). state_refusal row.state to (lowest_holder in_use id)) r
    (Some (UnknownKey id))

pub move_refusal-unknown : (rows : List KeyRow) (done : List ℕ) (id : ℕ) (to : KeyState) (in_use : List (ℕ × ℕ))
    → place_of rows id ≡ None → move_refusal (moved rows done to) id to in_use ≡ Some (UnknownKey id)
move_refusal-unknown rows done id to in_use nowhere =
    ap (judged to in_use id) (row_of-moved rows done to id ∙ ap (option_map (moved_row done to))
    (find_nowhere (λ (row : KeyRow). nat_eq row.id id) rows nowhere))

move_refusal-known : (rows : List KeyRow) (done : List ℕ) (id i : ℕ) (to : KeyState) (in_use : List (ℕ × ℕ))
    (row : KeyRow) → place_of rows id ≡ Some i → row ≡ get_or rows i row
    → (move_refusal (moved rows done to) id to in_use ≡ state_refusal (moved_row done to row).state to
    (lowest_holder in_use id)) × (row.id ≡ id)
move_refusal-known rows done id i to in_use row place read =
    let found : row_of rows id ≡ Some row =
    find_placed (λ (row : KeyRow). nat_eq row.id id) rows i row place ∙ ap (λ (r : KeyRow). Some r) (sym read) in (
      ap (judged to in_use id) (row_of-moved rows done to id ∙ ap (option_map (moved_row done to)) found),
      ap (λ (r : KeyRow). r.id) read ∙ same_number _ _ (position-Some _ rows i row place).1,
    )

-- any row
some_row : KeyRow
some_row = record { id = 0; state = PreActive; bytes = []; digest = []; mark = 0; floor = 0 }

pub move_refusal-again : (rows : List KeyRow) (done : List ℕ) (id i : ℕ) (to : KeyState) (in_use : List (ℕ × ℕ))
    → place_of rows id ≡ Some i → list_any (λ other. nat_eq other id) done ≡ true
    → move_refusal (moved rows done to) id to in_use ≡ state_refusal to to (lowest_holder in_use id)
move_refusal-again rows done id i to in_use place again =
    let row : KeyRow = get_or rows i some_row in
    let within : i < length rows = (position-Some (λ (row : KeyRow). nat_eq row.id id) rows i some_row place).0 in
    let read : row ≡ get_or rows i row = get_or_default rows i some_row row within in
    let known = move_refusal-known rows done id i to in_use row place read in
    let test : list_any (λ other. nat_eq other row.id) done ≡ true =
    subst (λ n. list_any (λ other. nat_eq other n) done ≡ true) (sym known.1) again in
    known.0 ∙ ap (λ (r : KeyRow). state_refusal r.state to (lowest_holder in_use id))
    (chosen _ (in_state row to) row test)

pub move_refusal-first : (rows : List KeyRow) (done : List ℕ) (id i : ℕ) (to : KeyState) (in_use : List (ℕ × ℕ))
    (row : KeyRow) → place_of rows id ≡ Some i → row ≡ get_or rows i row
    → list_any (λ other. nat_eq other id) done ≡ false → move_refusal (moved rows done to) id to in_use
    ≡ state_refusal row.state to (lowest_holder in_use id)
move_refusal-first rows done id i to in_use row place read first =
    let known = move_refusal-known rows done id i to in_use row place read in
    let test : list_any (λ other. nat_eq other row.id) done ≡ false =
    subst (λ n. list_any (λ other. nat_eq other n) done ≡ false) (sym known.1) first in
    known.0 ∙ ap (λ (r : KeyRow). state_refusal r.state to (lowest_holder in_use id))
    (left_out _ (in_state row to) row test)

-- one more key of the list

judged_here : (rows : List KeyRow) (ids : List ℕ) (to : KeyState) (in_use : List (ℕ × ℕ)) (i id : ℕ) → i < length ids
    → id ≡ get_or ids i id → moves_refusal rows (drop i ids) to in_use
    ≡ option_or (move_refusal rows id to in_use)
    (moves_refusal (moved rows (id ∷ []) to) (drop (i + 1) ids) to in_use)
judged_here rows ids to in_use i id within read =
    at_drop_more (λ rest. moves_refusal rows rest to in_use) ids i id within
    ∙ ap (λ n. moves_refusal rows (n ∷ drop (i + 1) ids) to in_use) (sym read)

pub judged_fails : (rows : List KeyRow) (ids : List ℕ) (to : KeyState) (in_use : List (ℕ × ℕ)) (i id : ℕ)
    (refusal : KeyRefusal) → i < length ids → id ≡ get_or ids i id
    → move_refusal (moved rows (take i ids) to) id to in_use ≡ Some refusal
    → moves_refusal (moved rows (take i ids) to) (drop i ids) to in_use ≡ Some refusal
judged_fails rows ids to in_use i id refusal within read fails =
    judged_here (moved rows (take i ids) to) ids to in_use i id within read
    ∙ ap (λ r.
    option_or r (moves_refusal (moved (moved rows (take i ids) to) (id ∷ []) to) (drop (i + 1) ids) to in_use))
    fails

pub judged_more : (rows : List KeyRow) (ids : List ℕ) (to : KeyState) (in_use : List (ℕ × ℕ)) (i id : ℕ)
    → i < length ids → id ≡ get_or ids i id → move_refusal (moved rows (take i ids) to) id to in_use ≡ None
    → moves_refusal (moved rows (take i ids) to) (drop i ids) to in_use
    ≡ moves_refusal (moved rows (take (i + 1) ids) to) (drop (i + 1) ids) to in_use
judged_more rows ids to in_use i id within read passes =
    let more : take i ids ++ id ∷ [] ≡ take (i + 1) ids =
    ap (λ n. take i ids ++ n ∷ []) read ∙ sym (take_more ids i id within) in
    judged_here (moved rows (take i ids) to) ids to in_use i id within read
    ∙ ap (λ r.
    option_or r (moves_refusal (moved (moved rows (take i ids) to) (id ∷ []) to) (drop (i + 1) ids) to in_use))
    passes
    ∙ ap (λ (rs : List KeyRow). moves_refusal rs (drop (i + 1) ids) to in_use)
    (moved-moved rows (take i ids) (id ∷ []) to ∙ ap (λ done. moved rows done to) more)

-- the rules, when keys took a state

has_bytes : (from to : KeyState) (bytes digest : List ℕ) → is_next from to ≡ true → HasBytes from bytes digest
    → HasBytes to (bytes_in to bytes) digest
has_bytes PreActive Active bytes digest next h = h
has_bytes Active Deactivated bytes digest next h = h
has_bytes Deactivated Destroyed bytes digest next h = refl
has_bytes _ _ bytes digest next h = absurd (false≢true next)

IsKeyRow-in_state : (row : KeyRow) (to : KeyState) → IsKeyRow row → is_next row.state to ≡ true
    → IsKeyRow (in_state row to)
IsKeyRow-in_state row to ok next =
    record {
      bytes = has_bytes row.state to row.bytes row.digest next ok.bytes;
      mark_from_one = ok.mark_from_one;
      mark_to_end = ok.mark_to_end;
      floor_below_end = ok.floor_below_end;
    }

next_if_free : (b : Bool) (from : KeyState) (o : Option KeyRefusal)
    → option_or (fails_if (not b) (WrongState from)) o ≡ None → b ≡ true
next_if_free true from o h = refl
next_if_free false from o h = absurd (cc)

-- a key has one row
unique_row : (rows : List KeyRow) (id k : ℕ) (d : KeyRow) (o : Option ℕ) → AreKeyRows rows → k < length rows
    → (get_or rows k d).id ≡ id → place_of rows id ≡ o → row_of rows id ≡ Some (get_or rows k d)
unique_row rows id k d None ok low named place =
    absurd (false≢true
    (sym (find_none (λ (row : KeyRow). nat_eq row.id id) rows
    (find_nowhere (λ (row : KeyRow). nat_eq row.id id) rows place) k d low) ∙ eqb-same _ _ named))
unique_row rows id k d (Some i) ok low named place =
    let found = position-Some (λ (row : KeyRow). nat_eq row.id id) rows i d place in
    let same : (get_or rows i d).id ≡ id = same_number _ _ found.1 in
    find_placed (λ (row : KeyRow). nat_eq row.id id) rows i d place
    ∙ ⊎_elim (λ (here : k ≡ i). ap (λ n. Some (get_or rows n d)) (sym here))
    (λ (elsewhere : k ≢ i). absurd (other_identifier rows i k d ok found.0 low elsewhere (named ∙ sym same)))
    (cases_eq k i)

next_here : (rows : List KeyRow) (id k : ℕ) (d : KeyRow) (to : KeyState) (in_use : List (ℕ × ℕ)) → AreKeyRows rows
    → k < length rows → (get_or rows k d).id ≡ id → move_refusal rows id to in_use ≡ None
    → is_next (get_or rows k d).state to ≡ true
next_here rows id k d to in_use ok low named free =
    next_if_free _ (get_or rows k d).state _
    (ap (judged to in_use id) (sym (unique_row rows id k d (place_of rows id) ok low named refl)) ∙ free)

or_false : (b : Bool) → (b || false) ≡ b
or_false true = refl
or_false false = refl

one_moved : (row : KeyRow) (id : ℕ) (to : KeyState) (b : Bool) → nat_eq id row.id ≡ b → IsKeyRow row
    → (row.id ≡ id → is_next row.state to ≡ true) → IsKeyRow (moved_row (id ∷ []) to row)
one_moved row id to true e ok next =
    subst IsKeyRow (sym (chosen _ (in_state row to) row (or_false _ ∙ e)))
    (IsKeyRow-in_state row to ok (next (sym (same_number id row.id e))))
one_moved row id to false e ok next = subst IsKeyRow (sym (left_out _ (in_state row to) row (or_false _ ∙ e))) ok

AreKeyRows-moved_one : (rows : List KeyRow) (id : ℕ) (to : KeyState) (in_use : List (ℕ × ℕ)) → AreKeyRows rows
    → move_refusal rows id to in_use ≡ None → AreKeyRows (moved rows (id ∷ []) to)
AreKeyRows-moved_one rows id to in_use ok free =
    record {
      each = All-map IsKeyRow (moved_row (id ∷ []) to) rows
          (λ k d low. one_moved (get_or rows k d) id to (nat_eq id (get_or rows k d).id) refl (ok.each k d low)
          (λ named. next_here rows id k d to in_use ok low named free));
      identifiers = pairs_map (λ (a b : KeyRow). a.id ≢ b.id) (moved_row (id ∷ []) to) rows
          (λ a b apart same. apart (sym (moved_row-id (id ∷ []) to a) ∙ same ∙ moved_row-id (id ∷ []) to b))
          ok.identifiers;
      digests = pairs_map (λ (a b : KeyRow). a.digest ≢ b.digest) (moved_row (id ∷ []) to) rows
          (λ a b apart same. apart (sym (moved_row-digest (id ∷ []) to a) ∙ same ∙ moved_row-digest (id ∷ []) to b))
          ok.digests;
    }

free_both : (r s : Option KeyRefusal) → option_or r s ≡ None → (r ≡ None) × (s ≡ None)
free_both None s h = (refl, h)
free_both (Some r) s h = absurd (cc)

AreKeyRows-moved : (rows : List KeyRow) (ids : List ℕ) (to : KeyState) (in_use : List (ℕ × ℕ)) → AreKeyRows rows
    → moves_refusal rows ids to in_use ≡ None → AreKeyRows (moved rows ids to)
AreKeyRows-moved rows [] to in_use ok free = subst AreKeyRows (sym (moved-none rows to)) ok
AreKeyRows-moved rows (id ∷ ids) to in_use ok free =
    let parts = free_both (move_refusal rows id to in_use) (moves_refusal (moved rows (id ∷ []) to) ids to in_use)
    free in
    let first : AreKeyRows (moved rows (id ∷ []) to) = AreKeyRows-moved_one rows id to in_use ok parts.0 in
    subst AreKeyRows (moved-moved rows (id ∷ []) ids to)
    (AreKeyRows-moved (moved rows (id ∷ []) to) ids to in_use first parts.1)

pub IsKeyBook-moved : (rows : List KeyRow) (ids : List ℕ) (to : KeyState) (in_use : List (ℕ × ℕ)) → IsKeyBook rows
    → moves_refusal rows ids to in_use ≡ None → IsKeyBook (moved rows ids to)
IsKeyBook-moved rows ids to in_use ok free =
    record {
      most = subst (λ n. n ≤ MOST_KEYS) (sym (length-map rows (moved_row ids to))) ok.most;
      rules = AreKeyRows-moved rows ids to in_use ok.rules free;
    }
