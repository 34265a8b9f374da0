-- What the changes leave of the rules of the rows.
use Rattle.std.proofs.Common.{◌≡◌, ◌≢◌, ℕ, ◌+◌, ◌<◌, ◌≤◌, max, Bool, true, false, cond, nat_eq, List, [], ◌∷◌, ◌++◌}
use Rattle.std.proofs.Common.{length, get_or, set, take, drop, map, Option, Some, None, IsSome, is_some, sym, refl, ap}
use Rattle.std.proofs.Common.{◌∙◌, subst, inl, inr, ⊎_elim, ◌⊎◌, append_assoc, append-nil, length-append, nat_lt, lit≤}
use Rattle.std.proofs.Common.{◌^◌, arith, rules}
use Rattle.std.specs.List.{All}
use Rattle.std.specs.Option.{option_map, option_or}
use Rattle.std.specs.Str.{bytes_eq}
use Rattle.std.proofs.lemmas.Bool.{cases_eq, cases_lt, false≢true}
use Rattle.std.proofs.lemmas.Bool.Decides.{nat_tests}
use Rattle.std.proofs.lemmas.List.{length-take, get_or-take, map_more, length-map, get_or-map, get_or_default}
use Rattle.std.proofs.lemmas.List.{at_drop_more, length_push, get_or-set_same, get_or-set_other, same_lists, length-set}
use Rattle.std.proofs.lemmas.List.Elements.{All-set, All-push, All-head, All-tail}
use Rattle.std.proofs.lemmas.List.Quantifiers.{position-Some, all_pairs_push}
use Rattle.std.proofs.lemmas.Slice.Eq.{bytes_eq-Decides}
use Rattle.sha2.specs.Sha256.{sha256}
use Rattle.sdls_base.specs.KeyId.{end_of}
use Rattle.sdls_base.specs.declared.TheConstants.{MOST_KEYS}
use Rattle.sdls_base.specs.declared.key_id.KeyItem.{KeyItem}
use Rattle.key_book.specs.declared.key_row.KeyRow.{KeyRow}
use Rattle.sdls_base.specs.Bounds.{IsKeyLength}
use Rattle.sdls_base.specs.FirstFailing.{fails_if}
use Rattle.key_book.specs.KeyRow.{IsKeyRow, new_row}
use Rattle.key_book.specs.KeyBook.{AreKeyRows, IsKeyBook, MayFollow, row_of, place_of, changed}
use Rattle.key_book.specs.KeyRefusal.{key_refusal, items_refusal, load_refusal, row_with, place_with}
use Rattle.sdls_base.specs.KeyId.{class_of, end_of_class}
use Rattle.sdls_base.specs.declared.key_id.KeyClass.{KeyClass}
use Rattle.sdls_base.specs.declared.key_id.KeyClass.TheVariants.{Master, Gcm, Cmac}
use Rattle.key_book.specs.declared.refusals.KeyRefusal.{KeyRefusal}
use Rattle.key_book.specs.declared.refusals.KeyRefusal.TheVariants.{AlreadyLoaded, DuplicateKey, BookFull}
use Rattle.sdls_base.proofs.Searches.{find_placed, find_nowhere, find_none, is_some-find, chosen, left_out, pairs_set}

pub same_number : (a b : ℕ) → nat_eq a b ≡ true → a ≡ b
same_number a b h = grind (arith, nat_tests)

other_number : (a b : ℕ) → a ≢ b → nat_eq a b ≡ false
other_number a b h = grind (arith, nat_tests)

pub eqb-same : (a b : ℕ) → a ≡ b → nat_eq a b ≡ true
eqb-same a b h = grind (arith, nat_tests)

class_end : (class : KeyClass) → 2 ^ 32 ≤ end_of_class class
class_end Master = lit≤ tt
class_end Gcm = lit≤ tt
class_end Cmac = lit≤ tt

-- a row that is apart from those there, put last, keeps the rules
follow : (rows : List KeyRow) (row : KeyRow) → AreKeyRows rows → IsKeyRow row
    → ((k : ℕ) (d : KeyRow) → k < length rows → (get_or rows k d).id ≢ row.id)
    → ((k : ℕ) (d : KeyRow) → k < length rows → (get_or rows k d).digest ≢ row.digest) → AreKeyRows (rows ++ row ∷ [])
follow rows row ok rules ids twins =
    record {
      each = All-push IsKeyRow rows row ok.each rules;
      identifiers = all_pairs_push (λ (a b : KeyRow). a.id ≢ b.id) rows row ok.identifiers ids;
      digests = all_pairs_push (λ (a b : KeyRow). a.digest ≢ b.digest) rows row ok.digests twins;
    }

pub IsKeyBook-push : (rows : List KeyRow) (row : KeyRow) → IsKeyBook rows → MayFollow rows row
    → IsKeyBook (rows ++ row ∷ [])
IsKeyBook-push rows row ok may =
    record {
      most = subst (λ n. n ≤ MOST_KEYS) (sym (length_push rows row)) may.room;
      rules = follow rows row ok.rules may.rules may.identifier may.digest;
    }

-- a row elsewhere has another identifier
pub other_identifier : (rows : List KeyRow) (i k : ℕ) (d : KeyRow) → AreKeyRows rows → i < length rows → k < length rows
    → k ≢ i → (get_or rows k d).id ≢ (get_or rows i d).id
other_identifier rows i k d ok at_i at_k not_i same =
    ⊎_elim (λ (less : k < i). ok.identifiers k i d less at_i same)
    (λ (more : i < k). ok.identifiers i k d more at_k (sym same))
    (let apart : (k < i) ⊎ (i < k) = ⊎_elim (λ x. inl x) (λ x. inr (omega arith)) (cases_lt k i) in apart)

row_at : (rows : List KeyRow) (i : ℕ) (row d : KeyRow) → i < length rows → row ≡ get_or rows i row
    → get_or rows i d ≡ row
row_at rows i row d within read = get_or_default rows i d row within ∙ sym read

-- a write of a changed row at its place changes that row alone
pub set-changed : (rows : List KeyRow) (id i : ℕ) (f : KeyRow → KeyRow) (row : KeyRow) → AreKeyRows rows
    → place_of rows id ≡ Some i → row ≡ get_or rows i row → set rows i (f row) ≡ changed rows id f
set-changed rows id i f row ok place read =
    let g : KeyRow → KeyRow = λ old. cond (nat_eq old.id id) (f old) old in
    let within : i < length rows = (position-Some _ rows i row place).0 in
    let named : (get_or rows i row).id ≡ id = same_number _ _ ((position-Some _ rows i row place).1) in
    let test : nat_eq row.id id ≡ true =
    ap (λ (r : KeyRow). nat_eq r.id id) read ∙ (position-Some _ rows i row place).1 in
    same_lists _ _ (length-set rows i (f row) ∙ sym (length-map rows g))
    (λ k d low.
    let end : k < length rows = subst (λ n. k < n) (length-set rows i (f row)) low in
    ⊎_elim
    (λ (here : k ≡ i).
    subst (λ n. get_or (set rows i (f row)) n d ≡ get_or (map g rows) n d) (sym here)
    (get_or-set_same rows i (f row) d within
    ∙ sym (chosen (nat_eq row.id id) (f row) row test)
    ∙ ap g (sym (row_at rows i row d within read))
    ∙ sym (get_or-map g rows i d d within)))
    (λ (elsewhere : k ≢ i).
    get_or-set_other rows i k (f row) d elsewhere
    ∙ sym (left_out (nat_eq (get_or rows k d).id id) (f (get_or rows k d)) (get_or rows k d)
    (other_number _ _ (λ same. other_identifier rows i k d ok within end elsewhere
    (same ∙ sym named ∙ ap (λ (r : KeyRow). r.id) (get_or_default rows i row d within)))))
    ∙ sym (get_or-map g rows k d d end))
    (cases_eq k i))

-- a write of a row that keeps its key keeps the rules
pub AreKeyRows-set : (rows : List KeyRow) (i : ℕ) (row new : KeyRow) → AreKeyRows rows → i < length rows
    → row ≡ get_or rows i row → IsKeyRow new → new.id ≡ row.id → new.digest ≡ row.digest → AreKeyRows (set rows i new)
AreKeyRows-set rows i row new ok within read rules same_id same_digest =
    let at_i : (d : KeyRow) → get_or rows i d ≡ row = λ d. row_at rows i row d within read in
    record {
      each = All-set IsKeyRow rows i new rules ok.each;
      identifiers = pairs_set (λ (a b : KeyRow). a.id ≢ b.id) rows i new within
          (λ k d less same. ok.identifiers k i d less within
          (same ∙ same_id ∙ ap (λ (r : KeyRow). r.id) (sym (at_i d))))
          (λ k d more end same. ok.identifiers i k d more end (ap (λ (r : KeyRow). r.id) (at_i d) ∙ sym same_id ∙ same))
          ok.identifiers;
      digests = pairs_set (λ (a b : KeyRow). a.digest ≢ b.digest) rows i new within
          (λ k d less same.
          ok.digests k i d less within (same ∙ same_digest ∙ ap (λ (r : KeyRow). r.digest) (sym (at_i d))))
          (λ k d more end same.
          ok.digests i k d more end (ap (λ (r : KeyRow). r.digest) (at_i d) ∙ sym same_digest ∙ same))
          ok.digests;
    }

IsKeyBook-set : (rows : List KeyRow) (i : ℕ) (row new : KeyRow) → IsKeyBook rows → i < length rows
    → row ≡ get_or rows i row → IsKeyRow new → new.id ≡ row.id → new.digest ≡ row.digest → IsKeyBook (set rows i new)
IsKeyBook-set rows i row new ok within read rules same_id same_digest =
    record {
      most = subst (λ n. n ≤ MOST_KEYS) (sym (length-set rows i new)) ok.most;
      rules = AreKeyRows-set rows i row new ok.rules within read rules same_id same_digest;
    }

-- new numbers within the key's bounds keep the rules
pub IsKeyBook-numbers : (rows : List KeyRow) (id i mark floor : ℕ) (row : KeyRow) → IsKeyBook rows
    → place_of rows id ≡ Some i → row ≡ get_or rows i row → 1 ≤ mark → (row.id ≡ id → mark ≤ end_of row.id)
    → (row.id ≡ id → floor < end_of row.id) → IsKeyBook (set rows i (record row { mark = mark; floor = floor }))
IsKeyBook-numbers rows id i mark floor row ok place read least most below =
    let within : i < length rows = (position-Some _ rows i row place).0 in
    let named : row.id ≡ id = ap (λ (r : KeyRow). r.id) read ∙ same_number _ _ ((position-Some _ rows i row place).1) in
    let rules : IsKeyRow row = subst IsKeyRow (sym read) (ok.rules.each i row within) in
    IsKeyBook-set rows i row (record row { mark = mark; floor = floor }) ok within read
    (record { bytes = rules.bytes; mark_from_one = least; mark_to_end = most named; floor_below_end = below named })
    refl refl

-- the rules of the row at a place
pub rules_at : (rows : List KeyRow) (id i : ℕ) (row : KeyRow) → IsKeyBook rows → place_of rows id ≡ Some i
    → row ≡ get_or rows i row → IsKeyRow row × (row.id ≡ id)
rules_at rows id i row ok place read =
    let found = position-Some _ rows i row place in
    (subst IsKeyRow (sym read) (ok.rules.each i row found.0), ap (λ (r : KeyRow). r.id) read ∙ same_number _ _ found.1)

end_named : (a b n : ℕ) → a ≡ b → n ≤ end_of b → n ≤ end_of a
end_named a b n e h = subst (λ (m : ℕ). n ≤ end_of m) (sym e) h

below_named : (a b n : ℕ) → a ≡ b → n < end_of b → n < end_of a
below_named a b n e h = subst (λ (m : ℕ). n < end_of m) (sym e) h

pub IsKeyBook-raise_mark : (rows : List KeyRow) (id i mark : ℕ) (row : KeyRow) → IsKeyBook rows
    → place_of rows id ≡ Some i → row ≡ get_or rows i row → mark ≤ end_of id
    → IsKeyBook (set rows i (record row { mark = max row.mark mark }))
IsKeyBook-raise_mark rows id i mark row ok place read most =
    let rules = rules_at rows id i row ok place read in
    let low = rules.0.mark_from_one in
    let high = rules.0.mark_to_end in
    IsKeyBook-numbers rows id i (max row.mark mark) row.floor row ok place read (omega arith)
    (λ named. let bound : mark ≤ end_of row.id = end_named row.id id mark named most in omega arith)
    (λ named. rules.0.floor_below_end)

pub IsKeyBook-raise_floor : (rows : List KeyRow) (id i floor : ℕ) (row : KeyRow) → IsKeyBook rows
    → place_of rows id ≡ Some i → row ≡ get_or rows i row → floor < end_of id
    → IsKeyBook (set rows i (record row { floor = max row.floor floor }))
IsKeyBook-raise_floor rows id i floor row ok place read below =
    let rules = rules_at rows id i row ok place read in
    let high = rules.0.floor_below_end in
    IsKeyBook-numbers rows id i row.mark (max row.floor floor) row ok place read rules.0.mark_from_one
    (λ named. rules.0.mark_to_end)
    (λ named. let bound : floor < end_of row.id = below_named row.id id floor named below in omega arith)

pub IsKeyBook-set_marks : (rows : List KeyRow) (id i mark floor : ℕ) (row : KeyRow) → IsKeyBook rows
    → place_of rows id ≡ Some i → row ≡ get_or rows i row → 1 ≤ mark → mark ≤ end_of id → floor < end_of id
    → IsKeyBook (set rows i (record row { mark = mark; floor = floor }))
IsKeyBook-set_marks rows id i mark floor row ok place read least most below =
    IsKeyBook-numbers rows id i mark floor row ok place read least
    (λ named. end_named row.id id mark named most)
    (λ named. below_named row.id id floor named below)

there : (rows : List KeyRow) (id : ℕ) (o : Option ℕ) → place_of rows id ≡ o → IsSome (row_of rows id) → IsSome o
there rows id (Some i) e h = refl
there rows id None e h = subst IsSome (find_nowhere _ rows e) h

-- a key that is there has a place
pub placed_if_there : (rows : List KeyRow) (id : ℕ) → IsSome (row_of rows id) → IsSome (place_of rows id)
placed_if_there rows id h = there rows id (place_of rows id) refl h

-- judging a key that is to be loaded

pub key_refusal-taken : (rows : List KeyRow) (id : ℕ) (digest : List ℕ) → is_some (place_of rows id) ≡ true
    → key_refusal rows id digest ≡ Some (AlreadyLoaded id)
key_refusal-taken rows id digest h =
    ap (λ b. option_or (fails_if b (AlreadyLoaded id))
    (option_map (λ (row : KeyRow). DuplicateKey row.id) (row_with rows digest)))
    (is_some-find (λ (row : KeyRow). nat_eq row.id id) rows ∙ h)

key_refusal-free : (rows : List KeyRow) (id : ℕ) (digest : List ℕ) → is_some (place_of rows id) ≡ false
    → key_refusal rows id digest ≡ option_map (λ (row : KeyRow). DuplicateKey row.id) (row_with rows digest)
key_refusal-free rows id digest h =
    ap (λ b. option_or (fails_if b (AlreadyLoaded id))
    (option_map (λ (row : KeyRow). DuplicateKey row.id) (row_with rows digest)))
    (is_some-find (λ (row : KeyRow). nat_eq row.id id) rows ∙ h)

pub key_refusal-twin : (rows : List KeyRow) (id i : ℕ) (digest : List ℕ) (d : KeyRow)
    → is_some (place_of rows id) ≡ false → place_with rows digest ≡ Some i
    → key_refusal rows id digest ≡ Some (DuplicateKey (get_or rows i d).id)
key_refusal-twin rows id i digest d free place =
    key_refusal-free rows id digest free
    ∙ ap (option_map (λ (row : KeyRow). DuplicateKey row.id))
    (find_placed (λ (row : KeyRow). bytes_eq row.digest digest) rows i d place)

pub key_refusal-none : (rows : List KeyRow) (id : ℕ) (digest : List ℕ) → is_some (place_of rows id) ≡ false
    → place_with rows digest ≡ None → key_refusal rows id digest ≡ None
key_refusal-none rows id digest free nowhere =
    key_refusal-free rows id digest free
    ∙ ap (option_map (λ (row : KeyRow). DuplicateKey row.id))
    (find_nowhere (λ (row : KeyRow). bytes_eq row.digest digest) rows nowhere)

-- a key that is not refused

none_taken : (b : Bool) (id : ℕ) (r : Option KeyRow)
    → option_or (fails_if b (AlreadyLoaded id)) (option_map (λ (row : KeyRow). DuplicateKey row.id) r) ≡ None
    → (b ≡ false) × (r ≡ None)
none_taken true id r h = absurd (cc)
none_taken false id None h = (refl, refl)
none_taken false id (Some row) h = absurd (cc)

none_some : {X : Type 0} (o : Option X) → is_some o ≡ false → o ≡ None
none_some None h = refl
none_some (Some x) h = absurd (false≢true (sym h))

bytes_eq-same : (xs : List ℕ) → bytes_eq xs xs ≡ true
bytes_eq-same xs = (bytes_eq-Decides xs xs).1 refl

pub IsKeyRow-new : (item : KeyItem) → IsKeyLength (length item.bytes) → IsKeyRow (new_row item)
IsKeyRow-new item len =
    let far : 2 ^ 32 ≤ end_of item.id = class_end (class_of item.id) in
    record {
      bytes = (len, refl);
      mark_from_one = omega arith;
      mark_to_end = omega (arith, far);
      floor_below_end = omega (arith, far);
    }

-- a key that is not refused, put last, keeps the rules
pub AreKeyRows-push : (rows : List KeyRow) (item : KeyItem) → AreKeyRows rows → IsKeyLength (length item.bytes)
    → key_refusal rows item.id (sha256 item.bytes) ≡ None → AreKeyRows (rows ++ new_row item ∷ [])
AreKeyRows-push rows item ok len free =
    let apart = none_taken (is_some (row_of rows item.id)) item.id (row_with rows (sha256 item.bytes)) free in
    let ids = find_none (λ (row : KeyRow). nat_eq row.id item.id) rows (none_some _ apart.0) in
    let twins = find_none (λ (row : KeyRow). bytes_eq row.digest (sha256 item.bytes)) rows apart.1 in
    follow rows (new_row item) ok (IsKeyRow-new item len)
    (λ k d low same. false≢true (sym (ids k d low) ∙ eqb-same _ _ same))
    (λ k d low same.
    false≢true (sym (twins k d low) ∙ subst (λ (xs : List ℕ). bytes_eq (get_or rows k d).digest xs ≡ true) same
    (bytes_eq-same (get_or rows k d).digest)))

-- one more key to be loaded, which is not refused
pub loaded_more : (rows : List KeyRow) (items : List KeyItem) (i : ℕ) (item : KeyItem) → i < length items
    → item ≡ get_or items i item → key_refusal rows item.id (sha256 item.bytes) ≡ None
    → items_refusal rows (drop i items) ≡ items_refusal (rows ++ new_row item ∷ []) (drop (i + 1) items)
loaded_more rows items i item within read free =
    at_drop_more (items_refusal rows) items i item within
    ∙ ap (λ (x : KeyItem). items_refusal rows (x ∷ drop (i + 1) items)) (sym read)
    ∙ ap (λ r. option_or r (items_refusal (rows ++ new_row item ∷ []) (drop (i + 1) items))) free

-- one more key to be loaded, which is refused
pub loaded_fails : (rows : List KeyRow) (items : List KeyItem) (i : ℕ) (item : KeyItem) (refusal : KeyRefusal)
    → i < length items → item ≡ get_or items i item → key_refusal rows item.id (sha256 item.bytes) ≡ Some refusal
    → items_refusal rows (drop i items) ≡ Some refusal
loaded_fails rows items i item refusal within read fails =
    at_drop_more (items_refusal rows) items i item within
    ∙ ap (λ (x : KeyItem). items_refusal rows (x ∷ drop (i + 1) items)) (sym read)
    ∙ ap (λ r. option_or r (items_refusal (rows ++ new_row item ∷ []) (drop (i + 1) items))) fails

none_or : {X : Type 0} (a b : Option X) → option_or a b ≡ None → (a ≡ None) × (b ≡ None)
none_or None b h = (refl, h)
none_or (Some x) b h = absurd (cc)

-- keys that are not refused, put last, keep the rules
AreKeyRows-loaded : (rows : List KeyRow) (items : List KeyItem) → AreKeyRows rows
    → All (λ (item : KeyItem). IsKeyLength (length item.bytes)) items → items_refusal rows items ≡ None
    → AreKeyRows (rows ++ map new_row items)
AreKeyRows-loaded rows [] ok lengths free = subst AreKeyRows (sym (append-nil rows)) ok
AreKeyRows-loaded rows (item ∷ items) ok lengths free =
    let apart = none_or (key_refusal rows item.id (sha256 item.bytes)) (items_refusal (rows ++ new_row item ∷ []) items)
    free in
    let long : IsKeyLength (length item.bytes) =
    All-head (λ (x : KeyItem). IsKeyLength (length x.bytes)) item items lengths in
    subst AreKeyRows (append_assoc rows (new_row item ∷ []) (map new_row items))
    (AreKeyRows-loaded (rows ++ new_row item ∷ []) items (AreKeyRows-push rows item ok long apart.0)
    (All-tail (λ (x : KeyItem). IsKeyLength (length x.bytes)) item items lengths) apart.1)

fits_if_free : (n : ℕ) → fails_if (nat_lt MOST_KEYS n) BookFull ≡ None → n ≤ MOST_KEYS
fits_if_free n free = by (nat_lt MOST_KEYS n) refl free
  where
    by : (b : Bool) → nat_lt MOST_KEYS n ≡ b → fails_if b BookFull ≡ None → n ≤ MOST_KEYS
    by false e h = grind (arith, nat_tests)
    by true e h = absurd (cc)

-- a book that keys are loaded into, if nothing refuses them
pub IsKeyBook-loaded : (rows : List KeyRow) (items : List KeyItem) → IsKeyBook rows
    → All (λ (item : KeyItem). IsKeyLength (length item.bytes)) items → load_refusal rows items ≡ None
    → IsKeyBook (rows ++ map new_row items)
IsKeyBook-loaded rows items ok lengths free =
    let apart = none_or (items_refusal rows items) (fails_if (nat_lt MOST_KEYS (length rows + length items)) BookFull)
    free in
    let fits = fits_if_free (length rows + length items) apart.1 in
    record {
      most = omega (arith, fits, length-append rows (map new_row items), length-map items new_row);
      rules = AreKeyRows-loaded rows items ok.rules lengths apart.0;
    }

-- the rows when one more key is loaded
pub loaded_row : (before rows : List KeyRow) (items : List KeyItem) (i : ℕ) (item : KeyItem) → i < length items
    → item ≡ get_or items i item → rows ≡ before ++ map new_row (take i items)
    → rows ++ new_row item ∷ [] ≡ before ++ map new_row (take (i + 1) items)
loaded_row before rows items i item within read so_far =
    ap (λ (rs : List KeyRow). rs ++ new_row item ∷ []) so_far
    ∙ append_assoc before (map new_row (take i items)) (new_row item ∷ [])
    ∙ ap (λ (rs : List KeyRow). before ++ rs)
    (ap (λ (x : KeyItem). map new_row (take i items) ++ new_row x ∷ []) read
    ∙ sym (map_more new_row items i item within))

-- each row may follow those before it
pub may_follow : (rows : List KeyRow) (i : ℕ) (d : KeyRow) → IsKeyBook rows → i < length rows
    → MayFollow (take i rows) (get_or rows i d)
may_follow rows i d ok within =
    let front : length (take i rows) ≡ i = omega (arith, length-take i rows) in
    let most = ok.most in
    let same : (e : KeyRow) → get_or rows i d ≡ get_or rows i e = λ e. get_or_default rows i d e within in
    let before : (k : ℕ) (e : KeyRow) → k < length (take i rows)
    → (k < i) × (get_or (take i rows) k e ≡ get_or rows k e) =
    λ k e low. let less : k < i = subst (λ n. k < n) front low in (less, get_or-take i rows k e less) in
    record {
      room = subst (λ n. n + 1 ≤ MOST_KEYS) (sym front) (omega arith);
      rules = ok.rules.each i d within;
      identifier = λ k e low equal. ok.rules.identifiers k i e (before k e low).0 within
          (ap (λ (r : KeyRow). r.id) (sym (before k e low).1) ∙ equal ∙ ap (λ (r : KeyRow). r.id) (same e));
      digest = λ k e low equal. ok.rules.digests k i e (before k e low).0 within
          (ap (λ (r : KeyRow). r.digest) (sym (before k e low).1) ∙ equal ∙ ap (λ (r : KeyRow). r.digest) (same e));
    }
