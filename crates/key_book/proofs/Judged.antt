-- Keys that are to be loaded, judged as if the earlier ones were.
use Rattle.std.proofs.Common.{◌≡◌, ℕ, Bool, true, false, cond, ◌||◌, nat_eq, List, [], ◌∷◌, ◌++◌, map, get_or, Option}
use Rattle.std.proofs.Common.{Some, None, is_some, sym, refl, ap, ◌∙◌}
use Rattle.std.specs.List.{find, position, list_any}
use Rattle.std.specs.Option.{option_map, option_or}
use Rattle.std.specs.Str.{bytes_eq}
use Rattle.std.proofs.lemmas.List.Folds.{find-append}
use Rattle.sha2.specs.Sha256.{sha256}
use Rattle.sdls_base.specs.FirstFailing.{fails_if}
use Rattle.sdls_base.specs.declared.key_id.KeyItem.{KeyItem}
use Rattle.key_book.specs.declared.key_row.KeyRow.{KeyRow}
use Rattle.key_book.specs.declared.refusals.KeyRefusal.TheVariants.{AlreadyLoaded, DuplicateKey}
use Rattle.key_book.specs.KeyRow.{new_row}
use Rattle.key_book.specs.KeyBook.{row_of, place_of}
use Rattle.key_book.specs.KeyRefusal.{row_with, place_with, key_refusal}
use Rattle.sdls_base.proofs.Searches.{find_placed, find_nowhere, is_some-find}

-- searches among the rows of items

pub find-rows : (p : KeyRow → Bool) (items : List KeyItem)
    → find p (map new_row items) ≡ option_map new_row (find (λ item. p (new_row item)) items)
find-rows p [] = refl
find-rows p (item ∷ items) =
    by (p (new_row item)) (find p (map new_row items)) (find (λ x. p (new_row x)) items) (find-rows p items)
  where
    by : (b : Bool) (o : Option KeyRow) (q : Option KeyItem) → o ≡ option_map new_row q
        → cond b (Some (new_row item)) o ≡ option_map new_row (cond b (Some item) q)
    by true o q e = refl
    by false o q e = e

found_or : {X : Type 0} (b : Bool) (x : X) (o : Option X) (c : Bool) → is_some o ≡ c
    → is_some (cond b (Some x) o) ≡ (b || c)
found_or true x o c e = refl
found_or false x o c e = e

any_found : {X : Type 0} (p : X → Bool) (xs : List X) → is_some (find p xs) ≡ list_any p xs
any_found p [] = refl
any_found p (x ∷ xs) = found_or (p x) x (find p xs) (list_any p xs) (any_found p xs)

is_some-map : {X Y : Type 0} (f : X → Y) (o : Option X) → is_some (option_map f o) ≡ is_some o
is_some-map f None = refl
is_some-map f (Some x) = refl

is_some-or : {X : Type 0} (a b : Option X) → is_some (option_or a b) ≡ (is_some a || is_some b)
is_some-or None b = refl
is_some-or (Some x) b = refl

-- an identifier is that of a row, or of an item
pub taken-among : (rows : List KeyRow) (items : List KeyItem) (id : ℕ)
    → is_some (row_of (rows ++ map new_row items) id)
    ≡ (is_some (place_of rows id) || list_any (λ item. nat_eq item.id id) items)
taken-among rows items id =
    let p : KeyRow → Bool = λ row. nat_eq row.id id in
    ap is_some (find-append p rows (map new_row items))
    ∙ is_some-or (find p rows) (find p (map new_row items))
    ∙ ap (λ b. b || is_some (find p (map new_row items))) (is_some-find p rows)
    ∙ ap (λ b. is_some (place_of rows id) || b)
    (ap is_some (find-rows p items) ∙ is_some-map new_row (find (λ item. nat_eq item.id id) items)
    ∙ any_found (λ item. nat_eq item.id id) items)

-- the key of a digest

abbrev pub named : Option KeyRow → Option ℕ
named row = option_map (λ row. row.id) row

pub named-nowhere : (rows : List KeyRow) (digest : List ℕ) → place_with rows digest ≡ None
    → named (row_with rows digest) ≡ None
named-nowhere rows digest nowhere = ap named (find_nowhere (λ (row : KeyRow). bytes_eq row.digest digest) rows nowhere)

pub named-place : (rows : List KeyRow) (digest : List ℕ) (i : ℕ) (row : KeyRow) → place_with rows digest ≡ Some i
    → row ≡ get_or rows i row → named (row_with rows digest) ≡ Some row.id
named-place rows digest i row place read =
    ap named (find_placed (λ (row : KeyRow). bytes_eq row.digest digest) rows i row place)
    ∙ ap (λ (r : KeyRow). Some r.id) (sym read)

abbrev pub with_digest : List ℕ → KeyItem → Bool
with_digest digest item = bytes_eq (sha256 item.bytes) digest

among : (items : List KeyItem) (digest : List ℕ) → row_with (map new_row items) digest
    ≡ option_map new_row (find (with_digest digest) items)
among items digest = find-rows (λ row. bytes_eq row.digest digest) items

pub named-no_item : (items : List KeyItem) (digest : List ℕ) → position (with_digest digest) items ≡ None
    → named (row_with (map new_row items) digest) ≡ None
named-no_item items digest nowhere =
    ap named (among items digest ∙ ap (option_map new_row) (find_nowhere (with_digest digest) items nowhere))

pub named-item : (items : List KeyItem) (digest : List ℕ) (i : ℕ) (item : KeyItem)
    → position (with_digest digest) items ≡ Some i → item ≡ get_or items i item
    → named (row_with (map new_row items) digest) ≡ Some item.id
named-item items digest i item place read =
    ap named (among items digest ∙ ap (option_map new_row) (find_placed (with_digest digest) items i item place))
    ∙ ap (λ (x : KeyItem). Some x.id) (sym read)

-- judging

map-or : {X Y : Type 0} (f : X → Y) (a b : Option X) → option_map f (option_or a b)
    ≡ option_or (option_map f a) (option_map f b)
map-or f None b = refl
map-or f (Some x) b = refl

twin : (o : Option KeyRow) → option_map (λ (row : KeyRow). DuplicateKey row.id) o ≡ option_map DuplicateKey (named o)
twin None = refl
twin (Some row) = refl

pub judged-taken : (rows : List KeyRow) (items : List KeyItem) (id : ℕ) (digest : List ℕ)
    → is_some (row_of (rows ++ map new_row items) id) ≡ true → key_refusal (rows ++ map new_row items) id digest
    ≡ Some (AlreadyLoaded id)
judged-taken rows items id digest taken =
    ap (λ b. option_or (fails_if b (AlreadyLoaded id))
    (option_map (λ (row : KeyRow). DuplicateKey row.id) (row_with (rows ++ map new_row items) digest))) taken

pub judged-free : (rows : List KeyRow) (items : List KeyItem) (id : ℕ) (digest : List ℕ)
    → is_some (row_of (rows ++ map new_row items) id) ≡ false → key_refusal (rows ++ map new_row items) id digest
    ≡ option_map DuplicateKey
    (option_or (named (row_with rows digest)) (named (row_with (map new_row items) digest)))
judged-free rows items id digest free =
    let p : KeyRow → Bool = λ row. bytes_eq row.digest digest in
    ap (λ b. option_or (fails_if b (AlreadyLoaded id))
    (option_map (λ (row : KeyRow). DuplicateKey row.id) (row_with (rows ++ map new_row items) digest))) free
    ∙ twin (row_with (rows ++ map new_row items) digest)
    ∙ ap (λ o. option_map DuplicateKey (named o)) (find-append p rows (map new_row items))
    ∙ ap (option_map DuplicateKey)
    (map-or (λ (row : KeyRow). row.id) (row_with rows digest) (row_with (map new_row items) digest))
