-- The lists of a record, item by item.
use Rattle.std.proofs.Common.{◌≡◌, ℕ, suc, ◌+◌, ◌<◌, ◌≤◌, inl, inr, List, [], ◌∷◌, ◌++◌, length, take, drop, get_or}
use Rattle.std.proofs.Common.{sym, ap, ◌∙◌, subst, arith, append_assoc}
use Rattle.std.specs.Prelude.{◌↔◌}
use Rattle.std.specs.List.{flat_map, All}
use Rattle.std.proofs.Math.Seq.{take-suc}
use Rattle.std.proofs.lemmas.List.{flat_map_more, length-take-le, length-drop}
use Rattle.std.proofs.lemmas.List.Elements.{All-append, All-from_recursion}
use Rattle.sdls_base.specs.Bounds.{IsKeyLength}
use Rattle.book_record.specs.declared.data.RecordError.{RecordError}
use Rattle.book_record.specs.declared.data.RecordError.TheVariants.{Malformed, NoMemory}
use Rattle.sdls_base.specs.declared.key_id.KeyItem.{KeyItem}
use Rattle.book_record.specs.Record.{IsKey}
use Rattle.sdls_base.specs.Places.{octet_at, word_at}
use Rattle.book_record.specs.Reading.{HasCause, keys_in, AreKeys, item_at, IsItem, behind_item, items_in, AreItems}

-- ---- what was written up to a place

one_more : {X : Type 0} (xs : List X) (i : ℕ) (d : X) → i < length xs
    → take (i + 1) xs ≡ take i xs ++ get_or xs i d ∷ []
one_more xs i d h = ap (λ (n : ℕ). take n xs) (let next : i + 1 ≡ suc i = omega arith in next) ∙ take-suc xs i d h

pub all_next : {X : Type 0} (P : X → Type 0) (xs : List X) (i : ℕ) (d : X) → i < length xs → All P (take i xs)
    → P (get_or xs i d) → All P (take (i + 1) xs)
all_next P xs i d h front here =
    subst (All P) (sym (one_more xs i d h))
    (All-append P (take i xs) (get_or xs i d ∷ []) front (All-from_recursion P (get_or xs i d ∷ []) (here, tt)))

pub octets_next : {X : Type 0} (f : X → List ℕ) (front : List ℕ) (xs : List X) (i : ℕ) (d : X) → i < length xs
    → (front ++ flat_map f (take i xs)) ++ f (get_or xs i d) ≡ front ++ flat_map f (take (i + 1) xs)
octets_next f front xs i d h =
    flat_map_more f front (take i xs) (get_or xs i d) ∙ ap (λ s. front ++ flat_map f s) (sym (one_more xs i d h))

-- ---- what was read up to a place

-- an error has the causes that follow from its cause
pub follows : (e : RecordError) {A B : Type 0} → (A → B) → HasCause e A → HasCause e B
follows Malformed f a = f a
follows NoMemory f a = tt

-- what no part may be, the whole may not be
pub fails : (e : RecordError) {A B : Type 0} → (B → A) → HasCause e (¬ A) → HasCause e (¬ B)
fails e f = follows e (λ not b. not (f b))

pub keys_read : (front : List ℕ) (n m at : ℕ) (octets : List ℕ) → n ≡ suc m
    → (front ++ word_at at octets ∷ []) ++ keys_in m (at + 2) octets ≡ front ++ keys_in n at octets
keys_read front n m at octets e =
    append_assoc front (word_at at octets ∷ []) (keys_in m (at + 2) octets)
    ∙ ap (λ (k : ℕ). front ++ keys_in k at octets) (sym e)

pub keys_head : (n m at : ℕ) (octets : List ℕ) → n ≡ suc m → AreKeys n at octets → IsKey (word_at at octets)
keys_head n m at octets e are = (subst (λ (k : ℕ). AreKeys k at octets) e are).0

pub keys_may : (n m at : ℕ) (octets : List ℕ) (T : Type 0) → n ≡ suc m → IsKey (word_at at octets)
    → AreKeys n at octets ↔ T → AreKeys m (at + 2) octets ↔ T
keys_may n m at octets T e key both = (
  λ are. both.0 (subst (λ (k : ℕ). AreKeys k at octets) (sym e) (key, are)),
  λ t. (subst (λ (k : ℕ). AreKeys k at octets) e (both.1 t)).1,
)

pub items_read : (front : List KeyItem) (n m at : ℕ) (octets : List ℕ) → n ≡ suc m
    → (front ++ item_at at octets ∷ []) ++ items_in m (behind_item at octets) octets ≡ front ++ items_in n at octets
items_read front n m at octets e =
    append_assoc front (item_at at octets ∷ []) (items_in m (behind_item at octets) octets)
    ∙ ap (λ (k : ℕ). front ++ items_in k at octets) (sym e)

pub items_head : (n m at : ℕ) (octets : List ℕ) → n ≡ suc m → AreItems n at octets → IsItem at octets
items_head n m at octets e are = (subst (λ (k : ℕ). AreItems k at octets) e are).0

pub items_may : (n m at : ℕ) (octets : List ℕ) (T : Type 0) → n ≡ suc m → IsItem at octets → AreItems n at octets ↔ T
    → AreItems m (behind_item at octets) octets ↔ T
items_may n m at octets T e item both = (
  λ are. both.0 (subst (λ (k : ℕ). AreItems k at octets) (sym e) (item, are)),
  λ t. (subst (λ (k : ℕ). AreItems k at octets) e (both.1 t)).1,
)

key_length_small : (n : ℕ) → IsKeyLength n → n ≤ 32
key_length_small n (inl e) = omega (arith, e)
key_length_small n (inr e) = omega (arith, e)

-- an item that may stand there ends in the room for it
pub item_end : (at : ℕ) (octets : List ℕ) → IsItem at octets → behind_item at octets ≤ at + 35
item_end at octets is = omega (arith, key_length_small (octet_at (at + 2) octets) is.1)

pub item_length : (at : ℕ) (octets : List ℕ) → IsItem at octets → at + 35 ≤ length octets
    → length (item_at at octets).bytes ≡ octet_at (at + 2) octets
item_length at octets is room =
    length-take-le (octet_at (at + 2) octets) (drop (at + 3) octets)
    (omega (arith, key_length_small (octet_at (at + 2) octets) is.1, length-drop (at + 3) octets))
