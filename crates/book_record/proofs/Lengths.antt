-- How many octets the lists of a record take.
use Rattle.std.proofs.Common.{◌≡◌, ℕ, ◌*◌, ◌≤◌, inl, inr, List, [], ◌∷◌, length, refl, arith, length-append}
use Rattle.std.proofs.lemmas.List.Elements.{recursion_from_All}
use Rattle.std.specs.List.{flat_map, All, AllByRecursion}
use Rattle.std.specs.Int.{w16, to_be_bytes}
use Rattle.sdls_base.specs.Bounds.{IsKeyLength}
use Rattle.sdls_base.specs.declared.key_id.KeyItem.{KeyItem}
use Rattle.sdls_base.specs.Spelling.{item_octets}

pub keys_length : (keys : List ℕ) → length (flat_map (to_be_bytes w16) keys) ≡ 2 * length keys
keys_length [] = refl
keys_length (key ∷ keys) = omega (arith, keys_length keys)

abbrev HasKeyLength : KeyItem → Type 0
HasKeyLength item = IsKeyLength (length item.bytes)

at_most_32 : (n : ℕ) → IsKeyLength n → n ≤ 32
at_most_32 n (inl e) = omega (arith, e)
at_most_32 n (inr e) = omega (arith, e)

each_small : (items : List KeyItem) → AllByRecursion HasKeyLength items
    → length (flat_map item_octets items) ≤ 35 * length items
each_small [] are = omega arith
each_small (item ∷ items) are =
    omega (
      arith,
      each_small items are.1,
      at_most_32 (length item.bytes) are.0,
      length-append (item_octets item) (flat_map item_octets items),
    )

pub items_length : (items : List KeyItem) → All HasKeyLength items
    → length (flat_map item_octets items) ≤ 35 * length items
items_length items are = each_small items (recursion_from_All HasKeyLength items are)
