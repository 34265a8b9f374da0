-- What a unit seals for the link and opens again: keys to be loaded, and challenges (GCM is that of SP 800-38D, MACs
-- that of SP 800-38B; what they cover is profile).
use Rattle.std.specs.Prelude.{ℕ, zero, suc, ◌+◌, ◌*◌, ◌==◌, ◌||◌, not, nat_lt, List, [], ◌∷◌, ◌++◌, length, take, drop}
use Rattle.std.specs.Prelude.{slice_index, Option, Some, None}
use Rattle.std.specs.Int.{w16, w32, to_be_bytes, from_be_bytes}
use Rattle.std.specs.Option.{option_or}
use Rattle.sdls_base.specs.FirstFailing.{first_failing}
use Rattle.sdls_base.specs.declared.key_id.KeyItem.{KeyItem}

-- the first five octets of a Rekeying message, by its master key and how many octets are sealed: its tag, the length of
-- its data in bits, and the key
abbrev pub front : ℕ → ℕ → List ℕ
front master sealed = 0x01 ∷ to_be_bytes w16 (8 * (2 + 12 + 16 + sealed)) ++ to_be_bytes w16 master

-- ---- keys to be loaded

-- the item at the front of a text
abbrev pub item_at : List ℕ → KeyItem
item_at text = record {
  id = from_be_bytes w16 (slice_index text 0 ∷ slice_index text 1 ∷ []);
  bytes = take (slice_index text 2) (drop 3 text);
}

-- at most so many items, from the front of a text
abbrev pub items_in : ℕ → List ℕ → List KeyItem
items_in zero text = []
items_in (suc left) [] = []
items_in (suc left) (high ∷ []) = []
items_in (suc left) (high ∷ low ∷ []) = []
items_in (suc left) (high ∷ low ∷ count ∷ text) =
    record { id = from_be_bytes w16 (high ∷ low ∷ []); bytes = take count text } ∷ items_in left (drop count text)

-- The item at the front of a text, which stands at an offset: a session key's identifier, whose first octet is not 0; a
-- length of 16 or 32; and so many octets. An item that the text's end cuts is at fault as a whole.
abbrev pub item_fault : ℕ → List ℕ → Option ℕ
item_fault at text = first_failing
    ((nat_lt (length text) 3, at)
    ∷ (slice_index text 0 == 0, at)
    ∷ (not (slice_index text 2 == 16 || slice_index text 2 == 32), at + 2)
    ∷ (nat_lt (length text) (3 + slice_index text 2), at)
    ∷ [])

-- The offset of the first octet that cannot stand there, in a text of at most so many items from an offset on. A
-- further item is at fault as a whole.
abbrev pub items_fault : ℕ → ℕ → List ℕ → Option ℕ
items_fault left at [] = None
items_fault zero at (octet ∷ text) = Some at
items_fault (suc left) at (octet ∷ text) = option_or (item_fault at (octet ∷ text))
    (items_fault left (at + 3 + slice_index text 1) (drop (2 + slice_index text 1) text))

-- ---- challenges

-- What stands before a number or a key, where a frame would begin: the first two bits of no frame are both 1, under any
-- mask.
abbrev pub no_frame : List ℕ
no_frame = 0xff ∷ 0xff ∷ 0xff ∷ 0xff ∷ []

-- what is authenticated with a sealed challenge
abbrev pub challenge_data : ℕ → List ℕ
challenge_data key = no_frame ++ to_be_bytes w16 key

-- what a MAC over a challenge covers
abbrev pub challenge_text : ℕ → List ℕ → List ℕ
challenge_text number challenge = no_frame ++ to_be_bytes w32 number ++ challenge
