-- The digests of keys that are to be loaded (FIPS 180-4).
use Rattle.std.specs.Prelude.{◌≡◌, ℕ, ◌<◌, List, length, slice_index_or}
use Rattle.sha2.specs.Sha256.{sha256}
use Rattle.sdls_base.specs.declared.key_id.KeyItem.{KeyItem}

-- as far as both go, these are the digests of the keys
abbrev pub Knows : List (List ℕ) → List KeyItem → Type 0
Knows digests items = (k : ℕ) (d : List ℕ) (item : KeyItem) → k < length digests → k < length items
    → slice_index_or digests k d ≡ sha256 (slice_index_or items k item).bytes
