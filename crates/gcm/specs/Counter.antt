-- A pad xored into a text, and a text that is enciphered as far as some octet.
use Rattle.std.specs.Prelude.{◌≡◌, ℕ, ◌+◌, ◌-◌, ◌<◌, ◌≤◌, List, [], ◌∷◌, length, slice_index, bit_xor}
use Rattle.aes_block.specs.Aes.{encrypted}
use Rattle.gcm.specs.Gcm.{counter_block, gctr_octet}

-- the octets from start up to stop are xored with the pad's, and the others stay
pub record XorsPad (start stop : ℕ) (pad old new : List ℕ) : Type 0 where
  pub same_length : length new ≡ length old
  pub xored : (k : ℕ) → start ≤ k → k < stop → k < length old
      → slice_index new k ≡ bit_xor (slice_index old k) (slice_index pad (k - start))
  pub below : (k : ℕ) → k < start → slice_index new k ≡ slice_index old k
  pub above : (k : ℕ) → stop ≤ k → slice_index new k ≡ slice_index old k

-- the octets below stop are enciphered, and the others are still to come
pub record IsEncipheredBelow (key iv old new : List ℕ) (stop : ℕ) : Type 0 where
  pub same_length : length new ≡ length old
  pub below : (k : ℕ) → k < stop → k < length old → slice_index new k ≡ gctr_octet key iv old k
  pub above : (k : ℕ) → stop ≤ k → slice_index new k ≡ slice_index old k

-- the counter blocks after i to i + 3 steps
abbrev pub four_counters : List ℕ → ℕ → List (List ℕ)
four_counters iv i =
    counter_block iv i ∷ counter_block iv (i + 1) ∷ counter_block iv (i + 2) ∷ counter_block iv (i + 3) ∷ []

-- J0 and the two counter blocks after it, enciphered
abbrev pub first_pads : List ℕ → List ℕ → List (List ℕ)
first_pads key iv =
    encrypted key (counter_block iv 0) ∷ encrypted key (counter_block iv 1) ∷ encrypted key (counter_block iv 2) ∷ []
