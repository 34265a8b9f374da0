-- Lists of fields are what stands there, and what was written is read again.
use Rattle.std.proofs.Common.{◌≡◌, ℕ, zero, suc, ◌+◌, ◌*◌, ◌%◌, ◌≤◌, true, List, [], ◌∷◌, ◌++◌, length, None, refl, ap}
use Rattle.std.proofs.Common.{◌∙◌, arith, add-one}
use Rattle.std.specs.Prelude.{⊤, not, IsTrue}
use Rattle.std.specs.List.{flat_map, AllByRecursion}
use Rattle.std.specs.List.Sorted.{IsStrictlyIncreasing}
use Rattle.std.specs.Int.{w16, from_be_bytes, to_be_bytes, is_in_range}
use Rattle.std.proofs.lemmas.Nat.{from_be_bytes-to_be_bytes_2}
use Rattle.sdls_base.specs.declared.states.KeyState.{KeyState}
use Rattle.sdls_base.specs.declared.states.KeyState.TheVariants.{PreActive, Active, Deactivated, Destroyed}
use Rattle.sdls_base.specs.FirstFailing.{first_failing}
use Rattle.ep_codec.specs.Command.{keys_data}
use Rattle.sdls_base.proofs.Codes.{key_state_again}
use Rattle.sdls_base.specs.Code.{key_state_code, key_state_of}
use Rattle.ep_codec.specs.Field.{is_key}
use Rattle.ep_codec.specs.FieldList.{keys_in, key_checks, rows_in, row_checks, channel_checks}
use Rattle.ep_codec.specs.ReplyPdu.{row_octets}
use Rattle.ep_codec.proofs.Faults.{others_passed}
use Rattle.sdls_base.proofs.PlaceFacts.{AreOctets, word_spelled}
use Rattle.ep_codec.proofs.FieldFacts.{low_bound, high_bound, in_bounds, kept, keeps}

-- ---- keys

pub keys_spelled : (octets : List ℕ) → AreOctets octets → length octets % 2 ≡ 0 → keys_data (keys_in octets) ≡ octets
keys_spelled [] are even = refl
keys_spelled (a ∷ []) are even = absurd (omega arith)
keys_spelled (a ∷ b ∷ octets) are even =
    ap (λ (s : List ℕ). s ++ keys_data (keys_in octets)) (word_spelled a b (are 0) (are 1))
    ∙ ap (λ (s : List ℕ). a ∷ b ∷ s) (keys_spelled octets (λ i. are (suc (suc i))) (omega arith))

pub keys_count : (octets : List ℕ) → length octets % 2 ≡ 0 → length octets ≡ 2 * length (keys_in octets)
keys_count [] even = refl
keys_count (a ∷ []) even = absurd (omega arith)
keys_count (a ∷ b ∷ octets) even = omega (arith, keys_count octets (omega arith))

pub keys_are : (at : ℕ) (octets : List ℕ) → first_failing (key_checks at octets) ≡ None
    → AllByRecursion (λ key. IsTrue (is_key key)) (keys_in octets)
keys_are at [] none = tt
keys_are at (a ∷ []) none = tt
keys_are at (a ∷ b ∷ octets) none =
    let key = from_be_bytes w16 (a ∷ b ∷ []) in (
      kept (is_key key) at (key_checks (at + 2) octets) none,
      keys_are (at + 2) octets (others_passed (not (is_key key)) at (key_checks (at + 2) octets) none),
    )

pub key_again : (key : ℕ) → IsTrue (is_key key) → from_be_bytes w16 (to_be_bytes w16 key) ≡ key
key_again key is = from_be_bytes-to_be_bytes_2 key (omega (arith, high_bound 1 65535 key is))

pub keys_read_again : (keys : List ℕ) → AllByRecursion (λ key. IsTrue (is_key key)) keys
    → keys_in (keys_data keys) ≡ keys
keys_read_again [] are = refl
keys_read_again (key ∷ keys) are =
    let e = key_again key are.0 in
    let f = keys_read_again keys are.1 in
    cc

pub keys_pass : (at : ℕ) (keys : List ℕ) → AllByRecursion (λ key. IsTrue (is_key key)) keys
    → first_failing (key_checks at (keys_data keys)) ≡ None
keys_pass at [] are = refl
keys_pass at (key ∷ keys) are =
    keeps (is_key (from_be_bytes w16 (to_be_bytes w16 key))) at (key_checks (at + 2) (keys_data keys))
    (ap is_key (key_again key are.0) ∙ are.0) (keys_pass (at + 2) keys are.1)

-- ---- keys with their states

pub state_code : (n : ℕ) → is_in_range 1 4 n ≡ true → key_state_code (key_state_of n) ≡ n
state_code zero is = absurd (omega (arith, low_bound 1 4 0 is))
state_code (suc zero) is = refl
state_code (suc (suc zero)) is = refl
state_code (suc (suc (suc zero))) is = refl
state_code (suc (suc (suc (suc zero)))) is = refl
state_code (suc (suc (suc (suc (suc n))))) is =
    absurd (omega (arith, high_bound 1 4 (suc (suc (suc (suc (suc n))))) is))

pub state_in : (state : KeyState) → is_in_range 1 4 (key_state_code state) ≡ true
state_in PreActive = refl
state_in Active = refl
state_in Deactivated = refl
state_in Destroyed = refl

pub rows_spelled : (at : ℕ) (octets : List ℕ) → AreOctets octets → length octets % 3 ≡ 0
    → first_failing (row_checks at octets) ≡ None
    → flat_map row_octets (rows_in octets) ≡ octets
rows_spelled at [] are whole none = refl
rows_spelled at (a ∷ []) are whole none = absurd (omega arith)
rows_spelled at (a ∷ b ∷ []) are whole none = absurd (omega arith)
rows_spelled at (a ∷ b ∷ c ∷ octets) are whole none =
    let key = from_be_bytes w16 (a ∷ b ∷ []) in
    let others = (not (is_in_range 1 4 c), at + 2) ∷ row_checks (at + 3) octets in
    let state_none = others_passed (not (is_key key)) at others none in
    let code = state_code c (kept (is_in_range 1 4 c) (at + 2) (row_checks (at + 3) octets) state_none) in
    ap (λ (s : List ℕ). (s ++ key_state_code (key_state_of c) ∷ []) ++ flat_map row_octets (rows_in octets))
    (word_spelled a b (are 0) (are 1))
    ∙ ap (λ (n : ℕ). a ∷ b ∷ n ∷ flat_map row_octets (rows_in octets)) code
    ∙ ap (λ (s : List ℕ). a ∷ b ∷ c ∷ s)
    (rows_spelled (at + 3) octets (λ i. are (suc (suc (suc i)))) (omega arith)
    (others_passed (not (is_in_range 1 4 c)) (at + 2) (row_checks (at + 3) octets) state_none))

pub rows_count : (octets : List ℕ) → length octets % 3 ≡ 0 → length octets ≡ 3 * length (rows_in octets)
rows_count [] whole = refl
rows_count (a ∷ []) whole = absurd (omega arith)
rows_count (a ∷ b ∷ []) whole = absurd (omega arith)
rows_count (a ∷ b ∷ c ∷ octets) whole = omega (arith, rows_count octets (omega arith))

pub rows_are : (at : ℕ) (octets : List ℕ) → first_failing (row_checks at octets) ≡ None
    → AllByRecursion (λ row. IsTrue (is_key row.0)) (rows_in octets)
rows_are at [] none = tt
rows_are at (a ∷ []) none = tt
rows_are at (a ∷ b ∷ []) none = tt
rows_are at (a ∷ b ∷ c ∷ octets) none =
    let key = from_be_bytes w16 (a ∷ b ∷ []) in
    let others = (not (is_in_range 1 4 c), at + 2) ∷ row_checks (at + 3) octets in (
      kept (is_key key) at others none,
      rows_are (at + 3) octets (others_passed (not (is_in_range 1 4 c)) (at + 2) (row_checks (at + 3) octets)
          (others_passed (not (is_key key)) at others none)),
    )

pub rows_read_again : (rows : List (ℕ × KeyState)) → AllByRecursion (λ row. IsTrue (is_key row.0)) rows
    → rows_in (flat_map row_octets rows) ≡ rows
rows_read_again [] are = refl
rows_read_again (row ∷ rows) are =
    let e : from_be_bytes w16 (to_be_bytes w16 row.0) ≡ row.0 = key_again row.0 are.0 in
    let f = key_state_again row.1 in
    let g = rows_read_again rows are.1 in
    let first : (from_be_bytes w16 (to_be_bytes w16 row.0), key_state_of (key_state_code row.1)) ≡ row =
    λ i. (e i, f i) in
    cc

pub rows_pass : (at : ℕ) (rows : List (ℕ × KeyState)) → AllByRecursion (λ row. IsTrue (is_key row.0)) rows
    → first_failing (row_checks at (flat_map row_octets rows)) ≡ None
rows_pass at [] are = refl
rows_pass at (row ∷ rows) are =
    let others = row_checks (at + 3) (flat_map row_octets rows) in
    keeps (is_key (from_be_bytes w16 (to_be_bytes w16 row.0))) at
    ((not (is_in_range 1 4 (key_state_code row.1)), at + 2) ∷ others) (ap is_key (key_again row.0 are.0) ∙ are.0)
    (keeps (is_in_range 1 4 (key_state_code row.1)) (at + 2) others (state_in row.1) (rows_pass (at + 3) rows are.1))

-- ---- channels

pub channels_small : (at least : ℕ) (channels : List ℕ) → first_failing (channel_checks at least channels) ≡ None
    → AllByRecursion (λ channel. channel ≤ 63) channels
channels_small at least [] none = tt
channels_small at least (channel ∷ channels) none = (
  high_bound least 63 channel (kept (is_in_range least 63 channel) at (channel_checks (at + 1) (channel + 1) channels)
      none),
  channels_small (at + 1) (channel + 1) channels
      (others_passed (not (is_in_range least 63 channel)) at (channel_checks (at + 1) (channel + 1) channels) none),
)

pub channels_ascend : (at least : ℕ) (channels : List ℕ) → first_failing (channel_checks at least channels) ≡ None
    → IsStrictlyIncreasing channels
channels_ascend at least [] none k h = absurd (omega arith)
channels_ascend at least (a ∷ []) none k h = absurd (omega arith)
channels_ascend at least (a ∷ b ∷ channels) none zero h =
    let others = others_passed (not (is_in_range least 63 a)) at (channel_checks (at + 1) (a + 1) (b ∷ channels))
    none in
    omega (
      arith,
      low_bound (a + 1) 63 b (kept (is_in_range (a + 1) 63 b) (at + 1) (channel_checks (at + 1 + 1) (b + 1) channels)
          others),
    )
channels_ascend at least (a ∷ b ∷ channels) none (suc k) h =
    let others = others_passed (not (is_in_range least 63 a)) at (channel_checks (at + 1) (a + 1) (b ∷ channels))
    none in
    let rest = channels_ascend (at + 1) (a + 1) (b ∷ channels) others k (omega arith) in
    rw add-one (rw add-one at rest)

abbrev BeginsFrom : ℕ → List ℕ → Type 0
BeginsFrom least [] = ⊤
BeginsFrom least (channel ∷ channels) = least ≤ channel

rest_begins : (a : ℕ) (channels : List ℕ) → IsStrictlyIncreasing (a ∷ channels) → BeginsFrom (a + 1) channels
rest_begins a [] up = tt
rest_begins a (b ∷ channels) up = omega (arith, up 0 (omega arith))

rest_ascends : (a : ℕ) (channels : List ℕ) → IsStrictlyIncreasing (a ∷ channels) → IsStrictlyIncreasing channels
rest_ascends a channels up k h =
    let rest = up (suc k) (omega arith) in
    rw add-one (rw add-one at rest)

passing : (at least : ℕ) (channels : List ℕ) → IsStrictlyIncreasing channels
    → AllByRecursion (λ channel. channel ≤ 63) channels → BeginsFrom least channels
    → first_failing (channel_checks at least channels) ≡ None
passing at least [] up small begins = refl
passing at least (a ∷ channels) up small begins =
    keeps (is_in_range least 63 a) at (channel_checks (at + 1) (a + 1) channels) (in_bounds least 63 a begins small.0)
    (passing (at + 1) (a + 1) channels (rest_ascends a channels up) small.1 (rest_begins a channels up))

begins_anywhere : (channels : List ℕ) → BeginsFrom 0 channels
begins_anywhere [] = tt
begins_anywhere (a ∷ channels) = omega arith

pub channels_pass : (at : ℕ) (channels : List ℕ) → IsStrictlyIncreasing channels
    → AllByRecursion (λ channel. channel ≤ 63) channels
    → first_failing (channel_checks at 0 channels) ≡ None
channels_pass at channels up small = passing at 0 channels up small (begins_anywhere channels)
