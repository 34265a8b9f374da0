-- A command is found where its octets have no fault, and what was written is read again.
use Rattle.std.proofs.Common.{◌≡◌, ℕ, zero, suc, ◌+◌, ◌-◌, ◌%◌, ◌≤◌, true, List, [], ◌∷◌, ◌++◌, length, drop, Some}
use Rattle.std.proofs.Common.{None, refl, sym, ap, ◌∙◌, arith}
use Rattle.std.specs.Prelude.{not, ◌&&◌, ◌==◌, IsTrue, slice_range}
use Rattle.std.specs.List.{AllByRecursion}
use Rattle.std.specs.Int.{w16, w64, to_be_bytes, is_in_range}
use Rattle.std.proofs.lemmas.Bool.{and_parts, eqb-true}
use Rattle.std.proofs.lemmas.List.{length-drop}
use Rattle.sdls_base.specs.declared.states.Direction.{Direction}
use Rattle.sdls_base.specs.declared.states.Direction.TheVariants.{Send, Receive}
use Rattle.sdls_base.specs.declared.states.Suite.{Suite}
use Rattle.sdls_base.specs.declared.states.Suite.TheVariants.{Cmac, Gcm}
use Rattle.ep_codec.specs.declared.procedure.PduType.TheVariants as types
use Rattle.ep_codec.specs.declared.procedure.Procedure.{Procedure}
use Rattle.ep_codec.specs.declared.procedure.Procedure.TheVariants as procedures
use Rattle.sdls_base.specs.FirstFailing.{Check, first_failing}
use Rattle.sdls_base.specs.Bounds.{IsKeyCount}
use Rattle.sdls_base.specs.Spelling.{association_octets}
use Rattle.ep_codec.specs.Command.{message, sealed_data, keys_data, command_octets, IsInBounds, HasTypes, IsCommandPdu}
use Rattle.ep_codec.specs.CommandReading.{command_at}
use Rattle.sdls_base.specs.Code.{direction_code, suite_code, direction_of, suite_of}
use Rattle.sdls_base.specs.Places.{octet_at, word_at, number_at}
use Rattle.ep_codec.specs.Field.{is_key, is_spi, is_window, key_check, spi_check, window_check, code_check, count_check}
use Rattle.ep_codec.specs.FieldList.{keys_in, key_checks, channel_checks}
use Rattle.ep_codec.specs.MessageFault.{procedure_in, header_checks, command_checks}
use Rattle.ep_codec.specs.Procedure.{tag_of}
use Rattle.ep_codec.proofs.Faults.{others_passed}
use Rattle.sdls_base.proofs.PlaceFacts.{AreOctets, octet_field, word_field, number_field, word_small, number_small}
use Rattle.sdls_base.proofs.PlaceFacts.{octets_drop}
use Rattle.ep_codec.proofs.FieldFacts.{window_found, low_bound, high_bound, in_bounds, kept, range_field, range_length}
use Rattle.ep_codec.proofs.FieldFacts.{word_end, number_end, range_end}
use Rattle.ep_codec.proofs.HeaderFacts.{Framed, header_passed}
use Rattle.ep_codec.proofs.ListFacts.{keys_spelled, keys_count, keys_are, channels_small, channels_ascend}

-- ---- the shapes of data, found in octets without fault

-- the length of the whole message, by that of its data
pub whole_length : (n m : ℕ) → 3 ≤ n → (n - 3 == m) ≡ true → n ≡ m + 3
whole_length n m room e = omega (arith, eqb-true (n - 3) m e)

pub spi_found : (octets : List ℕ) (checks : List (Check ℕ)) → first_failing (spi_check 3 octets ∷ checks) ≡ None
    → IsTrue (is_spi (word_at 3 octets))
spi_found octets checks none = kept (is_spi (word_at 3 octets)) 3 checks none

pub key_found : (at : ℕ) (octets : List ℕ) (checks : List (Check ℕ))
    → first_failing (key_check at octets ∷ checks) ≡ None → IsTrue (is_key (word_at at octets))
key_found at octets checks none = kept (is_key (word_at at octets)) at checks none

-- an association's index, and a number
pub spi_number_spelled : (octets : List ℕ) → AreOctets octets → length octets ≡ 13
    → drop 3 octets ≡ to_be_bytes w16 (word_at 3 octets) ++ to_be_bytes w64 (number_at 5 octets)
spi_number_spelled octets are n =
    word_field 3 octets are (omega arith) ∙ ap (λ (s : List ℕ). to_be_bytes w16 (word_at 3 octets) ++ s)
    (number_end 5 octets are (omega arith))

-- a key, a vector, sealed octets and a tag, from a place on
pub sealed_spelled : (at : ℕ) (octets : List ℕ) → AreOctets octets → at + 49 ≤ length octets
    → drop at octets ≡ sealed_data (word_at at octets) (slice_range octets (at + 2) (at + 14))
    (slice_range octets (at + 14) (length octets - 16)) (slice_range octets (length octets - 16) (length octets))
sealed_spelled at octets are room =
    let last = range_end octets (length octets - 16) (length octets) (omega arith) refl in
    let middle = range_field octets (at + 14) (length octets - 16) (omega arith) in
    let vector = range_field octets (at + 2) (at + 14) (omega arith) in
    word_field at octets are (omega arith)
    ∙ ap (λ (s : List ℕ). to_be_bytes w16 (word_at at octets) ++ s) (vector
    ∙ ap (λ (s : List ℕ). slice_range octets (at + 2) (at + 14) ++ s) (middle
    ∙ ap (λ (s : List ℕ). slice_range octets (at + 14) (length octets - 16) ++ s) last))

pub tag_length : (octets : List ℕ) → 16 ≤ length octets
    → length (slice_range octets (length octets - 16) (length octets)) ≡ 16
tag_length octets h =
    omega (arith, range_length octets (length octets - 16) (length octets) (omega arith) (omega arith))

pub sealed_length : (at : ℕ) (octets : List ℕ) → at + 49 ≤ length octets → length octets ≤ at + 310
    → is_in_range 19 280 (length (slice_range octets (at + 14) (length octets - 16))) ≡ true
sealed_length at octets low high =
    let n = range_length octets (at + 14) (length octets - 16) (omega arith) (omega arith) in
    in_bounds 19 280 (length (slice_range octets (at + 14) (length octets - 16))) (omega arith) (omega arith)

-- 1 to 8 keys to the end
pub record KeysFound (keys octets : List ℕ) : Type 0 where
  pub are : AllByRecursion (λ key. IsTrue (is_key key)) keys
  pub count : IsKeyCount (length keys)
  pub spelled : octets ≡ keys_data keys

pub keys_found : (at : ℕ) (octets : List ℕ) → AreOctets octets → 2 ≤ length octets → length octets ≤ 16
    → length octets % 2 ≡ 0
    → first_failing (key_checks at octets) ≡ None → KeysFound (keys_in octets) octets
keys_found at octets are low high even none =
    let n = keys_count octets even in
    record {
      are = keys_are at octets none;
      count = record { least = omega arith; most = omega arith };
      spelled = sym (keys_spelled octets are even);
    }

-- what a list of keys alone needs of the length
pub keys_alone : (octets : List ℕ) → AreOctets octets → 3 ≤ length octets
    → (is_in_range 2 16 (length octets - 3) && (length octets - 3) % 2 == 0) ≡ true
    → first_failing (key_checks 3 (drop 3 octets)) ≡ None → KeysFound (keys_in (drop 3 octets)) (drop 3 octets)
keys_alone octets are room fits none =
    let both = and_parts (is_in_range 2 16 (length octets - 3)) ((length octets - 3) % 2 == 0) fits in
    let n = length-drop 3 octets in
    let even = eqb-true ((length octets - 3) % 2) 0 both.1 in
    keys_found 3 (drop 3 octets) (octets_drop 3 octets are) (omega (arith, low_bound 2 16 (length octets - 3) both.0))
    (omega (arith, high_bound 2 16 (length octets - 3) both.0)) (ap (λ (k : ℕ). k % 2) n ∙ even) none

-- ---- the numbers of a direction and a suite

pub direction_spelled : (n : ℕ) → is_in_range 1 2 n ≡ true → direction_code (direction_of n) ≡ n
direction_spelled zero is = absurd (omega (arith, low_bound 1 2 0 is))
direction_spelled (suc zero) is = refl
direction_spelled (suc (suc zero)) is = refl
direction_spelled (suc (suc (suc n))) is = absurd (omega (arith, high_bound 1 2 (suc (suc (suc n))) is))

pub suite_spelled : (n : ℕ) → is_in_range 1 2 n ≡ true → suite_code (suite_of n) ≡ n
suite_spelled zero is = absurd (omega (arith, low_bound 1 2 0 is))
suite_spelled (suc zero) is = refl
suite_spelled (suc (suc zero)) is = refl
suite_spelled (suc (suc (suc n))) is = absurd (omega (arith, high_bound 1 2 (suc (suc (suc n))) is))

pub direction_in : (d : Direction) → is_in_range 1 2 (direction_code d) ≡ true
direction_in Send = refl
direction_in Receive = refl

pub suite_in : (s : Suite) → is_in_range 1 2 (suite_code s) ≡ true
suite_in Cmac = refl
suite_in Gcm = refl

-- ---- a command of octets without fault

-- the octets of a procedure's data, and what they spell
spelled_by : (octets : List ℕ) (p : Procedure) (body : List ℕ) → Framed types.Command p octets → drop 3 octets ≡ body
    → octets ≡ message (tag_of p) body
spelled_by octets p body framed e = framed.spelled ∙ ap (λ (s : List ℕ). message (tag_of p) s) e

association_found : (octets : List ℕ) → AreOctets octets → Framed types.Command procedures.Create octets
    → first_failing (command_checks procedures.Create octets) ≡ None
    → IsCommandPdu (command_at procedures.Create octets) octets
unfolding command_checks command_at command_octets HasTypes IsInBounds
association_found octets are framed none =
    let n1 = others_passed (not (is_spi (word_at 3 octets))) 3
    (code_check 2 5 octets ∷ code_check 2 6 octets ∷ window_check 7 octets ∷ count_check 15 octets
    ∷ channel_checks 16 0 (drop 16 octets)) none in
    let n2 = others_passed (not (is_in_range 1 2 (octet_at 5 octets))) 5
    (code_check 2 6 octets ∷ window_check 7 octets ∷ count_check 15 octets ∷ channel_checks 16 0 (drop 16 octets))
    n1 in
    let n3 = others_passed (not (is_in_range 1 2 (octet_at 6 octets))) 6
    (window_check 7 octets ∷ count_check 15 octets ∷ channel_checks 16 0 (drop 16 octets)) n2 in
    let n4 = others_passed (not (is_window (number_at 7 octets))) 7
    (count_check 15 octets ∷ channel_checks 16 0 (drop 16 octets)) n3 in
    let n5 = others_passed (not (octet_at 15 octets == length octets - 16)) 15 (channel_checks 16 0 (drop 16 octets))
    n4 in
    let d = direction_spelled (octet_at 5 octets)
    (kept (is_in_range 1 2 (octet_at 5 octets)) 5
    (code_check 2 6 octets ∷ window_check 7 octets ∷ count_check 15 octets ∷ channel_checks 16 0 (drop 16 octets))
    n1) in
    let s = suite_spelled (octet_at 6 octets)
    (kept (is_in_range 1 2 (octet_at 6 octets)) 6
    (window_check 7 octets ∷ count_check 15 octets ∷ channel_checks 16 0 (drop 16 octets)) n2) in
    let w = kept (is_window (number_at 7 octets)) 7 (count_check 15 octets ∷ channel_checks 16 0 (drop 16 octets)) n3 in
    let count : octet_at 15 octets ≡ length (drop 16 octets) =
    eqb-true (octet_at 15 octets) (length octets - 16)
    (kept (octet_at 15 octets == length octets - 16) 15 (channel_checks 16 0 (drop 16 octets)) n4)
    ∙ sym (length-drop 16 octets) in
    let low = low_bound 14 21 (length octets - 3) framed.fits in
    let high = high_bound 14 21 (length octets - 3) framed.fits in
    let room = framed.room in
    let f3 = word_field 3 octets are (omega arith) in
    let f5 = octet_field 5 octets (omega arith) in
    let f6 = octet_field 6 octets (omega arith) in
    let f7 = number_field 7 octets are (omega arith) in
    let f15 = octet_field 15 octets (omega arith) in
    let body : drop 3 octets ≡ association_octets
    (record {
      spi = word_at 3 octets;
      direction = direction_of (octet_at 5 octets);
      suite = suite_of (octet_at 6 octets);
      window = number_at 7 octets;
      channels = drop 16 octets;
    }) =
    f3 ∙ ap (λ (l : List ℕ). to_be_bytes w16 (word_at 3 octets) ++ l)
    (f5 ∙ ap (λ (l : List ℕ). octet_at 5 octets ∷ l) (f6 ∙ ap (λ (l : List ℕ). octet_at 6 octets ∷ l) (f7
    ∙ ap (λ (l : List ℕ). to_be_bytes w64 (number_at 7 octets) ++ l) (f15 ∙ ap (λ (k : ℕ). k ∷ drop 16 octets) count))))
    ∙ ap (λ (k : ℕ). to_be_bytes w16 (word_at 3 octets) ++ k ∷ octet_at 6 octets
    ∷ (to_be_bytes w64 (number_at 7 octets) ++ length (drop 16 octets) ∷ drop 16 octets)) (sym d)
    ∙ ap (λ (k : ℕ). to_be_bytes w16 (word_at 3 octets) ++ direction_code (direction_of (octet_at 5 octets)) ∷ k
    ∷ (to_be_bytes w64 (number_at 7 octets) ++ length (drop 16 octets) ∷ drop 16 octets)) (sym s) in
    let n = length-drop 16 octets in
    record {
      types = spi_found octets (code_check 2 5 octets ∷ code_check 2 6 octets ∷ window_check 7 octets
          ∷ count_check 15 octets ∷ channel_checks 16 0 (drop 16 octets)) none;
      bounds = (
        window_found (number_at 7 octets) w,
        record { one = omega arith; most = omega arith; ascending = channels_ascend 16 0 (drop 16 octets) n5 },
        channels_small 16 0 (drop 16 octets) n5,
      );
      spelled = spelled_by octets procedures.Create _ framed body;
    }

fields_found : (octets : List ℕ) (p : Procedure) → AreOctets octets → Framed types.Command p octets
    → first_failing (command_checks p octets) ≡ None → IsCommandPdu (command_at p octets) octets
unfolding command_checks command_at command_octets HasTypes IsInBounds
fields_found octets procedures.Rekeying are framed none =
    let low = low_bound 49 310 (length octets - 3) framed.fits in
    let high = high_bound 49 310 (length octets - 3) framed.fits in
    let room = framed.room in
    record {
      types = (
        key_found 3 octets [] none,
        range_length octets 5 17 (omega arith) (omega arith),
        tag_length octets (omega arith),
      );
      bounds = sealed_length 3 octets (omega arith) (omega arith);
      spelled = spelled_by octets procedures.Rekeying _ framed (sealed_spelled 3 octets are (omega arith));
    }
fields_found octets procedures.Activate are framed none =
    let keys = keys_alone octets are framed.room framed.fits none in
    record {
      types = keys.are;
      bounds = keys.count;
      spelled =
          spelled_by octets procedures.Activate _ framed keys.spelled;
    }
fields_found octets procedures.Deactivate are framed none =
    let keys = keys_alone octets are framed.room framed.fits none in
    record {
      types = keys.are;
      bounds = keys.count;
      spelled =
          spelled_by octets procedures.Deactivate _ framed keys.spelled;
    }
fields_found octets procedures.Verify are framed none =
    let n = whole_length (length octets) 18 framed.room framed.fits in
    record {
      types = (key_found 3 octets [] none, range_length octets 5 21 (omega arith) (omega arith));
      bounds = tt;
      spelled = spelled_by octets procedures.Verify _ framed
          (word_field 3 octets are (omega arith) ∙ ap (λ (s : List ℕ). to_be_bytes w16 (word_at 3 octets) ++ s)
          (range_end octets 5 21 (omega arith) (omega arith)));
    }
fields_found octets procedures.Destroy are framed none =
    let keys = keys_alone octets are framed.room framed.fits none in
    record {
      types = keys.are;
      bounds = keys.count;
      spelled =
          spelled_by octets procedures.Destroy _ framed keys.spelled;
    }
fields_found octets procedures.Inventory are framed none =
    let n = whole_length (length octets) 4 framed.room framed.fits in
    record {
      types = (word_small 3 octets are, word_small 5 octets are);
      bounds = low_bound (word_at 3 octets) 65535 (word_at 5 octets)
          (kept (is_in_range (word_at 3 octets) 65535 (word_at 5 octets)) 5 [] none);
      spelled = spelled_by octets procedures.Inventory _ framed
          (word_field 3 octets are (omega arith) ∙ ap (λ (s : List ℕ). to_be_bytes w16 (word_at 3 octets) ++ s)
          (word_end 5 octets are (omega arith)));
    }
fields_found octets procedures.Compose are framed none =
    let both = and_parts (is_in_range 4 18 (length octets - 3)) ((length octets - 3) % 2 == 0) framed.fits in
    let low = low_bound 4 18 (length octets - 3) both.0 in
    let high = high_bound 4 18 (length octets - 3) both.0 in
    let even = eqb-true ((length octets - 3) % 2) 0 both.1 in
    let room = framed.room in
    let n = length-drop 5 octets in
    let keys = keys_found 5 (drop 5 octets) (octets_drop 5 octets are) (omega arith) (omega arith) (omega arith)
    (others_passed (not (is_key (word_at 3 octets))) 3 (key_checks 5 (drop 5 octets)) none) in
    record {
      types = (key_found 3 octets (key_checks 5 (drop 5 octets)) none, keys.are);
      bounds = keys.count;
      spelled = spelled_by octets procedures.Compose _ framed
          (word_field 3 octets are (omega arith) ∙ ap (λ (s : List ℕ). to_be_bytes w16 (word_at 3 octets) ++ s)
          keys.spelled);
    }
fields_found octets procedures.ReadNumber are framed none =
    let n = whole_length (length octets) 2 framed.room framed.fits in
    record {
      types = spi_found octets [] none;
      bounds = tt;
      spelled =
          spelled_by octets procedures.ReadNumber _ framed (word_end 3 octets are (omega arith));
    }
fields_found octets procedures.Create are framed none = association_found octets are framed none
fields_found octets procedures.Delete are framed none =
    let n = whole_length (length octets) 2 framed.room framed.fits in
    record {
      types = spi_found octets [] none;
      bounds = tt;
      spelled =
          spelled_by octets procedures.Delete _ framed (word_end 3 octets are (omega arith));
    }
fields_found octets procedures.SetWindow are framed none =
    let n = whole_length (length octets) 10 framed.room framed.fits in
    record {
      types = spi_found octets (window_check 5 octets ∷ []) none;
      bounds = window_found (number_at 5 octets)
          (kept (is_window (number_at 5 octets)) 5 []
          (others_passed (not (is_spi (word_at 3 octets))) 3 (window_check 5 octets ∷ []) none));
      spelled = spelled_by octets procedures.SetWindow _ framed (spi_number_spelled octets are n);
    }
fields_found octets procedures.Rekey are framed none =
    let n = whole_length (length octets) 12 framed.room framed.fits in
    record {
      types = (
        spi_found octets (key_check 5 octets ∷ []) none,
        key_found 5 octets [] (others_passed (not (is_spi (word_at 3 octets))) 3 (key_check 5 octets ∷ []) none),
        number_small 7 octets are,
      );
      bounds = tt;
      spelled = spelled_by octets procedures.Rekey _ framed
          (word_field 3 octets are (omega arith) ∙ ap (λ (s : List ℕ). to_be_bytes w16 (word_at 3 octets) ++ s)
          (word_field 5 octets are (omega arith) ∙ ap (λ (s : List ℕ). to_be_bytes w16 (word_at 5 octets) ++ s)
          (number_end 7 octets are (omega arith))));
    }
fields_found octets procedures.Expire are framed none =
    let n = whole_length (length octets) 2 framed.room framed.fits in
    record {
      types = spi_found octets [] none;
      bounds = tt;
      spelled =
          spelled_by octets procedures.Expire _ framed (word_end 3 octets are (omega arith));
    }
fields_found octets procedures.SetNumber are framed none =
    let n = whole_length (length octets) 10 framed.room framed.fits in
    record {
      types = (spi_found octets [] none, number_small 5 octets are);
      bounds = tt;
      spelled = spelled_by octets procedures.SetNumber _ framed (spi_number_spelled octets are n);
    }
fields_found octets procedures.Start are framed none =
    let n = whole_length (length octets) 2 framed.room framed.fits in
    record {
      types = spi_found octets [] none;
      bounds = tt;
      spelled =
          spelled_by octets procedures.Start _ framed (word_end 3 octets are (omega arith));
    }
fields_found octets procedures.Stop are framed none =
    let n = whole_length (length octets) 2 framed.room framed.fits in
    record {
      types = spi_found octets [] none;
      bounds = tt;
      spelled =
          spelled_by octets procedures.Stop _ framed (word_end 3 octets are (omega arith));
    }
fields_found octets procedures.Status are framed none =
    let n = whole_length (length octets) 2 framed.room framed.fits in
    record {
      types = spi_found octets [] none;
      bounds = tt;
      spelled =
          spelled_by octets procedures.Status _ framed (word_end 3 octets are (omega arith));
    }

pub command_found : (octets : List ℕ) (p : Procedure) → AreOctets octets
    → first_failing (header_checks types.Command octets) ≡ None
    → procedure_in types.Command octets ≡ Some p → first_failing (command_checks p octets) ≡ None
    → IsCommandPdu (command_at p octets) octets
command_found octets p are header found none =
    fields_found octets p are (header_passed types.Command octets p are header found) none
