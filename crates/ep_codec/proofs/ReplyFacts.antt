-- A reply is found where its octets have no fault.
use Rattle.std.proofs.Common.{◌≡◌, ℕ, zero, suc, ◌+◌, ◌-◌, ◌*◌, ◌%◌, ◌^◌, ◌<◌, true, false, cond, List, [], ◌∷◌, ◌++◌}
use Rattle.std.proofs.Common.{length, drop, Option, Some, None, refl, sym, ap, subst, ◌∙◌, arith, inl, inr}
use Rattle.std.specs.Prelude.{not, ◌&&◌, ◌==◌, IsTrue, IfSome, slice_range, unwrap_or}
use Rattle.std.specs.Int.{w16, w32, w64, to_be_bytes, is_in_range}
use Rattle.std.proofs.lemmas.Bool.{and_parts, or_cases, eqb-true, eqb-false, ne_eqb, cond-false}
use Rattle.std.proofs.lemmas.List.{length-drop, drop_all}
use Rattle.sdls_base.specs.KeyId.{class_of}
use Rattle.ep_codec.specs.declared.procedure.PduType.TheVariants as types
use Rattle.ep_codec.specs.declared.procedure.Procedure.{Procedure}
use Rattle.ep_codec.specs.declared.procedure.Procedure.TheVariants as procedures
use Rattle.ep_codec.specs.declared.reply_pdu.ReplyPdu.TheVariants.{VerifyGcm, VerifyCmac}
use Rattle.sdls_base.specs.FirstFailing.{first_failing}
use Rattle.ep_codec.specs.Command.{message}
use Rattle.ep_codec.specs.ReplyPdu.{reply_octets, IsInBounds, HasTypes, IsReplyPdu}
use Rattle.ep_codec.specs.ReplyReading.{reply_at}
use Rattle.sdls_base.specs.Code.{sa_state_code, sa_state_of, direction_code, suite_code, direction_of, suite_of}
use Rattle.sdls_base.specs.Places.{octet_at, word_at, double_word_at, number_at}
use Rattle.ep_codec.specs.Field.{is_key, is_spi, is_window, seals, optional_key, key_check, window_check, code_check}
use Rattle.ep_codec.specs.Field.{sealing_key_check, mac_key_check, inner_length_check}
use Rattle.ep_codec.specs.MessageFault.{procedure_in, header_checks, reply_checks}
use Rattle.ep_codec.specs.Procedure.{tag_of}
use Rattle.ep_codec.proofs.Faults.{others_passed}
use Rattle.sdls_base.proofs.PlaceFacts.{AreOctets, octet_field, word_field, double_word_field, word_small}
use Rattle.sdls_base.proofs.PlaceFacts.{double_word_small, number_small, octets_drop}
use Rattle.ep_codec.proofs.FieldFacts.{window_found, low_bound, high_bound, in_bounds, kept, range_field, range_length}
use Rattle.ep_codec.proofs.FieldFacts.{number_end, range_end}
use Rattle.ep_codec.proofs.HeaderFacts.{Framed, header_passed}
use Rattle.ep_codec.proofs.CommandFacts.{whole_length, spi_found, key_found, spi_number_spelled, sealed_spelled}
use Rattle.ep_codec.proofs.CommandFacts.{tag_length, sealed_length, direction_spelled, suite_spelled}
use Rattle.ep_codec.proofs.ListFacts.{rows_spelled, rows_count, rows_are}

pub sa_state_spelled : (n : ℕ) → is_in_range 1 3 n ≡ true → sa_state_code (sa_state_of n) ≡ n
sa_state_spelled zero is = absurd (omega (arith, low_bound 1 3 0 is))
sa_state_spelled (suc zero) is = refl
sa_state_spelled (suc (suc zero)) is = refl
sa_state_spelled (suc (suc (suc zero))) is = refl
sa_state_spelled (suc (suc (suc (suc n)))) is = absurd (omega (arith, high_bound 1 3 (suc (suc (suc (suc n)))) is))

pub optional_some : (n : ℕ) → optional_key (suc n) ≡ Some (suc n)
optional_some n = cond-false (suc n == 0) None (Some (suc n)) (ne_eqb (suc n) 0 (λ e. omega (arith, e)))

-- the number of a key that may be absent
pub optional_spelled : (n : ℕ) → unwrap_or (optional_key n) 0 ≡ n
optional_spelled zero = refl
optional_spelled (suc n) = ap (λ (o : Option ℕ). unwrap_or o 0) (optional_some n)

pub optional_found : (n : ℕ) → n < 2 ^ 16 → IfSome (optional_key n) (λ key. IsTrue (is_key key))
optional_found zero small = tt
optional_found (suc n) small =
    subst (λ (o : Option ℕ). IfSome o (λ key. IsTrue (is_key key))) (sym (optional_some n))
    (in_bounds 1 65535 (suc n) (omega arith) (omega arith))

spelled_by : (octets : List ℕ) (p : Procedure) (body : List ℕ) → Framed types.Reply p octets → drop 3 octets ≡ body
    → octets ≡ message (128 + tag_of p) body
spelled_by octets p body framed e = framed.spelled ∙ ap (λ (s : List ℕ). message (128 + tag_of p) s) e

-- a reply that carries nothing
nothing_spelled : (octets : List ℕ) (p : Procedure) → Framed types.Reply p octets → (length octets - 3 == 0) ≡ true
    → octets ≡ message (128 + tag_of p) []
nothing_spelled octets p framed fits =
    spelled_by octets p [] framed (drop_all 3 octets (omega (arith, whole_length (length octets) 0 framed.room fits)))

-- a Verify reply, by its length
gcm_found : (octets : List ℕ) → AreOctets octets → Framed types.Reply procedures.Verify octets → length octets ≡ 49
    → first_failing (sealing_key_check 3 octets ∷ []) ≡ None
    → IsReplyPdu (VerifyGcm (word_at 3 octets) (slice_range octets 5 17) (slice_range octets 17 33)
    (slice_range octets 33 49)) octets
unfolding reply_octets HasTypes IsInBounds
gcm_found octets are framed n none =
    let both = and_parts (is_key (word_at 3 octets)) (seals (class_of (word_at 3 octets)))
    (kept (is_key (word_at 3 octets) && seals (class_of (word_at 3 octets))) 3 [] none) in
    record {
      types = (
        both.0,
        range_length octets 5 17 (omega arith) (omega arith),
        range_length octets 17 33 (omega arith) (omega arith),
        range_length octets 33 49 (omega arith) (omega arith),
      );
      bounds = both.1;
      spelled = spelled_by octets procedures.Verify _ framed
          (word_field 3 octets are (omega arith) ∙ ap (λ (s : List ℕ). to_be_bytes w16 (word_at 3 octets) ++ s)
          (range_field octets 5 17 (omega arith) ∙ ap (λ (s : List ℕ). slice_range octets 5 17 ++ s)
          (range_field octets 17 33 (omega arith) ∙ ap (λ (s : List ℕ). slice_range octets 17 33 ++ s)
          (range_end octets 33 49 (omega arith) (omega arith)))));
    }

cmac_found : (octets : List ℕ) → AreOctets octets → Framed types.Reply procedures.Verify octets → length octets ≡ 25
    → first_failing (mac_key_check 3 octets ∷ []) ≡ None
    → IsReplyPdu (VerifyCmac (word_at 3 octets) (double_word_at 5 octets) (slice_range octets 9 25)) octets
unfolding reply_octets HasTypes IsInBounds
cmac_found octets are framed n none =
    let both = and_parts (is_key (word_at 3 octets)) (not (seals (class_of (word_at 3 octets))))
    (kept (is_key (word_at 3 octets) && not (seals (class_of (word_at 3 octets)))) 3 [] none) in
    record {
      types = (both.0, double_word_small 5 octets are, range_length octets 9 25 (omega arith) (omega arith));
      bounds = both.1;
      spelled = spelled_by octets procedures.Verify _ framed
          (word_field 3 octets are (omega arith) ∙ ap (λ (s : List ℕ). to_be_bytes w16 (word_at 3 octets) ++ s)
          (double_word_field 5 octets are (omega arith)
          ∙ ap (λ (s : List ℕ). to_be_bytes w32 (double_word_at 5 octets) ++ s)
          (range_end octets 9 25 (omega arith) (omega arith))));
    }

verify_found : (octets : List ℕ) → AreOctets octets → Framed types.Reply procedures.Verify octets
    → first_failing (reply_checks procedures.Verify octets) ≡ None
    → IsReplyPdu (reply_at procedures.Verify octets) octets
unfolding reply_checks reply_at
verify_found octets are framed none =
    let n = length octets in
    let gcm = VerifyGcm (word_at 3 octets) (slice_range octets 5 17) (slice_range octets 17 33)
    (slice_range octets 33 49) in
    let cmac = VerifyCmac (word_at 3 octets) (double_word_at 5 octets) (slice_range octets 9 25) in
    elim (n == 49) as (λ b. (n == 49) ≡ b
    → first_failing (cond b (sealing_key_check 3 octets) (mac_key_check 3 octets) ∷ []) ≡ None
    → IsReplyPdu (cond b gcm cmac) octets) [
      | true ↦ λ e f. gcm_found octets are framed (eqb-true n 49 e) f
      | false ↦ λ e f. (let size : n ≡ 25 = elim (or_cases (n - 3 == 46) (n - 3 == 22) framed.fits) [
        | inl h ↦ absurd (eqb-false n 49 e (omega (arith, whole_length n 46 framed.room h)))
        | inr h ↦ whole_length n 22 framed.room h
      ] in cmac_found octets are framed size f)
    ] refl none

inventory_found : (octets : List ℕ) → AreOctets octets → Framed types.Reply procedures.Inventory octets
    → first_failing (reply_checks procedures.Inventory octets) ≡ None
    → IsReplyPdu (reply_at procedures.Inventory octets) octets
unfolding reply_checks reply_at reply_octets HasTypes IsInBounds
inventory_found octets are framed none =
    let both = and_parts (is_in_range 2 770 (length octets - 3)) ((length octets - 3) % 3 == 2) framed.fits in
    let low = low_bound 2 770 (length octets - 3) both.0 in
    let high = high_bound 2 770 (length octets - 3) both.0 in
    let thirds = eqb-true ((length octets - 3) % 3) 2 both.1 in
    let room = framed.room in
    let n = length-drop 5 octets in
    let whole : length (drop 5 octets) % 3 ≡ 0 = omega arith in
    let count = rows_count (drop 5 octets) whole in
    record {
      types = (word_small 3 octets are, rows_are 5 (drop 5 octets) none);
      bounds = omega arith;
      spelled = spelled_by octets procedures.Inventory _ framed
          (word_field 3 octets are (omega arith) ∙ ap (λ (s : List ℕ). to_be_bytes w16 (word_at 3 octets) ++ s)
          (sym (rows_spelled 5 (drop 5 octets) (octets_drop 5 octets are) whole none)));
    }

compose_found : (octets : List ℕ) → AreOctets octets → Framed types.Reply procedures.Compose octets
    → first_failing (reply_checks procedures.Compose octets) ≡ None
    → IsReplyPdu (reply_at procedures.Compose octets) octets
unfolding reply_checks reply_at reply_octets HasTypes IsInBounds
compose_found octets are framed none =
    let low = low_bound 52 313 (length octets - 3) framed.fits in
    let high = high_bound 52 313 (length octets - 3) framed.fits in
    let room = framed.room in
    let n1 = others_passed (not (octet_at 3 octets == 1)) 3 (inner_length_check 4 octets ∷ key_check 6 octets ∷ [])
    none in
    let n2 = others_passed (not (word_at 4 octets == 8 * (length octets - 6))) 4 (key_check 6 octets ∷ []) n1 in
    let inner_tag =
    eqb-true (octet_at 3 octets) 1
    (kept (octet_at 3 octets == 1) 3 (inner_length_check 4 octets ∷ key_check 6 octets ∷ []) none) in
    let inner_length = eqb-true (word_at 4 octets) (8 * (length octets - 6))
    (kept (word_at 4 octets == 8 * (length octets - 6)) 4 (key_check 6 octets ∷ []) n1) in
    let same : word_at 4 octets ≡ 8 * length (drop 6 octets) =
    inner_length ∙ ap (λ (k : ℕ). 8 * k) (sym (length-drop 6 octets)) in
    let inner : drop 3 octets ≡ message 1 (drop 6 octets) =
    octet_field 3 octets (omega arith) ∙ ap (λ (s : List ℕ). octet_at 3 octets ∷ s)
    (word_field 4 octets are (omega arith))
    ∙ ap (λ (t : ℕ). (t ∷ to_be_bytes w16 (word_at 4 octets)) ++ drop 6 octets) inner_tag
    ∙ ap (λ (k : ℕ). (1 ∷ to_be_bytes w16 k) ++ drop 6 octets) same in
    record {
      types = (
        key_found 6 octets [] n2,
        range_length octets 8 20 (omega arith) (omega arith),
        tag_length octets (omega arith),
      );
      bounds = sealed_length 6 octets (omega arith) (omega arith);
      spelled = spelled_by octets procedures.Compose _ framed
          (inner ∙ ap (λ (s : List ℕ). message 1 s) (sealed_spelled 6 octets are (omega arith)));
    }

status_found : (octets : List ℕ) → AreOctets octets → Framed types.Reply procedures.Status octets
    → first_failing (reply_checks procedures.Status octets) ≡ None
    → IsReplyPdu (reply_at procedures.Status octets) octets
unfolding reply_checks reply_at reply_octets HasTypes IsInBounds
status_found octets are framed none =
    let n = whole_length (length octets) 15 framed.room framed.fits in
    let c4 = window_check 10 octets ∷ [] in
    let c3 = code_check 2 7 octets ∷ c4 in
    let c2 = code_check 2 6 octets ∷ c3 in
    let c1 = code_check 3 5 octets ∷ c2 in
    let n1 = others_passed (not (is_spi (word_at 3 octets))) 3 c1 none in
    let n2 = others_passed (not (is_in_range 1 3 (octet_at 5 octets))) 5 c2 n1 in
    let n3 = others_passed (not (is_in_range 1 2 (octet_at 6 octets))) 6 c3 n2 in
    let n4 = others_passed (not (is_in_range 1 2 (octet_at 7 octets))) 7 c4 n3 in
    let a = sa_state_spelled (octet_at 5 octets) (kept (is_in_range 1 3 (octet_at 5 octets)) 5 c2 n1) in
    let d = direction_spelled (octet_at 6 octets) (kept (is_in_range 1 2 (octet_at 6 octets)) 6 c3 n2) in
    let s = suite_spelled (octet_at 7 octets) (kept (is_in_range 1 2 (octet_at 7 octets)) 7 c4 n3) in
    let k = optional_spelled (word_at 8 octets) in
    let rest : drop 8 octets ≡ to_be_bytes w16 (word_at 8 octets) ++ to_be_bytes w64 (number_at 10 octets) =
    word_field 8 octets are (omega arith) ∙ ap (λ (l : List ℕ). to_be_bytes w16 (word_at 8 octets) ++ l)
    (number_end 10 octets are (omega arith)) in
    let body : drop 3 octets ≡ to_be_bytes w16 (word_at 3 octets) ++ octet_at 5 octets ∷ octet_at 6 octets
    ∷ octet_at 7 octets ∷ (to_be_bytes w16 (word_at 8 octets) ++ to_be_bytes w64 (number_at 10 octets)) =
    word_field 3 octets are (omega arith) ∙ ap (λ (l : List ℕ). to_be_bytes w16 (word_at 3 octets) ++ l)
    (octet_field 5 octets (omega arith) ∙ ap (λ (l : List ℕ). octet_at 5 octets ∷ l)
    (octet_field 6 octets (omega arith) ∙ ap (λ (l : List ℕ). octet_at 6 octets ∷ l)
    (octet_field 7 octets (omega arith) ∙ ap (λ (l : List ℕ). octet_at 7 octets ∷ l) rest))) in
    let named : to_be_bytes w16 (word_at 3 octets) ++ octet_at 5 octets ∷ octet_at 6 octets ∷ octet_at 7 octets
    ∷ (to_be_bytes w16 (word_at 8 octets) ++ to_be_bytes w64 (number_at 10 octets))
    ≡ to_be_bytes w16 (word_at 3 octets) ++ sa_state_code (sa_state_of (octet_at 5 octets))
    ∷ direction_code (direction_of (octet_at 6 octets)) ∷ suite_code (suite_of (octet_at 7 octets))
    ∷ (to_be_bytes w16 (unwrap_or (optional_key (word_at 8 octets)) 0) ++ to_be_bytes w64 (number_at 10 octets)) =
    λ i. to_be_bytes w16 (word_at 3 octets) ++ sym a i ∷ sym d i ∷ sym s i
    ∷ (to_be_bytes w16 (sym k i) ++ to_be_bytes w64 (number_at 10 octets)) in
    record {
      types = (spi_found octets c1 none, optional_found (word_at 8 octets) (word_small 8 octets are));
      bounds = window_found (number_at 10 octets) (kept (is_window (number_at 10 octets)) 10 [] n4);
      spelled = spelled_by octets procedures.Status _ framed (body ∙ named);
    }

fields_found : (octets : List ℕ) (p : Procedure) → AreOctets octets → Framed types.Reply p octets
    → first_failing (reply_checks p octets) ≡ None → IsReplyPdu (reply_at p octets) octets
unfolding reply_checks reply_at reply_octets HasTypes IsInBounds
fields_found octets procedures.Rekeying are framed none =
    record { types = tt; bounds = tt; spelled = nothing_spelled octets procedures.Rekeying framed framed.fits }
fields_found octets procedures.Activate are framed none =
    record { types = tt; bounds = tt; spelled = nothing_spelled octets procedures.Activate framed framed.fits }
fields_found octets procedures.Deactivate are framed none =
    record { types = tt; bounds = tt; spelled = nothing_spelled octets procedures.Deactivate framed framed.fits }
fields_found octets procedures.Verify are framed none = verify_found octets are framed none
fields_found octets procedures.Destroy are framed none =
    record { types = tt; bounds = tt; spelled = nothing_spelled octets procedures.Destroy framed framed.fits }
fields_found octets procedures.Inventory are framed none = inventory_found octets are framed none
fields_found octets procedures.Compose are framed none = compose_found octets are framed none
fields_found octets procedures.ReadNumber are framed none =
    let n = whole_length (length octets) 10 framed.room framed.fits in
    record {
      types = (spi_found octets [] none, number_small 5 octets are);
      bounds = tt;
      spelled = spelled_by octets procedures.ReadNumber _ framed (spi_number_spelled octets are n);
    }
fields_found octets procedures.Create are framed none =
    record { types = tt; bounds = tt; spelled = nothing_spelled octets procedures.Create framed framed.fits }
fields_found octets procedures.Delete are framed none =
    record { types = tt; bounds = tt; spelled = nothing_spelled octets procedures.Delete framed framed.fits }
fields_found octets procedures.SetWindow are framed none =
    record { types = tt; bounds = tt; spelled = nothing_spelled octets procedures.SetWindow framed framed.fits }
fields_found octets procedures.Rekey are framed none =
    record { types = tt; bounds = tt; spelled = nothing_spelled octets procedures.Rekey framed framed.fits }
fields_found octets procedures.Expire are framed none =
    record { types = tt; bounds = tt; spelled = nothing_spelled octets procedures.Expire framed framed.fits }
fields_found octets procedures.SetNumber are framed none =
    record { types = tt; bounds = tt; spelled = nothing_spelled octets procedures.SetNumber framed framed.fits }
fields_found octets procedures.Start are framed none =
    record { types = tt; bounds = tt; spelled = nothing_spelled octets procedures.Start framed framed.fits }
fields_found octets procedures.Stop are framed none =
    record { types = tt; bounds = tt; spelled = nothing_spelled octets procedures.Stop framed framed.fits }
fields_found octets procedures.Status are framed none = status_found octets are framed none

pub reply_found : (octets : List ℕ) (p : Procedure) → AreOctets octets
    → first_failing (header_checks types.Reply octets) ≡ None
    → procedure_in types.Reply octets ≡ Some p → first_failing (reply_checks p octets) ≡ None
    → IsReplyPdu (reply_at p octets) octets
reply_found octets p are header found none =
    fields_found octets p are (header_passed types.Reply octets p are header found) none
