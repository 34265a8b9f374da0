-- A reply that was written is read again.
use Rattle.std.proofs.Common.{◌≡◌, ℕ, zero, suc, ◌+◌, ◌-◌, ◌*◌, ◌%◌, ◌^◌, ◌<◌, true, false, List, [], ◌∷◌, ◌++◌, length}
use Rattle.std.proofs.Common.{take, Option, Some, None, refl, sym, ap, ◌∙◌, arith, length-append}
use Rattle.std.specs.Prelude.{not, ◌&&◌, ◌==◌, IsTrue, IfSome, slice_range, unwrap_or}
use Rattle.std.specs.List.{flat_map}
use Rattle.std.specs.Int.{w16, w32, w64, to_be_bytes, is_in_range}
use Rattle.std.proofs.lemmas.Bool.{and_from, or_left, or_right, eq-eqb, ne_eqb, cond-true, cond-false}
use Rattle.std.proofs.lemmas.List.{take_all}
use Rattle.std.proofs.lemmas.Nat.{from_be_bytes-to_be_bytes_2, from_be_bytes-to_be_bytes_4, from_be_bytes-to_be_bytes_8}
use Rattle.sdls_base.specs.declared.states.SaState.{SaState}
use Rattle.sdls_base.specs.declared.states.SaState.TheVariants.{Unkeyed, Keyed, Operational}
use Rattle.sdls_base.specs.KeyId.{class_of}
use Rattle.ep_codec.specs.declared.procedure.PduType.TheVariants as types
use Rattle.ep_codec.specs.declared.procedure.Procedure.{Procedure}
use Rattle.ep_codec.specs.declared.procedure.Procedure.TheVariants as procedures
use Rattle.ep_codec.specs.declared.reply_pdu.ReplyPdu.{ReplyPdu}
use Rattle.ep_codec.specs.declared.reply_pdu.ReplyPdu.TheVariants.{Rekeying, Activate, Deactivate, Destroy, Create}
use Rattle.ep_codec.specs.declared.reply_pdu.ReplyPdu.TheVariants.{Delete, SetWindow, Rekey, Expire, SetNumber, Start}
use Rattle.ep_codec.specs.declared.reply_pdu.ReplyPdu.TheVariants.{Stop, VerifyGcm, VerifyCmac, Inventory, Compose}
use Rattle.ep_codec.specs.declared.reply_pdu.ReplyPdu.TheVariants.{ReadNumber, Status}
use Rattle.sdls_base.specs.FirstFailing.{Check, first_failing}
use Rattle.sdls_base.proofs.Codes.{sa_state_again, direction_again, suite_again}
use Rattle.ep_codec.specs.Command.{message, sealed_data}
use Rattle.ep_codec.specs.ReplyPdu.{row_octets, reply_octets, IsInBounds, HasTypes, IsReplyPdu}
use Rattle.ep_codec.specs.ReplyReading.{reply_at, reply_procedure}
use Rattle.sdls_base.specs.Code.{sa_state_code, direction_code, suite_code}
use Rattle.sdls_base.specs.Places.{octet_at, word_at, double_word_at, number_at}
use Rattle.ep_codec.specs.Field.{is_key, is_window, seals, optional_key, key_check, window_check, code_check}
use Rattle.ep_codec.specs.Field.{sealing_key_check, mac_key_check, inner_length_check}
use Rattle.ep_codec.specs.MessageFault.{reply_checks}
use Rattle.ep_codec.specs.Procedure.{tag_of, has_reply_length}
use Rattle.ep_codec.proofs.FieldFacts.{low_bound, high_bound, in_bounds, keeps}
use Rattle.ep_codec.proofs.HeaderFacts.{Passes, header_again}
use Rattle.ep_codec.proofs.CommandFacts.{direction_in, suite_in}
use Rattle.replay_window.proofs.Fields.{field_small}
use Rattle.ep_codec.proofs.CommandAgain.{range_at, sealed_again, spi_again, key_passes, spi_small, key_small}
use Rattle.ep_codec.proofs.CommandAgain.{window_passes}
use Rattle.ep_codec.proofs.Lengths.{rows_length}
use Rattle.ep_codec.proofs.ListFacts.{rows_read_again, rows_pass}
use Rattle.ep_codec.proofs.ReplyFacts.{optional_some}

sa_state_in : (state : SaState) → is_in_range 1 3 (sa_state_code state) ≡ true
sa_state_in Unkeyed = refl
sa_state_in Keyed = refl
sa_state_in Operational = refl

-- a key that may be absent, by its number
abbrev number_of : Option ℕ → ℕ
number_of key = unwrap_or key 0

optional_small : (key : Option ℕ) → IfSome key (λ key. IsTrue (is_key key)) → number_of key < 2 ^ 16
optional_small None is = omega arith
optional_small (Some key) is = key_small key is

optional_again : (key : Option ℕ) → IfSome key (λ key. IsTrue (is_key key)) → optional_key (number_of key) ≡ key
optional_again None is = refl
optional_again (Some zero) is = absurd (omega (arith, low_bound 1 65535 0 is))
optional_again (Some (suc n)) is = optional_some n

-- the octets have no fault, and this value at their places
pub record ReadAgain (p : Procedure) (reply : ReplyPdu) (octets : List ℕ) : Type 0 where
  pub header : Passes types.Reply p octets
  pub fields : first_failing (reply_checks p octets) ≡ None
  pub value : reply_at p octets ≡ reply

nothing_header : (p : Procedure) → has_reply_length p 0 ≡ true → Passes types.Reply p (message (128 + tag_of p) [])
nothing_header p fits = header_again types.Reply p [] fits (omega arith)

gcm_again : (key : ℕ) (vector sealed tag : List ℕ) → HasTypes (VerifyGcm key vector sealed tag)
    → IsInBounds (VerifyGcm key vector sealed tag)
    → ReadAgain procedures.Verify (VerifyGcm key vector sealed tag) (reply_octets (VerifyGcm key vector sealed tag))
unfolding reply_checks reply_at reply_octets HasTypes IsInBounds
gcm_again key vector sealed tag is bounds =
    let body = sealed_data key vector sealed tag in
    let octets = message 0x84 body in
    let n : length body ≡ 46 =
    omega (arith, is.1, is.2, is.3, length-append vector (sealed ++ tag), length-append sealed tag) in
    let whole : (length octets == 49) ≡ true = eq-eqb (length octets) 49 (omega arith) in
    let e : word_at 3 octets ≡ key = from_be_bytes-to_be_bytes_2 key (key_small key is.0) in
    let f : slice_range octets 5 17 ≡ vector =
    range_at (take 5 octets) vector (sealed ++ tag) 5 17 refl (omega (arith, is.1)) in
    let parts = sealed_again (take 5 octets) vector sealed tag 5 refl is.1 is.3 in
    let m : length octets ≡ 49 = omega arith in
    let g : slice_range octets 17 33 ≡ sealed =
    ap (λ (k : ℕ). slice_range octets 17 (k - 16)) (sym m) ∙ parts.sealed_again in
    let h : slice_range octets 33 49 ≡ tag = ap (λ (k : ℕ). slice_range octets (k - 16) k) (sym m) ∙ parts.tag_again in
    let value : VerifyGcm (word_at 3 octets) (slice_range octets 5 17) (slice_range octets 17 33)
    (slice_range octets 33 49) ≡ VerifyGcm key vector sealed tag = cc in
    let kind : (is_key (word_at 3 octets) && seals (class_of (word_at 3 octets))) ≡ true =
    and_from (is_key (word_at 3 octets)) (seals (class_of (word_at 3 octets))) (ap is_key e ∙ is.0)
    (ap (λ (k : ℕ). seals (class_of k)) e ∙ bounds) in
    record {
      header = header_again types.Reply procedures.Verify body
          (or_left (length body == 46) (length body == 22) (eq-eqb (length body) 46 n)) (omega arith);
      fields = ap (λ (c : Check ℕ). first_failing (c ∷ []))
          (cond-true (length octets == 49) (sealing_key_check 3 octets) (mac_key_check 3 octets) whole)
          ∙ keeps (is_key (word_at 3 octets) && seals (class_of (word_at 3 octets))) 3 [] kind refl;
      value = cond-true (length octets == 49)
          (VerifyGcm (word_at 3 octets) (slice_range octets 5 17) (slice_range octets 17 33) (slice_range octets 33 49))
          (VerifyCmac (word_at 3 octets) (double_word_at 5 octets) (slice_range octets 9 25)) whole ∙ value;
    }

cmac_again : (key number : ℕ) (mac : List ℕ) → HasTypes (VerifyCmac key number mac)
    → IsInBounds (VerifyCmac key number mac)
    → ReadAgain procedures.Verify (VerifyCmac key number mac) (reply_octets (VerifyCmac key number mac))
unfolding reply_checks reply_at reply_octets HasTypes IsInBounds
cmac_again key number mac is bounds =
    let body = to_be_bytes w16 key ++ (to_be_bytes w32 number ++ mac) in
    let octets = message 0x84 body in
    let n : length body ≡ 22 = omega (arith, is.2) in
    let other : (length octets == 49) ≡ false = ne_eqb (length octets) 49 (λ e. omega (arith, e)) in
    let e : word_at 3 octets ≡ key = from_be_bytes-to_be_bytes_2 key (key_small key is.0) in
    let f : double_word_at 5 octets ≡ number = from_be_bytes-to_be_bytes_4 number is.1 in
    let g : slice_range octets 9 25 ≡ mac = take_all 16 mac (omega (arith, is.2)) in
    let value : VerifyCmac (word_at 3 octets) (double_word_at 5 octets) (slice_range octets 9 25)
    ≡ VerifyCmac key number mac = cc in
    let kind : (is_key (word_at 3 octets) && not (seals (class_of (word_at 3 octets)))) ≡ true =
    and_from (is_key (word_at 3 octets)) (not (seals (class_of (word_at 3 octets)))) (ap is_key e ∙ is.0)
    (ap (λ (k : ℕ). not (seals (class_of k))) e ∙ bounds) in
    record {
      header = header_again types.Reply procedures.Verify body
          (or_right (length body == 46) (length body == 22) (eq-eqb (length body) 22 n)) (omega arith);
      fields = ap (λ (c : Check ℕ). first_failing (c ∷ []))
          (cond-false (length octets == 49) (sealing_key_check 3 octets) (mac_key_check 3 octets) other)
          ∙ keeps (is_key (word_at 3 octets) && not (seals (class_of (word_at 3 octets)))) 3 [] kind refl;
      value = cond-false (length octets == 49)
          (VerifyGcm (word_at 3 octets) (slice_range octets 5 17) (slice_range octets 17 33) (slice_range octets 33 49))
          (VerifyCmac (word_at 3 octets) (double_word_at 5 octets) (slice_range octets 9 25)) other ∙ value;
    }

compose_again : (master : ℕ) (vector sealed tag : List ℕ) → HasTypes (Compose master vector sealed tag)
    → IsInBounds (Compose master vector sealed tag)
    → ReadAgain procedures.Compose (Compose master vector sealed tag) (reply_octets (Compose master vector sealed tag))
unfolding reply_checks reply_at reply_octets HasTypes IsInBounds
compose_again master vector sealed tag is bounds =
    let inside = sealed_data master vector sealed tag in
    let body = message 1 inside in
    let octets = message 0x88 body in
    let low = low_bound 19 280 (length sealed) bounds in
    let high = high_bound 19 280 (length sealed) bounds in
    let n : length inside ≡ 2 + 12 + length sealed + 16 =
    omega (arith, is.1, is.2, length-append vector (sealed ++ tag), length-append sealed tag) in
    let inner : word_at 4 octets ≡ 8 * length inside = from_be_bytes-to_be_bytes_2 (8 * length inside) (omega arith) in
    let rest : length octets - 6 ≡ length inside = omega arith in
    let inner_length : (word_at 4 octets == 8 * (length octets - 6)) ≡ true =
    eq-eqb (word_at 4 octets) (8 * (length octets - 6)) (omega (arith, inner)) in
    let e : word_at 6 octets ≡ master = from_be_bytes-to_be_bytes_2 master (key_small master is.0) in
    let parts = sealed_again (take 8 octets) vector sealed tag 8 refl is.1 is.2 in
    let f = parts.vector_again in
    let g = parts.sealed_again in
    let h = parts.tag_again in
    record {
      header = header_again types.Reply procedures.Compose body
          (in_bounds 52 313 (length body) (omega arith) (omega arith)) (omega arith);
      fields = keeps (octet_at 3 octets == 1) 3 (inner_length_check 4 octets ∷ key_check 6 octets ∷ []) refl
          (keeps (word_at 4 octets == 8 * (length octets - 6)) 4 (key_check 6 octets ∷ []) inner_length
          (key_passes 6 master is.0 octets e [] refl));
      value = cc;
    }

again : (reply : ReplyPdu) → HasTypes reply → IsInBounds reply
    → ReadAgain (reply_procedure reply) reply (reply_octets reply)
unfolding reply_checks reply_at reply_octets HasTypes IsInBounds
again Rekeying is bounds = record { header = nothing_header procedures.Rekeying refl; fields = refl; value = refl }
again Activate is bounds = record { header = nothing_header procedures.Activate refl; fields = refl; value = refl }
again Deactivate is bounds = record { header = nothing_header procedures.Deactivate refl; fields = refl; value = refl }
again Destroy is bounds = record { header = nothing_header procedures.Destroy refl; fields = refl; value = refl }
again Create is bounds = record { header = nothing_header procedures.Create refl; fields = refl; value = refl }
again Delete is bounds = record { header = nothing_header procedures.Delete refl; fields = refl; value = refl }
again SetWindow is bounds = record { header = nothing_header procedures.SetWindow refl; fields = refl; value = refl }
again Rekey is bounds = record { header = nothing_header procedures.Rekey refl; fields = refl; value = refl }
again Expire is bounds = record { header = nothing_header procedures.Expire refl; fields = refl; value = refl }
again SetNumber is bounds = record { header = nothing_header procedures.SetNumber refl; fields = refl; value = refl }
again Start is bounds = record { header = nothing_header procedures.Start refl; fields = refl; value = refl }
again Stop is bounds = record { header = nothing_header procedures.Stop refl; fields = refl; value = refl }
again (VerifyGcm key vector sealed tag) is bounds = gcm_again key vector sealed tag is bounds
again (VerifyCmac key number mac) is bounds = cmac_again key number mac is bounds
again (Inventory total rows) is bounds =
    let body = to_be_bytes w16 total ++ flat_map row_octets rows in
    let octets = message 0x87 body in
    let n : length body ≡ 2 + 3 * length rows = omega (arith, rows_length rows) in
    let thirds : length body % 3 ≡ 2 = omega arith in
    let e : word_at 3 octets ≡ total = from_be_bytes-to_be_bytes_2 total is.0 in
    let f = rows_read_again rows is.1 in
    record {
      header = header_again types.Reply procedures.Inventory body
          (and_from (is_in_range 2 770 (length body)) (length body % 3 == 2)
          (in_bounds 2 770 (length body) (omega arith) (omega (arith, bounds))) (eq-eqb (length body % 3) 2 thirds))
          (omega (arith, bounds));
      fields = rows_pass 5 rows is.1;
      value = cc;
    }
again (Compose master vector sealed tag) is bounds = compose_again master vector sealed tag is bounds
again (ReadNumber spi number) is bounds =
    let body = to_be_bytes w16 spi ++ to_be_bytes w64 number in
    let octets = message 0x90 body in
    let e : word_at 3 octets ≡ spi = from_be_bytes-to_be_bytes_2 spi (spi_small spi is.0) in
    let f : number_at 5 octets ≡ number = from_be_bytes-to_be_bytes_8 number is.1 in
    record {
      header = header_again types.Reply procedures.ReadNumber body refl (omega arith);
      fields = spi_again spi is.0 octets e [] refl;
      value = cc;
    }
again (Status spi state direction suite key window) is bounds =
    let body = to_be_bytes w16 spi ++ sa_state_code state ∷ direction_code direction ∷ suite_code suite
    ∷ (to_be_bytes w16 (unwrap_or key 0) ++ to_be_bytes w64 window) in
    let octets = message 0x9f body in
    let e : word_at 3 octets ≡ spi = from_be_bytes-to_be_bytes_2 spi (spi_small spi is.0) in
    let f : number_at 10 octets ≡ window = from_be_bytes-to_be_bytes_8 window (field_small window bounds) in
    let g : word_at 8 octets ≡ unwrap_or key 0 =
    from_be_bytes-to_be_bytes_2 (unwrap_or key 0) (optional_small key is.1) in
    let h : optional_key (word_at 8 octets) ≡ key = ap optional_key g ∙ optional_again key is.1 in
    let a = sa_state_again state in
    let d = direction_again direction in
    let s = suite_again suite in
    let c4 = window_check 10 octets ∷ [] in
    let c3 = code_check 2 7 octets ∷ c4 in
    let c2 = code_check 2 6 octets ∷ c3 in
    record {
      header = header_again types.Reply procedures.Status body refl (omega arith);
      fields = spi_again spi is.0 octets e (code_check 3 5 octets ∷ c2)
          (keeps (is_in_range 1 3 (sa_state_code state)) 5 c2 (sa_state_in state)
          (keeps (is_in_range 1 2 (direction_code direction)) 6 c3 (direction_in direction)
          (keeps (is_in_range 1 2 (suite_code suite)) 7 c4 (suite_in suite)
          (keeps (is_window (number_at 10 octets)) 10 [] (ap is_window f ∙ window_passes window bounds) refl))));
      value = λ i. Status (e i) (a i) (d i) (s i) (h i) (f i);
    }

pub reply_again : (reply : ReplyPdu) (octets : List ℕ) → IsReplyPdu reply octets
    → ReadAgain (reply_procedure reply) reply octets
reply_again reply octets is = rw is.spelled (again reply is.types is.bounds)
