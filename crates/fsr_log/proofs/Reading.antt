-- Octets without a fault are a monitoring message, and none else, for the clause of `message_without_fault`.
use Rattle.std.proofs.Common.{◌≡◌, ℕ, ◌*◌, ◌≤◌, ◌==◌, ◌||◌, if◌then◌else◌, Bool, true, false}
use Rattle.std.proofs.Common.{List, [], ◌∷◌, ◌++◌, length, get_or, drop, Option, Some, None}
use Rattle.std.proofs.Common.{refl, sym, ap, ◌∙◌, subst, arith}
use Rattle.std.specs.Prelude.{nat_lt, not, is_none, unwrap_or}
use Rattle.std.specs.Int.{w16, to_be_bytes}
use Rattle.std.proofs.lemmas.Bool.{eqb-true, ltb-false}
use Rattle.std.proofs.lemmas.List.{length-drop}
use Rattle.std.proofs.lemmas.Option.{none-some, same_Some}
use Rattle.sdls_base.specs.FirstFailing.{Check}
use Rattle.ep_codec.specs.Command.{message}
use Rattle.sdls_base.specs.Places.{word_at}
use Rattle.ep_codec.specs.MessageFault.{end_in}
use Rattle.ep_codec.proofs.Faults.{first_passed, others_passed}
use Rattle.sdls_base.proofs.PlaceFacts.{AreOctets, octet_field, word_field}
use Rattle.ep_codec.proofs.FieldFacts.{kept}
use Rattle.fsr_log.specs.declared.messages.Monitoring.{Monitoring}
use Rattle.fsr_log.specs.declared.messages.Monitoring.TheVariants.{Ping, LogStatus, DumpLog, EraseLog, SelfTest}
use Rattle.fsr_log.specs.declared.messages.Monitoring.TheVariants.{AlarmReset}
use Rattle.fsr_log.specs.declared.messages.TheConstants.{PING, LOG_STATUS, DUMP_LOG, ERASE_LOG, SELF_TEST, ALARM_RESET}
use Rattle.fsr_log.specs.declared.messages.TheConstants.{BLOCK}
use Rattle.fsr_log.specs.Message.{HasBlock, IsMonitoring, data_length, monitor_fault, monitoring_octets}

-- ---- a message has no fault

spelled_has_none : (asked : Monitoring) → HasBlock asked → monitor_fault (monitoring_octets asked) ≡ None
spelled_has_none Ping block = refl
spelled_has_none LogStatus block = refl
spelled_has_none DumpLog block = refl
spelled_has_none EraseLog block = refl
spelled_has_none (SelfTest octets) block = rw block refl
spelled_has_none AlarmReset block = refl

pub message_has_none : (asked : Monitoring) (octets : List ℕ) → IsMonitoring asked octets → monitor_fault octets ≡ None
message_has_none asked octets is = ap monitor_fault is.spelled ∙ spelled_has_none asked is.block

-- ---- what has no fault is one

abbrev IsSome : List ℕ → Type 0
IsSome octets = (asked : Monitoring) × IsMonitoring asked octets

nothing : (octets : List ℕ) → 0 ≡ length octets → octets ≡ []
nothing [] none = refl
nothing (octet ∷ octets) none = absurd (omega arith)

module _ (tag : ℕ) (body : List ℕ) where
  -- the tag is that of a message without data
  plain : (asked : Monitoring) (known : ℕ) → HasBlock asked → monitoring_octets asked ≡ message known []
      → (known == tag) ≡ true → Some 0 ≡ Some (length body) → IsSome (message tag body)
  plain asked known block spelled same none =
      let empty : body ≡ [] = nothing body (same_Some 0 (length body) none) in (
        asked,
        record {
          block = block;
          spelled =
              ap (λ (t : ℕ). message t body) (sym (eqb-true known tag same)) ∙ ap (message known) empty ∙ sym spelled;
        },
      )

  tested : (tag == SELF_TEST) ≡ true → Some BLOCK ≡ Some (length body) → IsSome (message tag body)
  tested same some = (
    SelfTest body,
    record {
      block = sym (same_Some BLOCK (length body) some);
      spelled = ap (λ (t : ℕ). message t body) (eqb-true tag SELF_TEST same);
    },
  )

  pub tagged : data_length tag ≡ Some (length body) → IsSome (message tag body)
  tagged =
      go (PING == tag) (LOG_STATUS == tag) (DUMP_LOG == tag) (ERASE_LOG == tag) (ALARM_RESET == tag) (tag == SELF_TEST)
      refl refl refl refl refl refl
    where
      go : (a b c d e f : Bool) → (PING == tag) ≡ a → (LOG_STATUS == tag) ≡ b → (DUMP_LOG == tag) ≡ c
          → (ERASE_LOG == tag) ≡ d → (ALARM_RESET == tag) ≡ e → (tag == SELF_TEST) ≡ f
          → (if a || (b || (c || (d || (e || false)))) then Some 0 else (if f then Some BLOCK else None))
          ≡ Some (length body) → IsSome (message tag body)
      go true b c d e f p q r s t u is = plain Ping PING tt refl p is
      go false true c d e f p q r s t u is = plain LogStatus LOG_STATUS tt refl q is
      go false false true d e f p q r s t u is = plain DumpLog DUMP_LOG tt refl r is
      go false false false true e f p q r s t u is = plain EraseLog ERASE_LOG tt refl s is
      go false false false false true f p q r s t u is = plain AlarmReset ALARM_RESET tt refl t is
      go false false false false false true p q r s t u is = tested u is
      go false false false false false false p q r s t u is = absurd (none-some (length body) is)

some_of : (o : Option ℕ) → is_none o ≡ false → o ≡ Some (unwrap_or o 0)
some_of None e = absurd (let z : true ≡ false = e in cc)
some_of (Some n) e = refl

pub none_is_message : (octets : List ℕ) → AreOctets octets → monitor_fault octets ≡ None → IsSome octets
none_is_message octets are none =
    let wanted = data_length (get_or octets 0 0) in
    let bits = word_at 1 octets in
    let five : List (Check ℕ) = (nat_lt (end_in octets) (length octets), end_in octets) ∷ [] in
    let four : List (Check ℕ) = (nat_lt (length octets) (end_in octets), length octets) ∷ five in
    let three : List (Check ℕ) = (not (bits == 8 * unwrap_or wanted 0), 1) ∷ four in
    let two : List (Check ℕ) = (is_none wanted, 0) ∷ three in
    let n2 = others_passed (nat_lt (length octets) 3) (length octets) two none in
    let n3 = others_passed (is_none wanted) 0 three n2 in
    let n4 = others_passed (not (bits == 8 * unwrap_or wanted 0)) 1 four n3 in
    let n5 = others_passed (nat_lt (length octets) (end_in octets)) (length octets) five n4 in
    let room : 3 ≤ length octets =
    ltb-false (length octets) 3 (first_passed (nat_lt (length octets) 3) (length octets) two none) in
    let some = some_of wanted (first_passed (is_none wanted) 0 three n2) in
    let same = eqb-true bits (8 * unwrap_or wanted 0) (kept (bits == 8 * unwrap_or wanted 0) 1 four n3) in
    let low =
    ltb-false (length octets) (end_in octets)
    (first_passed (nat_lt (length octets) (end_in octets)) (length octets) five n4) in
    let high =
    ltb-false (end_in octets) (length octets)
    (first_passed (nat_lt (end_in octets) (length octets)) (end_in octets) [] n5) in
    let rest : length (drop 3 octets) ≡ unwrap_or wanted 0 = omega (arith, length-drop 3 octets) in
    let length_is : bits ≡ 8 * length (drop 3 octets) = omega arith in
    let first : octets ≡ get_or octets 0 0 ∷ drop 1 octets = octet_field 0 octets (omega arith) in
    let second : drop 1 octets ≡ to_be_bytes w16 (word_at 1 octets) ++ drop 3 octets =
    word_field 1 octets are (omega arith) in
    let spelled : octets ≡ message (get_or octets 0 0) (drop 3 octets) =
    first ∙ ap (λ (s : List ℕ). get_or octets 0 0 ∷ s) second
    ∙ ap (λ (n : ℕ). (get_or octets 0 0 ∷ to_be_bytes w16 n) ++ drop 3 octets) length_is in
    subst IsSome (sym spelled) (tagged (get_or octets 0 0) (drop 3 octets) (some ∙ ap Some (sym rest)))
