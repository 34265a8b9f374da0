-- What stands before the fields of a message.
use Rattle.std.proofs.Common.{◌≡◌, ℕ, ◌+◌, ◌-◌, ◌*◌, ◌/◌, ◌%◌, ◌^◌, ◌<◌, ◌≤◌, Bool, true, false, List, [], ◌∷◌, ◌++◌}
use Rattle.std.proofs.Common.{length, get_or, drop, Option, Some, None, refl, sym, ap, subst, ◌∙◌, arith, cond}
use Rattle.std.specs.Prelude.{not, ◌==◌, nat_lt, is_none, find}
use Rattle.std.specs.Int.{w16, to_be_bytes}
use Rattle.std.proofs.lemmas.Bool.{and_parts, and_from, eqb-true, eq-eqb, ltb-false, le-ltb}
use Rattle.std.proofs.lemmas.List.{length-drop}
use Rattle.std.proofs.lemmas.Nat.{from_be_bytes-to_be_bytes_2}
use Rattle.ep_codec.specs.declared.procedure.PduType.{PduType}
use Rattle.ep_codec.specs.declared.procedure.PduType.TheVariants.{Command, Reply}
use Rattle.ep_codec.specs.declared.procedure.Procedure.{Procedure}
use Rattle.ep_codec.specs.declared.procedure.Procedure.TheVariants.{Rekeying, Activate, Deactivate, Verify, Destroy}
use Rattle.ep_codec.specs.declared.procedure.Procedure.TheVariants.{Inventory, Compose, ReadNumber, Create, Delete}
use Rattle.ep_codec.specs.declared.procedure.Procedure.TheVariants.{SetWindow, Rekey, Expire, SetNumber, Start, Stop}
use Rattle.ep_codec.specs.declared.procedure.Procedure.TheVariants.{Status}
use Rattle.sdls_base.specs.FirstFailing.{Check, first_failing}
use Rattle.ep_codec.specs.Command.{message}
use Rattle.sdls_base.specs.Places.{word_at}
use Rattle.ep_codec.specs.MessageFault.{procedure_in, can_have, end_in, header_checks}
use Rattle.ep_codec.specs.Procedure.{tag_of, procedures, procedure_of, procedure_tagged, has_length}
use Rattle.ep_codec.proofs.Faults.{first_passed, others_passed, passes}
use Rattle.sdls_base.proofs.PlaceFacts.{AreOctets, octet_field, word_field}
use Rattle.ep_codec.proofs.FieldFacts.{kept, keeps}

-- ---- tags

found_passes : (test : Procedure → Bool) (all : List Procedure) (p : Procedure) → find test all ≡ Some p → test p ≡ true
found_passes test [] p found = absurd cc
found_passes test (q ∷ all) p found =
    elim (test q) as (λ b. test q ≡ b → cond b (Some q) (find test all) ≡ Some p → test p ≡ true) [
      | true ↦ λ e f. (let same : q ≡ p = cc in subst (λ (r : Procedure). test r ≡ true) same e)
      | false ↦ λ e f. found_passes test all p f
    ] refl found

-- the tag of the procedure that has it
pub tag_found : (tag : ℕ) (p : Procedure) → procedure_of tag ≡ Some p → tag ≡ tag_of p
unfolding procedure_of
tag_found tag p found = sym (eqb-true (tag_of p) tag (found_passes (λ q. tag_of q == tag) procedures p found))

pub found_by_tag : (p : Procedure) → procedure_of (tag_of p) ≡ Some p
unfolding procedure_of
found_by_tag Rekeying = refl
found_by_tag Activate = refl
found_by_tag Deactivate = refl
found_by_tag Verify = refl
found_by_tag Destroy = refl
found_by_tag Inventory = refl
found_by_tag Compose = refl
found_by_tag ReadNumber = refl
found_by_tag Create = refl
found_by_tag Delete = refl
found_by_tag SetWindow = refl
found_by_tag Rekey = refl
found_by_tag Expire = refl
found_by_tag SetNumber = refl
found_by_tag Start = refl
found_by_tag Stop = refl
found_by_tag Status = refl

-- the tag of a procedure's message of this type
abbrev pub tag_for : PduType → Procedure → ℕ
tag_for Command p = tag_of p
tag_for Reply p = 128 + tag_of p

pub tag_found_for : (t : PduType) (tag : ℕ) (p : Procedure) → procedure_tagged t tag ≡ Some p → tag ≡ tag_for t p
tag_found_for Command tag p found = tag_found tag p found
tag_found_for Reply tag p found =
    elim (nat_lt tag 128) as (λ b. nat_lt tag 128 ≡ b → cond b None (procedure_of (tag - 128)) ≡ Some p
    → tag ≡ 128 + tag_of p) [
      | true ↦ λ e f. absurd cc
      | false ↦ λ e f. omega (arith, ltb-false tag 128 e, tag_found (tag - 128) p f)
    ] refl found

-- ---- a header without fault

pub record Framed (t : PduType) (p : Procedure) (octets : List ℕ) : Type 0 where
  pub room : 3 ≤ length octets
  pub fits : has_length t p (length octets - 3) ≡ true
  pub spelled : octets ≡ message (tag_for t p) (drop 3 octets)

some_can : (t : PduType) (o : Option Procedure) (p : Procedure) (bits : ℕ) → o ≡ Some p → can_have t o bits ≡ true
    → (bits % 8 ≡ 0) × (has_length t p (bits / 8) ≡ true)
some_can t o p bits e can =
    let at_p : can_have t (Some p) bits ≡ true = subst (λ (q : Option Procedure). can_have t q bits ≡ true) e can in
    let both = and_parts (bits % 8 == 0) (has_length t p (bits / 8)) at_p in
    (eqb-true (bits % 8) 0 both.0, both.1)

pub header_passed : (t : PduType) (octets : List ℕ) (p : Procedure) → AreOctets octets
    → first_failing (header_checks t octets) ≡ None
    → procedure_in t octets ≡ Some p → Framed t p octets
unfolding header_checks procedure_in
header_passed t octets p are none found =
    let bits = word_at 1 octets in
    let five : List (Check ℕ) = (nat_lt (end_in octets) (length octets), end_in octets) ∷ [] in
    let four : List (Check ℕ) = (nat_lt (length octets) (end_in octets), length octets) ∷ five in
    let three : List (Check ℕ) = (not (can_have t (procedure_in t octets) bits), 1) ∷ four in
    let two : List (Check ℕ) = (is_none (procedure_in t octets), 0) ∷ three in
    let n2 = others_passed (nat_lt (length octets) 3) (length octets) two none in
    let n3 = others_passed (is_none (procedure_in t octets)) 0 three n2 in
    let n4 = others_passed (not (can_have t (procedure_in t octets) bits)) 1 four n3 in
    let n5 = others_passed (nat_lt (length octets) (end_in octets)) (length octets) five n4 in
    let room : 3 ≤ length octets =
    ltb-false (length octets) 3 (first_passed (nat_lt (length octets) 3) (length octets) two none) in
    let can = some_can t (procedure_in t octets) p bits found
    (kept (can_have t (procedure_in t octets) bits) 1 four n3) in
    let low =
    ltb-false (length octets) (end_in octets)
    (first_passed (nat_lt (length octets) (end_in octets)) (length octets) five n4) in
    let high =
    ltb-false (end_in octets) (length octets)
    (first_passed (nat_lt (end_in octets) (length octets)) (end_in octets) [] n5) in
    let whole : length octets - 3 ≡ bits / 8 = omega arith in
    let rest : length (drop 3 octets) ≡ bits / 8 = length-drop 3 octets ∙ whole in
    let length_is : bits ≡ 8 * length (drop 3 octets) = omega (arith, can.0) in
    let first : octets ≡ get_or octets 0 0 ∷ drop 1 octets = octet_field 0 octets (omega arith) in
    let second : drop 1 octets ≡ to_be_bytes w16 (word_at 1 octets) ++ drop 3 octets =
    word_field 1 octets are (omega arith) in
    record {
      room = room;
      fits = ap (has_length t p) whole ∙ can.1;
      spelled = first ∙ ap (λ (s : List ℕ). get_or octets 0 0 ∷ s) second
          ∙ ap (λ (n : ℕ). (get_or octets 0 0 ∷ to_be_bytes w16 n) ++ drop 3 octets) length_is
          ∙ ap (λ (tag : ℕ). message tag (drop 3 octets)) (tag_found_for t (get_or octets 0 0) p found);
    }

-- ---- a header that was written

pub record Passes (t : PduType) (p : Procedure) (octets : List ℕ) : Type 0 where
  pub none : first_failing (header_checks t octets) ≡ None
  pub found : procedure_in t octets ≡ Some p

found_for : (t : PduType) (p : Procedure) → procedure_tagged t (tag_for t p) ≡ Some p
found_for Command p = found_by_tag p
found_for Reply p =
    let back : 128 + tag_of p - 128 ≡ tag_of p = omega arith in
    rw (le-ltb (128 + tag_of p) 128 (omega arith), back) (found_by_tag p)

pub header_again : (t : PduType) (p : Procedure) (body : List ℕ) → has_length t p (length body) ≡ true
    → length body < 2 ^ 13
    → Passes t p (message (tag_for t p) body)
unfolding header_checks procedure_in
header_again t p body fits few =
    let octets = message (tag_for t p) body in
    let n = length body in
    let bits : word_at 1 octets ≡ 8 * n = from_be_bytes-to_be_bytes_2 (8 * n) (omega arith) in
    let found : procedure_in t octets ≡ Some p = found_for t p in
    let eighth : 8 * n / 8 ≡ n = omega arith in
    let whole : 8 * n % 8 ≡ 0 = omega arith in
    let can : can_have t (procedure_in t octets) (word_at 1 octets) ≡ true =
    rw (found, bits) (and_from (8 * n % 8 == 0) (has_length t p (8 * n / 8)) (eq-eqb (8 * n % 8) 0 whole)
    (ap (has_length t p) eighth ∙ fits)) in
    let ends : end_in octets ≡ length octets = ap (λ (b : ℕ). 3 + b / 8) bits ∙ omega arith in
    let five : List (Check ℕ) = (nat_lt (end_in octets) (length octets), end_in octets) ∷ [] in
    let four : List (Check ℕ) = (nat_lt (length octets) (end_in octets), length octets) ∷ five in
    let three : List (Check ℕ) = (not (can_have t (procedure_in t octets) (word_at 1 octets)), 1) ∷ four in
    record {
      none = passes (nat_lt (length octets) 3) (length octets) ((is_none (procedure_in t octets), 0) ∷ three)
          (le-ltb (length octets) 3 (omega arith))
          (passes (is_none (procedure_in t octets)) 0 three (ap is_none found)
          (keeps (can_have t (procedure_in t octets) (word_at 1 octets)) 1 four can
          (passes (nat_lt (length octets) (end_in octets)) (length octets) five
          (le-ltb (length octets) (end_in octets) (omega arith))
          (passes (nat_lt (end_in octets) (length octets)) (end_in octets) []
          (le-ltb (end_in octets) (length octets) (omega arith)) refl))));
      found = found;
    }

pub some_of : (o : Option Procedure) → is_none o ≡ false → (p : Procedure) × (o ≡ Some p)
some_of None e = absurd cc
some_of (Some p) e = (p, refl)
