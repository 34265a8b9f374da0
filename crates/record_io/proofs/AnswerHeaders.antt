-- The octets of a header are those of its fields, for `answer_head` and `known_head`.
use Rattle.std.proofs.Common.{◌≡◌, ℕ, ◌≤◌, List, [], ◌∷◌, ◌++◌, length, drop, sym, ap, ◌∙◌, arith}
use Rattle.std.specs.Int.{w16, w32, w64, to_be_bytes}
use Rattle.std.proofs.lemmas.List.{append-nil, drop_all}
use Rattle.sdls_base.specs.Places.{octet_at, word_at, double_word_at, number_at}
use Rattle.sdls_base.proofs.PlaceFacts.{AreOctets, octet_field, word_field, double_word_field, number_field, word_small}
use Rattle.sdls_base.proofs.PlaceFacts.{double_word_small, number_small}
use Rattle.record_io.specs.Answers.{Header, header_octets}
use Rattle.record_io.specs.AnswerReading.{IsAnswerCode, UnknownInFront}

-- the octets of a header are those of its fields
pub header_spelled : (octets : List ℕ) → AreOctets octets → length octets ≡ 24 → octets ≡ header_octets (record {
  code = octet_at 0 octets;
  detail = octet_at 1 octets;
  key = word_at 2 octets;
  octets = double_word_at 4 octets;
  position = number_at 8 octets;
  number = number_at 16 octets;
})
header_spelled octets are whole =
    let key = to_be_bytes w16 (word_at 2 octets) in
    let count = to_be_bytes w32 (double_word_at 4 octets) in
    let position = to_be_bytes w64 (number_at 8 octets) in
    let number = to_be_bytes w64 (number_at 16 octets) in
    let first = octet_field 0 octets (omega arith) in
    let second = octet_field 1 octets (omega arith) in
    let behind_detail = word_field 2 octets are (omega arith) in
    let behind_key = double_word_field 4 octets are (omega arith) in
    let behind_count = number_field 8 octets are (omega arith) in
    let behind_position = number_field 16 octets are (omega arith) in
    let end : drop 24 octets ≡ [] = drop_all 24 octets (omega arith) in
    let tail : drop 16 octets ≡ number = behind_position ∙ ap (λ xs. number ++ xs) end ∙ append-nil number in
    let from_position : drop 8 octets ≡ position ++ number = behind_count ∙ ap (λ xs. position ++ xs) tail in
    let from_count : drop 4 octets ≡ count ++ (position ++ number) =
    behind_key ∙ ap (λ xs. count ++ xs) from_position in
    let from_key : drop 2 octets ≡ key ++ (count ++ (position ++ number)) =
    behind_detail ∙ ap (λ xs. key ++ xs) from_count in
    first ∙ ap (λ xs. octet_at 0 octets ∷ xs) (second ∙ ap (λ xs. octet_at 1 octets ∷ xs) from_key)

-- the same of what was read at their places
pub fields_spelled : (octets : List ℕ) (key len position number : ℕ) → AreOctets octets → length octets ≡ 24
    → key ≡ word_at 2 octets
    → len ≡ double_word_at 4 octets → position ≡ number_at 8 octets → number ≡ number_at 16 octets
    → octets ≡ header_octets (record {
      code = octet_at 0 octets;
      detail = octet_at 1 octets;
      key = key;
      octets = len;
      position = position;
      number = number;
    })
fields_spelled octets key len position number are whole key_is len_is position_is number_is =
    let header : ℕ → ℕ → ℕ → ℕ → Header = λ k l p n. record {
      code = octet_at 0 octets;
      detail = octet_at 1 octets;
      key = k;
      octets = l;
      position = p;
      number = n;
    } in
    header_spelled octets are whole
    ∙ ap (λ k. header_octets (header k (double_word_at 4 octets) (number_at 8 octets) (number_at 16 octets)))
    (sym key_is)
    ∙ ap (λ l. header_octets (header key l (number_at 8 octets) (number_at 16 octets))) (sym len_is)
    ∙ ap (λ p. header_octets (header key len p (number_at 16 octets))) (sym position_is)
    ∙ ap (λ n. header_octets (header key len position n)) (sym number_is)

-- a header at the front of octets
pub unknown_front : (octets : List ℕ) → AreOctets octets → 24 ≤ length octets → ¬ IsAnswerCode (octet_at 0 octets)
    → UnknownInFront octets
unknown_front octets are long unknown =
    let behind_detail = word_field 2 octets are (omega arith) in
    let behind_key = double_word_field 4 octets are (omega arith) in
    let behind_count = number_field 8 octets are (omega arith) in
    let behind_position = number_field 16 octets are (omega arith) in
    let first = octet_field 0 octets (omega arith) in
    let second = octet_field 1 octets (omega arith) in
    let key = to_be_bytes w16 (word_at 2 octets) in
    let count = to_be_bytes w32 (double_word_at 4 octets) in
    let position = to_be_bytes w64 (number_at 8 octets) in
    let from_count : drop 8 octets ≡ position ++ (to_be_bytes w64 (number_at 16 octets) ++ drop 24 octets) =
    behind_count ∙ ap (λ xs. position ++ xs) behind_position in
    let from_key : drop 4 octets ≡ count ++ (position ++ (to_be_bytes w64 (number_at 16 octets) ++ drop 24 octets)) =
    behind_key ∙ ap (λ xs. count ++ xs) from_count in
    let from_detail : drop 2 octets
    ≡ key ++ (count ++ (position ++ (to_be_bytes w64 (number_at 16 octets) ++ drop 24 octets))) =
    behind_detail ∙ ap (λ xs. key ++ xs) from_key in
    record {
      header = record {
        code = octet_at 0 octets;
        detail = octet_at 1 octets;
        key = word_at 2 octets;
        octets = double_word_at 4 octets;
        position = number_at 8 octets;
        number = number_at 16 octets;
      };
      widths = record {
        code = are 0;
        detail = are 1;
        key = word_small 2 octets are;
        octets = double_word_small 4 octets are;
        position = number_small 8 octets are;
        number = number_small 16 octets are;
      };
      more = drop 24 octets;
      spelled = first ∙ ap (λ xs. octet_at 0 octets ∷ xs) (second ∙ ap (λ xs. octet_at 1 octets ∷ xs) from_detail);
      unknown = unknown;
    }
