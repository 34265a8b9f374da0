-- An answer at the front of octets (profile).
use Rattle.std.specs.Prelude.{◌≡◌, ℕ, ◌+◌, ◌==◌, Bool, IsTrue, List, ◌++◌, length, map, take}
use Rattle.std.specs.List.{list_any}
use Rattle.record_io.specs.declared.answers.Answer.{Answer}
use Rattle.record_io.specs.declared.answers.TheConstants.{ANSWER_HEADER}
use Rattle.record_io.specs.Answers.{Cut, Header, HasWidths, header_octets}
use Rattle.record_io.specs.Codes.{all_codes, code_octet}
use Rattle.record_io.specs.declared.answers.AnswerHead.{AnswerHead}

abbrev pub answer_codes : List ℕ
answer_codes = map code_octet all_codes

-- the code is that of an answer
abbrev pub is_answer_code : ℕ → Bool
is_answer_code code = list_any (λ known. known == code) answer_codes

abbrev pub IsAnswerCode : ℕ → Type 0
IsAnswerCode code = IsTrue (is_answer_code code)

abbrev pub header_said : AnswerHead → Header
header_said head = record {
  code = head.code;
  detail = head.detail;
  key = head.key;
  octets = head.len;
  position = head.position;
  number = head.number;
}

-- the octets are the header that says so, and its code is an answer's
pub record IsKnownHead (octets : List ℕ) (head : AnswerHead) : Type 0 where
  pub spelled : octets ≡ header_octets (header_said head)
  pub widths : HasWidths (header_said head)
  pub known : IsAnswerCode head.code

-- what a cut answer says: its header, and as much of its body as there is
abbrev pub as_answer : Cut → Answer
as_answer cut = record {
  code = cut.header.code;
  detail = cut.header.detail;
  key = cut.header.key;
  position = cut.header.position;
  number = cut.header.number;
  body = cut.front;
}

-- the answer with this header whose body is what stands behind, as far as that goes; it has so many octets
pub record IsBehind (header : Header) (behind : List ℕ) (answer : Answer) (count : ℕ) : Type 0 where
  pub answer_is : answer ≡ as_answer (record { header = header; front = take header.octets behind })
  pub count_is : count ≡ ANSWER_HEADER + length answer.body

-- the answer stands at the front of the octets, with a code that is an answer's, its body as far as these go; it has so
-- many of them
pub record StandsInFront (octets : List ℕ) (answer : Answer) (count : ℕ) : Type 0 where
  pub header : Header
  pub widths : HasWidths header
  pub behind : List ℕ
  pub spelled : octets ≡ header_octets header ++ behind
  pub known : IsAnswerCode header.code
  pub is_behind : IsBehind header behind answer count

-- a header stands at the front whose code is that of no answer
pub record UnknownInFront (octets : List ℕ) : Type 0 where
  pub header : Header
  pub widths : HasWidths header
  pub more : List ℕ
  pub spelled : octets ≡ header_octets header ++ more
  pub unknown : ¬ IsAnswerCode header.code
