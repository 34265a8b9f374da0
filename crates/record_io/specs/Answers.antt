-- The answers of `run` as octets (profile).
use Rattle.std.specs.Prelude.{◌≡◌, ℕ, ◌^◌, ◌<◌, List, [], ◌∷◌, ◌++◌, length, Option, MatchOption}
use Rattle.std.specs.List.{All}
use Rattle.std.specs.Int.{w16, w32, w64, to_be_bytes}
use Rattle.record_io.specs.declared.answers.Answer.{Answer}
use Rattle.record_io.specs.declared.answers.TheConstants.{ANSWER_HEADER}

-- what the header of an answer says; the body has so many octets
pub record Header : Type 0 where
  pub code : ℕ
  pub detail : ℕ
  pub key : ℕ
  pub octets : ℕ
  pub position : ℕ
  pub number : ℕ

-- code and detail, an octet each; key in 2 octets, the length of the body in 4, position and number in 8 each
abbrev pub header_octets : Header → List ℕ
header_octets header =
    header.code ∷ header.detail ∷ to_be_bytes w16 header.key ++ to_be_bytes w32 header.octets
    ++ to_be_bytes w64 header.position ++ to_be_bytes w64 header.number

abbrev pub header_of : Answer → Header
header_of answer = record {
  code = answer.code;
  detail = answer.detail;
  key = answer.key;
  octets = length answer.body;
  position = answer.position;
  number = answer.number;
}

-- the body stands behind
unfoldable pub answer_octets : Answer → List ℕ
answer_octets answer = header_octets (header_of answer) ++ answer.body

-- the octets of answers, one after the other
abbrev pub answers_octets : List Answer → List ℕ
answers_octets [] = []
answers_octets (answer ∷ answers) = answer_octets answer ++ answers_octets answers

-- each field has its width
pub record HasWidths (header : Header) : Type 0 where
  pub code : header.code < 2 ^ 8
  pub detail : header.detail < 2 ^ 8
  pub key : header.key < 2 ^ 16
  pub octets : header.octets < 2 ^ 32
  pub position : header.position < 2 ^ 64
  pub number : header.number < 2 ^ 64

abbrev pub IsAnswer : Answer → Type 0
IsAnswer answer = HasWidths (header_of answer)

-- an answer that is cut behind its header: a front of its body, and not all of it
pub record Cut : Type 0 where
  pub header : Header
  pub front : List ℕ

abbrev pub cut_octets : Cut → List ℕ
cut_octets cut = header_octets cut.header ++ cut.front

pub record IsCut (cut : Cut) : Type 0 where
  pub widths : HasWidths cut.header
  pub short : length cut.front < cut.header.octets

-- what stands behind the whole answers: less than a header, or a cut answer
abbrev pub EndsWith : List ℕ → Option Cut → Type 0
EndsWith behind last = MatchOption last (length behind < ANSWER_HEADER) (λ cut. IsCut cut × (behind ≡ cut_octets cut))

-- The answers that the octets show: whole ones, one after the other, and a cut one once its header is whole.
pub record ShowsAnswers (octets : List ℕ) (answers : List Answer) (last : Option Cut) : Type 0 where
  pub answers_are : All IsAnswer answers
  pub behind : List ℕ
  pub spelled : octets ≡ answers_octets answers ++ behind
  pub ends : EndsWith behind last
