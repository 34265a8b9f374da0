-- Answers as text, a line an answer, as words or as a JSON object (profile).
use Rattle.std.specs.Prelude.{◌≡◌, ⊤, ℕ, ◌≤◌, ◌==◌, if◌then◌else◌, codes, decimal, List, [], ◌∷◌, ◌++◌, length}
use Rattle.std.specs.Prelude.{IsSomeAnd, MatchOption, drop}
use Rattle.record_io.specs.declared.answers.Answer.{Answer}
use Rattle.ep_codec.specs.declared.reply_pdu.ReplyPdu.{ReplyPdu}
use Rattle.ep_codec.specs.ReplyPdu.{IsReplyPdu}
use Rattle.sdls_base.specs.Places.{number_at}
use Rattle.record_io.specs.declared.status.TheConstants.{SESSION_FULL}
use Rattle.record_io.specs.declared.code.AnswerCode.{AnswerCode}
use Rattle.record_io.specs.declared.code.AnswerCode.TheVariants.{Protected, Accepted, Clear, Done, Refused, Layout}
use Rattle.record_io.specs.declared.code.AnswerCode.TheVariants.{Monitored, MonitorFault}
use Rattle.record_io.specs.declared.code.AnswerCode.TheVariants.{Channel, Spi, Direction, State, Coverage, Mac, Number}
use Rattle.record_io.specs.declared.code.AnswerCode.TheVariants.{Exhausted, SiteFault, Stopped, NoMemory, End}
use Rattle.answer_text.specs.declared.line.TextError.{TextError}
use Rattle.answer_text.specs.declared.line.TextError.TheVariants as errors
use Rattle.answer_text.specs.declared.putting.Form.{Form}
use Rattle.answer_text.specs.declared.putting.Form.TheVariants as forms
use Rattle.answer_text.specs.Code.{code_word, layout_details, state_details, refusal_details, end_numbers}
use Rattle.record_io.specs.Codes.{code_at}
use Rattle.answer_text.specs.Code.{word_of}
use Rattle.text_words.specs.Members.{member, quoted}
use Rattle.answer_text.specs.Part.{Part, parts_text}
use Rattle.text_words.specs.Words.{spaced}
use Rattle.answer_text.specs.Part.Part.{named, number, word, octets}
use Rattle.answer_text.specs.Reply.{reply_name, reply_values}
use Rattle.text_words.specs.declared.words.MessageName.{MessageName}
use Rattle.text_words.specs.Names.{message_word}
use Rattle.answer_text.specs.Monitor.{monitor_reply, monitor_values}

-- a number of a key, and the position by its name
abbrev pub numbered : Answer → List ℕ → List Part
numbered answer position =
    named (codes "key") answer.key ∷ named (codes "number") answer.number ∷ named position answer.position ∷ []

-- there is neither a key nor a body
pub record IsBare (answer : Answer) : Type 0 where
  pub no_key : answer.key ≡ 0
  pub no_body : answer.body ≡ []

-- there is nothing but a position
pub record IsPlain (answer : Answer) : Type 0 where
  pub no_detail : answer.detail ≡ 0
  pub no_number : answer.number ≡ 0
  pub bare : IsBare answer

-- the number that was drawn for a command, with its key; where there is no key there is no number
abbrev pub drawn : Answer → List Part
drawn answer = if answer.key == 0 then [] else Part.drawn answer.key answer.number ∷ []

-- the highest number that was accepted, and the width of the window
unfoldable pub window_parts : List ℕ → List Part
window_parts body = named (codes "high") (number_at 0 body) ∷ named (codes "width") (number_at 8 body) ∷ []

-- of a command that was done: the reply, and between its name and its values the position and what was drawn
abbrev pub done_parts : Answer → ReplyPdu → List Part
done_parts answer reply =
    reply_name reply ++ (named (codes "entry") answer.position ∷ (drawn answer ++ reply_values reply))

-- there is nothing but a number and a position
pub record IsCounting (answer : Answer) : Type 0 where
  pub no_detail : answer.detail ≡ 0
  pub bare : IsBare answer

-- the number by its name, and the count of entries
abbrev pub counting_parts : Answer → List ℕ → List Part
counting_parts answer name = named name answer.number ∷ named (codes "entries") answer.position ∷ []

-- there is nothing but a position and a body
pub record IsBodyAlone (answer : Answer) : Type 0 where
  pub no_detail : answer.detail ≡ 0
  pub no_key : answer.key ≡ 0
  pub no_number : answer.number ≡ 0

-- of a monitoring message that was answered: the message, the count of entries, and what the reply carries
abbrev pub monitored_parts : Answer → MessageName → List Part
monitored_parts answer reply = word (codes "reply") (message_word reply)
    ∷ (named (codes "entries") answer.position ∷ monitor_values reply (drop 3 answer.body))

-- The answer is one of this code, and P holds of the parts that its line says.
unfoldable pub HasValues : AnswerCode → Answer → (List Part → Type 0) → Type 0
HasValues Protected answer P =
    (answer.detail ≡ 0) × P (numbered answer (codes "epoch") ++ octets (codes "frame") answer.body ∷ [])
HasValues Accepted answer P =
    (answer.detail ≡ 0) × P (numbered answer (codes "entry") ++ octets (codes "data") answer.body ∷ [])
HasValues Clear answer P = IsPlain answer × P (named (codes "position") answer.position ∷ [])
HasValues Done answer P = (answer.detail ≡ 0) × (answer.key ≡ 0 → answer.number ≡ 0)
    × ((reply : ReplyPdu) × IsReplyPdu reply answer.body
    × P (done_parts answer reply))
HasValues Refused answer P = IsBare answer × IsSomeAnd (word_of refusal_details answer.detail)
    (λ refusal. P (word (codes "refusal") refusal ∷ number (codes "number") answer.number
    ∷ named (codes "entry") answer.position ∷ []))
HasValues Monitored answer P = IsBodyAlone answer × IsSomeAnd (monitor_reply answer.body)
    (λ reply. P (monitored_parts answer reply))
HasValues MonitorFault answer P = IsCounting answer × P (counting_parts answer (codes "offset"))
HasValues Layout answer P = IsBare answer × (answer.number ≡ 0) × IsSomeAnd (word_of layout_details answer.detail)
    (λ fault. P (word (codes "fault") fault ∷ named (codes "position") answer.position ∷ []))
HasValues Channel answer P = IsPlain answer × P (named (codes "position") answer.position ∷ [])
HasValues Spi answer P = IsPlain answer × P (named (codes "entry") answer.position ∷ [])
HasValues Direction answer P = IsPlain answer × P (named (codes "entry") answer.position ∷ [])
HasValues State answer P = IsBare answer × (answer.number ≡ 0) × IsSomeAnd (word_of state_details answer.detail)
    (λ state. P (word (codes "state") state ∷ named (codes "position") answer.position ∷ []))
HasValues Coverage answer P = IsPlain answer × P (named (codes "entry") answer.position ∷ [])
HasValues Mac answer P = IsPlain answer × P (named (codes "entry") answer.position ∷ [])
HasValues Number answer P = (answer.detail ≡ 0) × (length answer.body ≡ 16)
    × P (numbered answer (codes "entry") ++ window_parts answer.body)
HasValues Exhausted answer P = (answer.detail ≡ 0) × (answer.body ≡ []) × P (numbered answer (codes "epoch"))
HasValues SiteFault answer P = IsCounting answer × P (counting_parts answer (codes "faults"))
HasValues Stopped answer P = IsCounting answer × P (counting_parts answer (codes "faults"))
HasValues NoMemory answer P = IsPlain answer × (answer.position ≡ 0) × P []
HasValues End answer P = IsBare answer × (answer.detail ≤ SESSION_FULL)
    × (let known = named (codes "status") answer.detail ∷ named (codes "entries") answer.position ∷ [] in
    MatchOption (word_of end_numbers answer.detail) ((answer.number ≡ 0) × P known)
    (λ name. P (known ++ named name answer.number ∷ [])))

-- The answer is one of this code, and the parts that its line says were put in this form.
abbrev pub PutsValues : AnswerCode → Answer → Form → List ℕ → List ℕ → Type 0
PutsValues code answer form old new = HasValues code answer (λ values. new ≡ old ++ parts_text form values)

-- the answer is one of the formats
abbrev pub IsOfFormats : Answer → Type 0
IsOfFormats answer = MatchOption (code_at answer.code) ⊥ (λ code. HasValues code answer (λ _. ⊤))

-- how a line begins: the number of the record and the code, and of End the code alone
abbrev pub front_text : Form → ℕ → AnswerCode → List ℕ
front_text forms.Words index End = codes "end"
front_text forms.Words index code = decimal index ++ spaced (code_word code)
front_text forms.Json index End = codes "{" ++ member (codes "code") (quoted (codes "end"))
front_text forms.Json index code = codes "{" ++ (member (codes "record") (decimal index)
    ++ (codes "," ++ member (codes "code") (quoted (code_word code))))

-- how a line ends: a line feed, and before it what closes an object
abbrev pub end_text : Form → List ℕ
end_text forms.Words = codes "\n"
end_text forms.Json = codes "}\n"

-- a line in a form: how it begins, its parts, and how it ends
abbrev pub line_text : Form → ℕ → AnswerCode → List Part → List ℕ
line_text form index code values = front_text form index code ++ (parts_text form values ++ end_text form)

-- The answer is one of the formats, and P holds of its line in this form.
abbrev pub HasLine : Form → ℕ → Answer → (List ℕ → Type 0) → Type 0
HasLine form index answer P = MatchOption (code_at answer.code) ⊥
    (λ code. HasValues code answer (λ values. P (line_text form index code values)))

-- what is answered is lack of memory, or that the fact does not hold
abbrev pub LacksUnlessNoMemory : Type 0 → TextError → Type 0
LacksUnlessNoMemory fact errors.NoMemory = ⊤
LacksUnlessNoMemory fact errors.NoAnswer = ¬ fact

-- the answer is none of this code, or memory ran out
abbrev pub LacksValues : AnswerCode → Answer → TextError → Type 0
LacksValues code answer error = LacksUnlessNoMemory (HasValues code answer (λ _. ⊤)) error

-- the answer is none of the formats, or memory ran out
abbrev pub LacksLine : Answer → TextError → Type 0
LacksLine answer error = LacksUnlessNoMemory (IsOfFormats answer) error
