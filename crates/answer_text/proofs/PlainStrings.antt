-- The strings of a line in JSON need no escape, for the law of that.
use Rattle.std.proofs.Common.{◌≡◌, ℕ, zero, suc, ◌<◌, ◌/◌, ◌%◌, ◌==◌, ◌∷◌, [], ◌++◌, List, Option, Some, None, Bool}
use Rattle.std.proofs.Common.{true, false, IsTrue, if◌then◌else◌, slice_index, drop, length, refl, sym, ap, ◌∙◌, arith}
use Rattle.std.proofs.Common.{All, inl, inr}
use Rattle.std.proofs.lemmas.Bool.{cases_lt}
use Rattle.std.specs.Prelude.{◌&&◌, IsSomeAnd, MatchOption, codes}
use Rattle.std.proofs.lemmas.List.Elements.{All-head, All-tail}
use Rattle.hex.specs.Hex.{encode_lower, encode_with, lower_digits}
use Rattle.sdls_base.specs.declared.states.KeyState.{KeyState}
use Rattle.sdls_base.specs.declared.states.KeyState.TheVariants.{PreActive, Active, Deactivated, Destroyed}
use Rattle.sdls_base.specs.declared.states.SaState.{SaState}
use Rattle.sdls_base.specs.declared.states.SaState.TheVariants.{Unkeyed, Keyed, Operational}
use Rattle.sdls_base.specs.declared.states.Direction.{Direction as Side}
use Rattle.sdls_base.specs.declared.states.Direction.TheVariants as directions
use Rattle.sdls_base.specs.declared.states.Suite.{Suite}
use Rattle.sdls_base.specs.declared.states.Suite.TheVariants.{Cmac, Gcm}
use Rattle.text_words.specs.Words.{key_state_word, sa_state_word, direction_word, suite_word}
use Rattle.ep_codec.specs.declared.reply_pdu.ReplyPdu.{ReplyPdu}
use Rattle.ep_codec.specs.declared.reply_pdu.ReplyPdu.TheVariants as replies
use Rattle.replay_window.specs.WindowField.{back_of}
use Rattle.record_io.specs.declared.answers.Answer.{Answer}
use Rattle.record_io.specs.declared.code.AnswerCode.{AnswerCode}
use Rattle.record_io.specs.declared.code.AnswerCode.TheVariants.{Protected, Accepted, Clear, Done, Refused, Monitored}
use Rattle.record_io.specs.declared.code.AnswerCode.TheVariants.{MonitorFault, Layout, Channel, Spi, Direction, State}
use Rattle.record_io.specs.declared.code.AnswerCode.TheVariants.{Coverage, Mac, Number, Exhausted, SiteFault, Stopped}
use Rattle.record_io.specs.declared.code.AnswerCode.TheVariants.{NoMemory, End}
use Rattle.answer_text.specs.Code.{code_word, word_of, layout_details, state_details, refusal_details, end_numbers}
use Rattle.record_io.specs.Codes.{code_at}
use Rattle.answer_text.specs.Part.{Part, word_of_code}
use Rattle.answer_text.specs.Part.Part.{named, number, word}
use Rattle.answer_text.specs.Reply.{reply_name, reply_values}
use Rattle.text_words.specs.declared.words.MessageName.{MessageName}
use Rattle.text_words.specs.declared.words.MessageName.TheVariants as monitoring
use Rattle.answer_text.specs.declared.monitor.TheConstants.{EVENT}
use Rattle.sdls_base.specs.Places.{octet_at}
use Rattle.answer_text.specs.Monitor.{monitor_reply}
use Rattle.answer_text.specs.Line.{HasValues, done_parts, drawn, monitored_parts, numbered, window_parts}
use Rattle.answer_text.proofs.ValueParts.{values_more}
use Rattle.answer_text.specs.Plain.{are_plain_events, are_plain_parts, are_plain_rows, is_plain_octet, is_plain_part}
use Rattle.answer_text.specs.Plain.{is_plain_text}

both : (a b : Bool) → a ≡ true → b ≡ true → (a && b) ≡ true
both a b left right = rw (left, right) refl

pub plain_code : (code : AnswerCode) → IsTrue (is_plain_text (code_word code))
plain_code Protected = refl
plain_code Accepted = refl
plain_code Clear = refl
plain_code Done = refl
plain_code Refused = refl
plain_code Monitored = refl
plain_code MonitorFault = refl
plain_code Layout = refl
plain_code Channel = refl
plain_code Spi = refl
plain_code Direction = refl
plain_code State = refl
plain_code Coverage = refl
plain_code Mac = refl
plain_code Number = refl
plain_code Exhausted = refl
plain_code SiteFault = refl
plain_code Stopped = refl
plain_code NoMemory = refl
plain_code End = refl

plain_key_state : (state : KeyState) → is_plain_text (key_state_word state) ≡ true
plain_key_state PreActive = refl
plain_key_state Active = refl
plain_key_state Deactivated = refl
plain_key_state Destroyed = refl

plain_sa_state : (state : SaState) → is_plain_text (sa_state_word state) ≡ true
plain_sa_state Unkeyed = refl
plain_sa_state Keyed = refl
plain_sa_state Operational = refl

plain_direction : (direction : Side) → is_plain_text (direction_word direction) ≡ true
plain_direction directions.Send = refl
plain_direction directions.Receive = refl

plain_suite : (suite : Suite) → is_plain_text (suite_word suite) ≡ true
plain_suite Cmac = refl
plain_suite Gcm = refl

plain_rows : (keys : List (ℕ × KeyState)) → are_plain_rows keys ≡ true
plain_rows [] = refl
plain_rows (row ∷ keys) = both (is_plain_text (key_state_word row.1)) (are_plain_rows keys) (plain_key_state row.1)
    (plain_rows keys)

and_left : (a b : Bool) → (a && b) ≡ true → a ≡ true
and_left true b is = refl
and_left false b is = is

and_right : (a b : Bool) → (a && b) ≡ true → b ≡ true
and_right true b is = is
and_right false true is = refl
and_right false false is = is

plain_append : (xs ys : List Part) → are_plain_parts xs ≡ true → are_plain_parts ys ≡ true
    → are_plain_parts (xs ++ ys) ≡ true
plain_append [] ys left right = right
plain_append (x ∷ xs) ys left right =
    both (is_plain_part x) (are_plain_parts (xs ++ ys)) (and_left (is_plain_part x) (are_plain_parts xs) left)
    (plain_append xs ys (and_right (is_plain_part x) (are_plain_parts xs) left) right)

plain_reply_name : (reply : ReplyPdu) → are_plain_parts (reply_name reply) ≡ true
unfolding reply_name
plain_reply_name replies.Rekeying = refl
plain_reply_name replies.Activate = refl
plain_reply_name replies.Deactivate = refl
plain_reply_name replies.Destroy = refl
plain_reply_name replies.Create = refl
plain_reply_name replies.Delete = refl
plain_reply_name replies.SetWindow = refl
plain_reply_name replies.Rekey = refl
plain_reply_name replies.Expire = refl
plain_reply_name replies.SetNumber = refl
plain_reply_name replies.Start = refl
plain_reply_name replies.Stop = refl
plain_reply_name (replies.VerifyGcm key vector sealed tag) = refl
plain_reply_name (replies.VerifyCmac key count mac) = refl
plain_reply_name (replies.Inventory total keys) = refl
plain_reply_name (replies.Compose master vector sealed tag) = refl
plain_reply_name (replies.ReadNumber spi count) = refl
plain_reply_name (replies.Status spi state direction suite key window) = refl

plain_back : (b : Bool) (back : ℕ) → are_plain_parts (if b then [] else named (codes "back") back ∷ []) ≡ true
plain_back true back = refl
plain_back false back = refl

plain_reply_values : (reply : ReplyPdu) → are_plain_parts (reply_values reply) ≡ true
unfolding reply_values
plain_reply_values replies.Rekeying = refl
plain_reply_values replies.Activate = refl
plain_reply_values replies.Deactivate = refl
plain_reply_values replies.Destroy = refl
plain_reply_values replies.Create = refl
plain_reply_values replies.Delete = refl
plain_reply_values replies.SetWindow = refl
plain_reply_values replies.Rekey = refl
plain_reply_values replies.Expire = refl
plain_reply_values replies.SetNumber = refl
plain_reply_values replies.Start = refl
plain_reply_values replies.Stop = refl
plain_reply_values (replies.VerifyGcm key vector sealed tag) = refl
plain_reply_values (replies.VerifyCmac key count mac) = refl
plain_reply_values (replies.Inventory total keys) = both (are_plain_rows keys) true (plain_rows keys) refl
plain_reply_values (replies.Compose master vector sealed tag) = refl
plain_reply_values (replies.ReadNumber spi count) = refl
plain_reply_values (replies.Status spi state direction suite key window) =
    rw (
      plain_direction direction,
      plain_suite suite,
      plain_sa_state state,
      plain_back (back_of window == 0) (back_of window),
    ) refl

plain_drawn_if : (bare : Bool) (key count : ℕ) → are_plain_parts (if bare then [] else Part.drawn key count ∷ []) ≡ true
plain_drawn_if true key count = refl
plain_drawn_if false key count = refl

plain_done : (answer : Answer) (reply : ReplyPdu) → are_plain_parts (done_parts answer reply) ≡ true
plain_done answer reply =
    let behind = drawn answer ++ reply_values reply in
    let is_behind : are_plain_parts behind ≡ true =
    plain_append (drawn answer) (reply_values reply) (plain_drawn_if (answer.key == 0) answer.key answer.number)
    (plain_reply_values reply) in
    plain_append (reply_name reply) (named (codes "entry") answer.position ∷ behind) (plain_reply_name reply) is_behind

plain_event_word : (code : Option AnswerCode) → is_plain_text (word_of_code code) ≡ true
plain_event_word None = refl
plain_event_word (Some code) = plain_code code

plain_events : (count : ℕ) (carried : List ℕ) → are_plain_events count carried ≡ true
plain_events zero carried = refl
plain_events (suc count) carried =
    both (is_plain_text (word_of_code (code_at (octet_at 8 carried)))) (are_plain_events count (drop 18 carried))
    (plain_event_word (code_at (octet_at 8 carried))) (plain_events count (drop 18 carried))

plain_monitored : (answer : Answer) (reply : MessageName) → are_plain_parts (monitored_parts answer reply) ≡ true
plain_monitored answer monitoring.Ping = refl
plain_monitored answer monitoring.LogStatus = refl
plain_monitored answer monitoring.DumpLog =
    let carried = drop 3 answer.body in
    both (are_plain_events (length carried / EVENT) carried) true (plain_events (length carried / EVENT) carried) refl
plain_monitored answer monitoring.EraseLog = refl
plain_monitored answer monitoring.SelfTest = refl
plain_monitored answer monitoring.AlarmReset = refl

plain_window : (body : List ℕ) → are_plain_parts (window_parts body) ≡ true
unfolding window_parts
plain_window body = refl

-- ---- the words of the tables

abbrev are_plain_words : List (ℕ × List ℕ) → Bool
are_plain_words [] = true
are_plain_words (row ∷ table) = is_plain_text row.1 && are_plain_words table

some_step : (here : Bool) (own : List ℕ) (rest : Option (List ℕ)) (P Q : List ℕ → Type 0) → (P own → Q own)
    → (IsSomeAnd rest P → IsSomeAnd rest Q) → IsSomeAnd (if here then Some own else rest) P
    → IsSomeAnd (if here then Some own else rest) Q
some_step true own rest P Q more later has = more has
some_step false own rest P Q more later has = later has

some_plain : (table : List (ℕ × List ℕ)) (octet : ℕ) (P Q : List ℕ → Type 0) → are_plain_words table ≡ true
    → ((text : List ℕ) → is_plain_text text ≡ true → P text → Q text)
    → IsSomeAnd (word_of table octet) P → IsSomeAnd (word_of table octet) Q
some_plain [] octet P Q plain more has = has
some_plain (row ∷ table) octet P Q plain more has =
    some_step (row.0 == octet) row.1 (word_of table octet) P Q
    (more row.1 (and_left (is_plain_text row.1) (are_plain_words table) plain))
    (some_plain table octet P Q (and_right (is_plain_text row.1) (are_plain_words table) plain) more) has

match_step : (here : Bool) (own : List ℕ) (rest : Option (List ℕ)) (A B : Type 0) (P Q : List ℕ → Type 0)
    → (P own → Q own)
    → (MatchOption rest A P → MatchOption rest B Q) → MatchOption (if here then Some own else rest) A P
    → MatchOption (if here then Some own else rest) B Q
match_step true own rest A B P Q more later has = more has
match_step false own rest A B P Q more later has = later has

match_plain : (table : List (ℕ × List ℕ)) (octet : ℕ) (A B : Type 0) (P Q : List ℕ → Type 0)
    → are_plain_words table ≡ true → (A → B)
    → ((text : List ℕ) → is_plain_text text ≡ true → P text → Q text)
    → MatchOption (word_of table octet) A P → MatchOption (word_of table octet) B Q
match_plain [] octet A B P Q plain none more has = none has
match_plain (row ∷ table) octet A B P Q plain none more has =
    match_step (row.0 == octet) row.1 (word_of table octet) A B P Q
    (more row.1 (and_left (is_plain_text row.1) (are_plain_words table) plain))
    (match_plain table octet A B P Q (and_right (is_plain_text row.1) (are_plain_words table) plain) none more) has

every_plain : {X : Type 0} (o : Option X) (P Q : X → Type 0) → ((x : X) → Q x) → IsSomeAnd o P
    → IsSomeAnd o (λ x. P x × Q x)
every_plain None P Q all has = has
every_plain (Some x) P Q all has = (has, all x)

with_plain : (code : AnswerCode) (answer : Answer) (P : List Part → Type 0) → HasValues code answer P
    → HasValues code answer (λ values. P values × IsTrue (are_plain_parts values))
unfolding HasValues
with_plain Protected answer P has = (has.0, (has.1, refl))
with_plain Accepted answer P has = (has.0, (has.1, refl))
with_plain Clear answer P has = (has.0, (has.1, refl))
with_plain Done answer P has = (has.0, has.1, (has.2.0, has.2.1, (has.2.2, plain_done answer has.2.0)))
with_plain Refused answer P has =
    let parts : List ℕ → List Part = λ refusal. word (codes "refusal") refusal ∷ number (codes "number") answer.number
    ∷ named (codes "entry") answer.position ∷ [] in (
      has.0,
      some_plain refusal_details answer.detail (λ refusal. P (parts refusal))
          (λ refusal. P (parts refusal) × (are_plain_parts (parts refusal) ≡ true)) refl
          (λ refusal plain is. (is, rw plain refl)) has.1,
    )
with_plain Monitored answer P has = (
  has.0,
  every_plain (monitor_reply answer.body) (λ reply. P (monitored_parts answer reply))
      (λ reply. are_plain_parts (monitored_parts answer reply) ≡ true) (plain_monitored answer) has.1,
)
with_plain MonitorFault answer P has = (has.0, (has.1, refl))
with_plain Layout answer P has =
    let parts : List ℕ → List Part = λ fault. word (codes "fault") fault ∷ named (codes "position") answer.position
    ∷ [] in (
      has.0,
      has.1,
      some_plain layout_details answer.detail (λ fault. P (parts fault))
          (λ fault. P (parts fault) × (are_plain_parts (parts fault) ≡ true)) refl
          (λ fault plain is. (is, rw plain refl)) has.2,
    )
with_plain Channel answer P has = (has.0, (has.1, refl))
with_plain Spi answer P has = (has.0, (has.1, refl))
with_plain Direction answer P has = (has.0, (has.1, refl))
with_plain State answer P has =
    let parts : List ℕ → List Part = λ state. word (codes "state") state ∷ named (codes "position") answer.position
    ∷ [] in (
      has.0,
      has.1,
      some_plain state_details answer.detail (λ state. P (parts state))
          (λ state. P (parts state) × (are_plain_parts (parts state) ≡ true)) refl
          (λ state plain is. (is, rw plain refl)) has.2,
    )
with_plain Coverage answer P has = (has.0, (has.1, refl))
with_plain Mac answer P has = (has.0, (has.1, refl))
with_plain Number answer P has = (
  has.0,
  has.1,
  (has.2, plain_append (numbered answer (codes "entry")) (window_parts answer.body) refl (plain_window answer.body)),
)
with_plain Exhausted answer P has = (has.0, has.1, (has.2, refl))
with_plain SiteFault answer P has = (has.0, (has.1, refl))
with_plain Stopped answer P has = (has.0, (has.1, refl))
with_plain NoMemory answer P has = (has.0, has.1, (has.2, refl))
with_plain End answer P has =
    let known : List Part = named (codes "status") answer.detail ∷ named (codes "entries") answer.position ∷ [] in
    let A : Type 0 = (answer.number ≡ 0) × P known in
    let B : Type 0 = (answer.number ≡ 0) × (P known × (are_plain_parts known ≡ true)) in (
      has.0,
      has.1,
      match_plain end_numbers answer.detail A B (λ name. P (known ++ named name answer.number ∷ []))
          (λ name. P (known ++ named name answer.number ∷ [])
          × (are_plain_parts (known ++ named name answer.number ∷ []) ≡ true)) refl
          (λ is. (is.0, (is.1, refl))) (λ name plain is. (is, rw plain refl)) has.2,
    )

some_fact : {X : Type 0} (o : Option X) (C : Type 0) → IsSomeAnd o (λ _. C) → C
some_fact None C has = absurd has
some_fact (Some x) C has = has

match_fact : (o : Option (List ℕ)) (A C : Type 0) → MatchOption o (A × C) (λ _. C) → C
match_fact None A C has = has.1
match_fact (Some x) A C has = has

-- what holds whatever the parts are
fact_of : (code : AnswerCode) (answer : Answer) (C : Type 0) → HasValues code answer (λ _. C) → C
unfolding HasValues
fact_of Protected answer C has = has.1
fact_of Accepted answer C has = has.1
fact_of Clear answer C has = has.1
fact_of Done answer C has = has.2.2
fact_of Refused answer C has = some_fact (word_of refusal_details answer.detail) C has.1
fact_of Monitored answer C has = some_fact (monitor_reply answer.body) C has.1
fact_of MonitorFault answer C has = has.1
fact_of Layout answer C has = some_fact (word_of layout_details answer.detail) C has.2
fact_of Channel answer C has = has.1
fact_of Spi answer C has = has.1
fact_of Direction answer C has = has.1
fact_of State answer C has = some_fact (word_of state_details answer.detail) C has.2
fact_of Coverage answer C has = has.1
fact_of Mac answer C has = has.1
fact_of Number answer C has = has.2
fact_of Exhausted answer C has = has.2
fact_of SiteFault answer C has = has.1
fact_of Stopped answer C has = has.1
fact_of NoMemory answer C has = has.2
fact_of End answer C has = match_fact (word_of end_numbers answer.detail) (answer.number ≡ 0) C has.2

pub plain_values : (code : AnswerCode) (answer : Answer) (values : List Part)
    → HasValues code answer (λ found. found ≡ values)
    → IsTrue (are_plain_parts values)
plain_values code answer values has =
    fact_of code answer (are_plain_parts values ≡ true)
    (values_more code answer (λ found. (found ≡ values) × IsTrue (are_plain_parts found))
    (λ _. are_plain_parts values ≡ true)
    (λ found is. ap are_plain_parts (sym is.0) ∙ is.1) (with_plain code answer (λ found. found ≡ values) has))

-- ---- the digits of octets

abbrev are_plain_digits : List ℕ → ℕ → Bool
are_plain_digits digits zero = true
are_plain_digits digits (suc bound) = is_plain_octet (slice_index digits bound) && are_plain_digits digits bound

plain_digit : (digits : List ℕ) (bound digit : ℕ) → are_plain_digits digits bound ≡ true → digit < bound
    → is_plain_octet (slice_index digits digit) ≡ true
plain_digit digits zero digit plain below = absurd (omega arith)
plain_digit digits (suc bound) digit plain below =
    let last = and_left (is_plain_octet (slice_index digits bound)) (are_plain_digits digits bound) plain in
    let earlier = and_right (is_plain_octet (slice_index digits bound)) (are_plain_digits digits bound) plain in
    elim (cases_lt digit bound) [
      | inl lower ↦ plain_digit digits bound digit earlier lower
      | inr top ↦
          let same : digit ≡ bound = omega arith in
          rw same last
    ]

plain_lower : (digit : ℕ) → digit < 16 → is_plain_octet (slice_index lower_digits digit) ≡ true
plain_lower digit below = plain_digit lower_digits 16 digit refl below

pub plain_digits : (body : List ℕ) → All (λ octet. octet < 256) body → IsTrue (is_plain_text (encode_lower body))
unfolding encode_with
plain_digits [] are = refl
plain_digits (octet ∷ body) are =
    let below : octet < 256 = All-head (λ octet. octet < 256) octet body are in
    both (is_plain_octet (slice_index lower_digits (octet / 16)))
    (is_plain_octet (slice_index lower_digits (octet % 16)) && is_plain_text (encode_lower body))
    (plain_lower (octet / 16) (omega arith))
    (both (is_plain_octet (slice_index lower_digits (octet % 16))) (is_plain_text (encode_lower body))
    (plain_lower (octet % 16) (omega arith))
    (plain_digits body (All-tail (λ octet. octet < 256) octet body are)))
