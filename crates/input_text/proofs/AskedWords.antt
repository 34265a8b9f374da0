-- The words of monitoring messages, for `read_asked`, `elsewhere` and `said`.
use Rattle.std.proofs.Common.{◌≡◌, ℕ, Bool, true, false, if◌then◌else◌, codes, List, [], ◌∷◌, ◌++◌, length, Result}
use Rattle.std.proofs.Common.{Some, refl, sym, ap, ◌∙◌}
use Rattle.std.specs.Prelude.{◌==◌, ◌&&◌, ◌||◌}
use Rattle.std.specs.Fmt.{decimal}
use Rattle.std.specs.Str.{bytes_eq}
use Rattle.hex.specs.Hex.{encode_lower, IsBytes}
use Rattle.fsr_log.specs.declared.messages.Monitoring.{Monitoring}
use Rattle.fsr_log.specs.declared.messages.Monitoring.TheVariants as messages
use Rattle.fsr_log.specs.declared.messages.TheConstants.{BLOCK}
use Rattle.input_text.specs.declared.fault.LineError.{LineError}
use Rattle.input_text.specs.declared.line.Asked.{Asked}
use Rattle.input_text.specs.declared.line.Asked.TheVariants as asks
use Rattle.input_text.specs.declared.line.Line.TheVariants as lines
use Rattle.input_text.specs.Fields.{AnswersField}
use Rattle.input_text.specs.Monitor.{AreAsked, IsAsked, asked_named, asked_words}
use Rattle.input_text.specs.Line.{IsElsewhere, line_words}

abbrev first : List (List ℕ) → List ℕ
first [] = []
first (word ∷ words) = word

abbrev behind : List (List ℕ) → List (List ℕ)
behind [] = []
behind (word ∷ words) = words

-- there is a word
pub some_words : (asked : Asked) → asked_words asked ≡ [] → ⊥
unfolding asked_words
some_words (asks.Message messages.Ping) none = absurd cc
some_words (asks.Message messages.LogStatus) none = absurd cc
some_words (asks.Message messages.DumpLog) none = absurd cc
some_words (asks.Message messages.EraseLog) none = absurd cc
some_words (asks.Message (messages.SelfTest block)) none = absurd cc
some_words (asks.Message messages.AlarmReset) none = absurd cc
some_words (asks.Octets octets) none = absurd cc

-- what is answered by the word is answered
pub only_asked : (result : Result Asked LineError) (word : List ℕ) (words : List (List ℕ)) (asked : Asked)
    → ((octets : List ℕ) → AreAsked octets → word ≡ codes "monitor" → words ≡ encode_lower octets ∷ []
    → AnswersField result (asks.Octets octets))
    → ((block : List ℕ) → IsBytes block → length block ≡ BLOCK → word ≡ codes "self-test"
    → words ≡ encode_lower block ∷ []
    → AnswersField result (asks.Message (messages.SelfTest block)))
    → ((message : Monitoring) → asked_named word ≡ Some message → words ≡ []
    → AnswersField result (asks.Message message))
    → IsAsked asked → word ∷ words ≡ asked_words asked → AnswersField result asked
unfolding asked_words IsAsked
only_asked result word words (asks.Message messages.Ping) monitor block named is are =
    named messages.Ping (ap (λ ws. asked_named (first ws)) are) (ap behind are)
only_asked result word words (asks.Message messages.LogStatus) monitor block named is are =
    named messages.LogStatus (ap (λ ws. asked_named (first ws)) are) (ap behind are)
only_asked result word words (asks.Message messages.DumpLog) monitor block named is are =
    named messages.DumpLog (ap (λ ws. asked_named (first ws)) are) (ap behind are)
only_asked result word words (asks.Message messages.EraseLog) monitor block named is are =
    named messages.EraseLog (ap (λ ws. asked_named (first ws)) are) (ap behind are)
only_asked result word words (asks.Message (messages.SelfTest octets)) monitor block named is are =
    block octets is.1 is.0 (ap first are) (ap behind are)
only_asked result word words (asks.Message messages.AlarmReset) monitor block named is are =
    named messages.AlarmReset (ap (λ ws. asked_named (first ws)) are) (ap behind are)
only_asked result word words (asks.Octets octets) monitor block named is are =
    monitor octets is (ap first are) (ap behind are)

-- ---- the first word of a Monitor record's line

abbrev words_if : Bool → ℕ → ℕ → Asked → List (List ℕ)
words_if here lane link asked = (if here then [] else codes "at" ∷ decimal lane ∷ decimal link ∷ [])
    ++ asked_words asked

-- the words that begin the lines of other items
abbrev is_other : List ℕ → Bool
is_other word = bytes_eq word (codes "fence") || (bytes_eq word (codes "protect")
    || (bytes_eq word (codes "open") || bytes_eq word (codes "command")))

message_first : (asked : Asked) (word : List ℕ) (words : List (List ℕ)) → word ∷ words ≡ asked_words asked
    → (is_other word ≡ false) × (bytes_eq word (codes "at") ≡ false)
unfolding asked_words
message_first (asks.Message messages.Ping) word words are =
    (ap (λ ws. is_other (first ws)) are, ap (λ ws. bytes_eq (first ws) (codes "at")) are)
message_first (asks.Message messages.LogStatus) word words are =
    (ap (λ ws. is_other (first ws)) are, ap (λ ws. bytes_eq (first ws) (codes "at")) are)
message_first (asks.Message messages.DumpLog) word words are =
    (ap (λ ws. is_other (first ws)) are, ap (λ ws. bytes_eq (first ws) (codes "at")) are)
message_first (asks.Message messages.EraseLog) word words are =
    (ap (λ ws. is_other (first ws)) are, ap (λ ws. bytes_eq (first ws) (codes "at")) are)
message_first (asks.Message (messages.SelfTest block)) word words are =
    (ap (λ ws. is_other (first ws)) are, ap (λ ws. bytes_eq (first ws) (codes "at")) are)
message_first (asks.Message messages.AlarmReset) word words are =
    (ap (λ ws. is_other (first ws)) are, ap (λ ws. bytes_eq (first ws) (codes "at")) are)
message_first (asks.Octets octets) word words are =
    (ap (λ ws. is_other (first ws)) are, ap (λ ws. bytes_eq (first ws) (codes "at")) are)

-- no other line begins so
pub first_is : (here : Bool) (lane link : ℕ) (asked : Asked) (word : List ℕ) (words : List (List ℕ))
    → word ∷ words ≡ words_if here lane link asked → is_other word ≡ false
first_is true lane link asked word words are = (message_first asked word words are).0
first_is false lane link asked word words are = ap (λ ws. is_other (first ws)) are

-- of these words one is not a line's first, where the line is that of a Monitor record
pub other_none : (lane link : ℕ) (asked : Asked) (word kind : List ℕ) (all words : List (List ℕ)) → all ≡ word ∷ words
    → all ≡ line_words (lines.Monitor lane link asked) → word ≡ kind → is_other kind ≡ true → ⊥
unfolding line_words
other_none lane link asked word kind all words begun are is other =
    let apart = first_is ((lane == 0) && (link == 0)) lane link asked word words (sym begun ∙ are) in
    let same : is_other word ≡ true = ap is_other is ∙ other in
    absurd cc

at_if : (here : Bool) (lane link : ℕ) (asked : Asked) (word : List ℕ) (words : List (List ℕ))
    → word ∷ words ≡ words_if here lane link asked → bytes_eq word (codes "at") ≡ true
    → (here ≡ false) × (words ≡ decimal lane ∷ decimal link ∷ asked_words asked)
at_if true lane link asked word words are is =
    let apart = (message_first asked word words are).1 in absurd cc
at_if false lane link asked word words are is = (refl, ap behind are)

-- behind `at` stand a lane and a link that are not both 0, and the message
pub at_words_are : (lane link : ℕ) (asked : Asked) (word : List ℕ) (all words : List (List ℕ)) → all ≡ word ∷ words
    → all ≡ line_words (lines.Monitor lane link asked) → word ≡ codes "at"
    → IsElsewhere lane link × (words ≡ decimal lane ∷ decimal link ∷ asked_words asked)
unfolding line_words
at_words_are lane link asked word all words begun are is =
    at_if ((lane == 0) && (link == 0)) lane link asked word words (sym begun ∙ are)
    (ap (λ w. bytes_eq w (codes "at")) is)

none_if : (here : Bool) (lane link : ℕ) (asked : Asked) → words_if here lane link asked ≡ [] → ⊥
none_if true lane link asked none = some_words asked none
none_if false lane link asked none = absurd cc

-- the line has words
pub some_line : (lane link : ℕ) (asked : Asked) → line_words (lines.Monitor lane link asked) ≡ [] → ⊥
unfolding line_words
some_line lane link asked none = none_if ((lane == 0) && (link == 0)) lane link asked none

pub elsewhere_words : (lane link : ℕ) (asked : Asked) → IsElsewhere lane link
    → line_words (lines.Monitor lane link asked) ≡ codes "at" ∷ decimal lane ∷ decimal link ∷ asked_words asked
unfolding line_words
elsewhere_words lane link asked is = ap (λ here. words_if here lane link asked) is
