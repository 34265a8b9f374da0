-- The words of a line in bounds have no space, for `line_says_itself` and `put_line`.
use Rattle.std.proofs.Common.{◌≡◌, ℕ, ◌^◌, ◌<◌, ◌≤◌, Bool, true, false, if◌then◌else◌, IsTrue, List, [], ◌∷◌, ◌++◌}
use Rattle.std.proofs.Common.{length, map, codes, refl, sym, ap, ◌∙◌, arith, append_assoc}
use Rattle.std.specs.Fmt.{decimal}
use Rattle.std.specs.Prelude.{◌==◌, ◌&&◌}
use Rattle.hex.specs.Hex.{encode_lower}
use Rattle.fsr_log.specs.declared.messages.Monitoring.TheVariants as messages
use Rattle.input_text.specs.declared.line.Asked.{Asked}
use Rattle.input_text.specs.declared.line.Asked.TheVariants as asks
use Rattle.input_text.specs.Monitor.{IsAsked, asked_words}
use Rattle.std.proofs.lemmas.Bool.Decides.{nat_tests}
use Rattle.std.proofs.lemmas.List.{append-nil}
use Rattle.record_io.specs.declared.reader.TheConstants.{LANES}
use Rattle.sdls_base.specs.declared.states.Direction.{Direction}
use Rattle.sdls_base.specs.declared.states.Direction.TheVariants.{Send, Receive}
use Rattle.sdls_base.specs.declared.states.Suite.{Suite}
use Rattle.sdls_base.specs.declared.states.Suite.TheVariants.{Cmac, Gcm}
use Rattle.replay_window.specs.declared.TheConstants.{MOST_BACK}
use Rattle.replay_window.specs.WindowField.{back_of, width_of, IsWindowField}
use Rattle.ep_codec.specs.Field.{is_key, is_spi}
use Rattle.ep_codec.specs.Command.{IsInBounds, HasTypes, AreKeys, IsSealedLength}
use Rattle.ep_codec.specs.declared.command.Command.{Command}
use Rattle.ep_codec.specs.declared.command.Command.TheVariants.{Rekeying, Activate, Deactivate, Verify, Destroy}
use Rattle.ep_codec.specs.declared.command.Command.TheVariants.{Inventory, Compose, ReadNumber, Create, Delete}
use Rattle.ep_codec.specs.declared.command.Command.TheVariants.{SetWindow, Rekey, Expire, SetNumber, Start, Stop}
use Rattle.ep_codec.specs.declared.command.Command.TheVariants.{Status}
use Rattle.input_text.specs.declared.line.Line.{Line}
use Rattle.input_text.specs.declared.line.Line.TheVariants as lines
use Rattle.text_words.specs.Words.{direction_word, octets_word, suite_word}
use Rattle.input_text.specs.Command.{back_words, command_words, value_words, window_words}
use Rattle.input_text.specs.Line.{IsLine, line_words}
use Rattle.unit_plan.specs.Lines.{words_of, lines_of}
use Rattle.input_text.specs.Plain.{line_said, said_words}
use Rattle.text_streams.specs.Spelling.{at_text, joined, line_text, all_spaced}
use Rattle.text_streams.proofs.PlainWords.{IsPlain, ArePlain, all_said, joined_kept, joined_read, joined_line}
use Rattle.text_streams.proofs.PlainWords.{decimal_plain, decimals_plain, digits_plain, octets_plain}

key_small : (key : ℕ) → IsTrue (is_key key) → key < 2 ^ 64
key_small key is = grind (arith, nat_tests)

spi_plain : (spi : ℕ) → IsTrue (is_spi spi) → IsPlain (decimal spi)
spi_plain spi is = let small : spi < 2 ^ 64 = grind (arith, nat_tests) in decimal_plain spi small

key_plain : (key : ℕ) → IsTrue (is_key key) → IsPlain (decimal key)
key_plain key is = decimal_plain key (key_small key is)

chosen_plain : (b : Bool) (words : List (List ℕ)) → ArePlain words → ArePlain (if b then [] else words)
chosen_plain true words each = tt
chosen_plain false words each = each

back_plain : (back : ℕ) → back ≤ MOST_BACK → ArePlain (back_words back)
back_plain back low =
    chosen_plain (back == 0) (codes "back" ∷ decimal back ∷ [])
    ((refl, refl, refl, refl), (decimal_plain back (omega (arith, low)), tt))

window_plain : (window : ℕ) → IsWindowField window → ArePlain (window_words window)
window_plain window is =
    let most = is.width.most in
    (decimal_plain (width_of window) (omega (arith, most)), back_plain (back_of window) is.back)

append_plain : (words more : List (List ℕ)) → ArePlain words → ArePlain more → ArePlain (words ++ more)
append_plain [] more each behind = behind
append_plain (word ∷ words) more each behind = (each.0, append_plain words more each.1 behind)

keys_plain : (keys : List ℕ) → AreKeys keys → ArePlain (map decimal keys)
keys_plain keys are = decimals_plain (λ key. IsTrue (is_key key)) keys key_small are

direction_plain : (direction : Direction) → IsPlain (direction_word direction)
direction_plain Send = (refl, refl, refl, refl)
direction_plain Receive = (refl, refl, refl, refl)

suite_plain : (suite : Suite) → IsPlain (suite_word suite)
suite_plain Cmac = (refl, refl, refl, refl)
suite_plain Gcm = (refl, refl, refl, refl)

sealed_some : (sealed : List ℕ) → IsSealedLength sealed → 0 < length sealed
sealed_some sealed is = grind (arith, nat_tests)

values_plain : (command : Command) → IsInBounds command → HasTypes command → ArePlain (value_words command)
unfolding value_words IsInBounds HasTypes
values_plain (Rekeying master vector sealed tag) bounds types = (
  key_plain master types.0,
  (
    digits_plain vector (let long = types.1 in omega (arith, long)),
    (
      digits_plain sealed (sealed_some sealed bounds),
      (digits_plain tag (let long = types.2 in omega (arith, long)), tt),
    ),
  ),
)
values_plain (Activate keys) bounds types = keys_plain keys types
values_plain (Deactivate keys) bounds types = keys_plain keys types
values_plain (Verify key challenge) bounds types =
    (key_plain key types.0, (digits_plain challenge (let long = types.1 in omega (arith, long)), tt))
values_plain (Destroy keys) bounds types = keys_plain keys types
values_plain (Inventory first last) bounds types =
    let low = types.0 in let high = types.1 in
    (decimal_plain first (omega (arith, low)), (decimal_plain last (omega (arith, high)), tt))
values_plain (Compose master keys) bounds types = (key_plain master types.0, keys_plain keys types.1)
values_plain (ReadNumber spi) bounds types = (spi_plain spi types, tt)
values_plain (Create sa) bounds types = (
  spi_plain sa.spi types,
  (
    direction_plain sa.direction,
    (
      suite_plain sa.suite,
      append_plain (window_words sa.window) (map decimal sa.channels) (window_plain sa.window bounds.0)
          (decimals_plain (λ channel. channel ≤ 63) sa.channels (λ channel few. omega arith) bounds.2),
    ),
  ),
)
values_plain (Delete spi) bounds types = (spi_plain spi types, tt)
values_plain (SetWindow spi window) bounds types = (spi_plain spi types, window_plain window bounds)
values_plain (Rekey spi key number) bounds types =
    (spi_plain spi types.0, (key_plain key types.1, (decimal_plain number types.2, tt)))
values_plain (Expire spi) bounds types = (spi_plain spi types, tt)
values_plain (SetNumber spi number) bounds types = (spi_plain spi types.0, (decimal_plain number types.1, tt))
values_plain (Start spi) bounds types = (spi_plain spi types, tt)
values_plain (Stop spi) bounds types = (spi_plain spi types, tt)
values_plain (Status spi) bounds types = (spi_plain spi types, tt)

command_plain : (command : Command) → IsInBounds command → HasTypes command → ArePlain (command_words command)
command_plain (Rekeying master vector sealed tag) bounds types =
    ((refl, refl, refl, refl), values_plain (Rekeying master vector sealed tag) bounds types)
command_plain (Activate keys) bounds types = ((refl, refl, refl, refl), values_plain (Activate keys) bounds types)
command_plain (Deactivate keys) bounds types = ((refl, refl, refl, refl), values_plain (Deactivate keys) bounds types)
command_plain (Verify key challenge) bounds types =
    ((refl, refl, refl, refl), values_plain (Verify key challenge) bounds types)
command_plain (Destroy keys) bounds types = ((refl, refl, refl, refl), values_plain (Destroy keys) bounds types)
command_plain (Inventory first last) bounds types =
    ((refl, refl, refl, refl), values_plain (Inventory first last) bounds types)
command_plain (Compose master keys) bounds types =
    ((refl, refl, refl, refl), values_plain (Compose master keys) bounds types)
command_plain (ReadNumber spi) bounds types = ((refl, refl, refl, refl), values_plain (ReadNumber spi) bounds types)
command_plain (Create sa) bounds types = ((refl, refl, refl, refl), values_plain (Create sa) bounds types)
command_plain (Delete spi) bounds types = ((refl, refl, refl, refl), values_plain (Delete spi) bounds types)
command_plain (SetWindow spi window) bounds types =
    ((refl, refl, refl, refl), values_plain (SetWindow spi window) bounds types)
command_plain (Rekey spi key number) bounds types =
    ((refl, refl, refl, refl), values_plain (Rekey spi key number) bounds types)
command_plain (Expire spi) bounds types = ((refl, refl, refl, refl), values_plain (Expire spi) bounds types)
command_plain (SetNumber spi number) bounds types =
    ((refl, refl, refl, refl), values_plain (SetNumber spi number) bounds types)
command_plain (Start spi) bounds types = ((refl, refl, refl, refl), values_plain (Start spi) bounds types)
command_plain (Stop spi) bounds types = ((refl, refl, refl, refl), values_plain (Stop spi) bounds types)
command_plain (Status spi) bounds types = ((refl, refl, refl, refl), values_plain (Status spi) bounds types)

lane_plain : (lane : ℕ) → lane < LANES → IsPlain (decimal lane)
lane_plain lane few = decimal_plain lane (omega arith)

link_plain : (link : ℕ) → link < 2 ^ 8 → IsPlain (decimal link)
link_plain link few = decimal_plain link (omega arith)

-- what stands in front of a line, and whether its words are plain
pub record HasPlainWords (line : Line) : Type 0 where
  pub word : List ℕ
  pub words : List (List ℕ)
  pub are : line_words line ≡ word ∷ words
  pub plain : IsPlain word
  pub each : ArePlain words

-- the words of a monitoring message are plain, and there is one
pub record HasPlainAsked (words : List (List ℕ)) : Type 0 where
  pub word : List ℕ
  pub rest : List (List ℕ)
  pub are : words ≡ word ∷ rest
  pub plain : IsPlain word
  pub each : ArePlain rest

plain_name : (word : List ℕ) → IsPlain word → HasPlainAsked (word ∷ [])
plain_name word is = record { word = word; rest = []; are = refl; plain = is; each = tt }

plain_digits : (word : List ℕ) (octets : List ℕ) → IsPlain word → 0 < length octets
    → HasPlainAsked (word ∷ encode_lower octets ∷ [])
plain_digits word octets is some = record {
  word = word;
  rest = encode_lower octets ∷ [];
  are = refl;
  plain = is;
  each = (digits_plain octets some, tt);
}

plain_asked : (asked : Asked) → IsAsked asked → HasPlainAsked (asked_words asked)
unfolding asked_words IsAsked
plain_asked (asks.Message messages.Ping) is = plain_name (codes "ping") (refl, refl, refl, refl)
plain_asked (asks.Message messages.LogStatus) is = plain_name (codes "log-status") (refl, refl, refl, refl)
plain_asked (asks.Message messages.DumpLog) is = plain_name (codes "dump-log") (refl, refl, refl, refl)
plain_asked (asks.Message messages.EraseLog) is = plain_name (codes "erase-log") (refl, refl, refl, refl)
plain_asked (asks.Message (messages.SelfTest block)) is =
    let long = is.0 in plain_digits (codes "self-test") block (refl, refl, refl, refl) (omega (arith, long))
plain_asked (asks.Message messages.AlarmReset) is = plain_name (codes "alarm-reset") (refl, refl, refl, refl)
plain_asked (asks.Octets octets) is =
    let long = is.some in plain_digits (codes "monitor") octets (refl, refl, refl, refl) (omega (arith, long))

record HasPlainIf (here : Bool) (lane link : ℕ) (asked : Asked) : Type 0 where
  word : List ℕ
  words : List (List ℕ)
  are : (if here then [] else codes "at" ∷ decimal lane ∷ decimal link ∷ []) ++ asked_words asked ≡ word ∷ words
  plain : IsPlain word
  each : ArePlain words

monitor_if : (here : Bool) (lane link : ℕ) (asked : Asked) → lane < 2 ^ 8 → link < 2 ^ 8
    → HasPlainAsked (asked_words asked)
    → HasPlainIf here lane link asked
monitor_if true lane link asked lane_few link_few has =
    record { word = has.word; words = has.rest; are = has.are; plain = has.plain; each = has.each }
monitor_if false lane link asked lane_few link_few has = record {
  word = codes "at";
  words = decimal lane ∷ decimal link ∷ asked_words asked;
  are = refl;
  plain = (refl, refl, refl, refl);
  each = (link_plain lane lane_few, (link_plain link link_few, rw has.are (has.plain, has.each)));
}

has_monitor : (lane link : ℕ) (asked : Asked) → HasPlainIf ((lane == 0) && (link == 0)) lane link asked
    → HasPlainWords (lines.Monitor lane link asked)
unfolding line_words
has_monitor lane link asked has =
    record { word = has.word; words = has.words; are = has.are; plain = has.plain; each = has.each }

plain_words : (line : Line) → IsLine line → HasPlainWords line
unfolding IsLine line_words
plain_words lines.Fence is = record {
  word = codes "fence";
  words = [];
  are = refl;
  plain = (refl, refl, refl, refl);
  each = tt;
}
plain_words (lines.Protect lane link octets) is = record {
  word = codes "protect";
  words = decimal lane ∷ decimal link ∷ octets_word octets ∷ [];
  are = refl;
  plain = (refl, refl, refl, refl);
  each = (lane_plain lane is.0, (link_plain link is.1, (octets_plain octets, tt)));
}
plain_words (lines.Open lane link octets) is = record {
  word = codes "open";
  words = decimal lane ∷ decimal link ∷ octets_word octets ∷ [];
  are = refl;
  plain = (refl, refl, refl, refl);
  each = (lane_plain lane is.0, (link_plain link is.1, (octets_plain octets, tt)));
}
plain_words (lines.Command lane command) is = record {
  word = codes "command";
  words = decimal lane ∷ command_words command;
  are = refl;
  plain = (refl, refl, refl, refl);
  each = (lane_plain lane is.0, command_plain command is.1.bounds is.1.types);
}
plain_words (lines.Message lane octets) is = record {
  word = codes "command";
  words = decimal lane ∷ codes "octets" ∷ octets_word octets ∷ [];
  are = refl;
  plain = (refl, refl, refl, refl);
  each = (lane_plain lane is.0, ((refl, refl, refl, refl), (octets_plain octets, tt)));
}
plain_words (lines.Monitor lane link asked) is =
    has_monitor lane link asked
    (monitor_if ((lane == 0) && (link == 0)) lane link asked is.0 is.1 (plain_asked asked is.2))

-- the words of a line are read again
pub line_read : (line : Line) → IsLine line → line_said (joined (line_words line)) ≡ line_words line
line_read line is =
    let has = plain_words line is in
    ap (λ words. line_said (joined words)) has.are
    ∙ ap (λ text. said_words (words_of text)) (joined_kept has.word has.words has.plain has.each)
    ∙ ap said_words (joined_read has.word has.words has.plain has.each)
    ∙ all_said (has.word ∷ has.words) (has.plain, has.each) ∙ sym has.are

-- and with a line feed they are one line
pub one_line : (line : Line) → IsLine line → (rest : List ℕ)
    → lines_of (line_text line ++ rest) ≡ joined (line_words line) ∷ lines_of rest
one_line line is rest =
    let has = plain_words line is in
    rw has.are (joined_line has.word has.words rest has.plain has.each)

-- ---- where a Monitor record stands is in front of its message, for `put_monitor`

record Begins (words : List (List ℕ)) : Type 0 where
  word : List ℕ
  rest : List (List ℕ)
  are : words ≡ word ∷ rest

begins : (asked : Asked) → Begins (asked_words asked)
unfolding asked_words
begins (asks.Message messages.Ping) = record { word = codes "ping"; rest = []; are = refl }
begins (asks.Message messages.LogStatus) = record { word = codes "log-status"; rest = []; are = refl }
begins (asks.Message messages.DumpLog) = record { word = codes "dump-log"; rest = []; are = refl }
begins (asks.Message messages.EraseLog) = record { word = codes "erase-log"; rest = []; are = refl }
begins (asks.Message (messages.SelfTest block)) =
    record { word = codes "self-test"; rest = encode_lower block ∷ []; are = refl }
begins (asks.Message messages.AlarmReset) = record { word = codes "alarm-reset"; rest = []; are = refl }
begins (asks.Octets octets) = record { word = codes "monitor"; rest = encode_lower octets ∷ []; are = refl }

two_spaced : (lane link behind : List ℕ)
    → ((lane ++ 32 ∷ (link ++ [])) ++ codes " ") ++ behind ≡ lane ++ 32 ∷ (link ++ 32 ∷ behind)
two_spaced lane link behind =
    append_assoc (lane ++ 32 ∷ (link ++ [])) (codes " ") behind ∙ append_assoc lane (32 ∷ (link ++ [])) (32 ∷ behind)
    ∙ ap (λ text. lane ++ 32 ∷ (text ++ 32 ∷ behind)) (append-nil link)

text_if : (here : Bool) (lane link : ℕ) (words : List (List ℕ)) → Begins words
    → joined ((if here then [] else codes "at" ∷ decimal lane ∷ decimal link ∷ []) ++ words)
    ≡ (if here then [] else codes "at" ++ (all_spaced (decimal lane ∷ decimal link ∷ []) ++ codes " ")) ++ joined words
text_if true lane link words has = refl
text_if false lane link words has =
    rw has.are
    (ap (λ text. 97 ∷ 116 ∷ 32 ∷ text)
    (sym (two_spaced (decimal lane) (decimal link) (joined (has.word ∷ has.rest)))))

pub monitor_text : (lane link : ℕ) (asked : Asked)
    → joined (line_words (lines.Monitor lane link asked)) ≡ at_text lane link ++ joined (asked_words asked)
unfolding line_words
monitor_text lane link asked = text_if ((lane == 0) && (link == 0)) lane link (asked_words asked) (begins asked)

-- what was put, one behind the other
pub monitor_put : (lane link : ℕ) (asked : Asked) (old middle new : List ℕ) → middle ≡ old ++ at_text lane link
    → new ≡ middle ++ joined (asked_words asked) → new ≡ old ++ joined (line_words (lines.Monitor lane link asked))
monitor_put lane link asked old middle new first second =
    second ∙ ap (λ text. text ++ joined (asked_words asked)) first
    ∙ append_assoc old (at_text lane link) (joined (asked_words asked))
    ∙ ap (λ text. old ++ text) (sym (monitor_text lane link asked))
