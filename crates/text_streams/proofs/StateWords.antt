-- The text of a line and its words, for `read_state_line` and `put_next_object`.
use Rattle.std.proofs.Common.{◌≡◌, ℕ, ◌^◌, ◌<◌, Bool, true, false, if◌then◌else◌, List, [], ◌∷◌, ◌++◌, codes, Option}
use Rattle.std.proofs.Common.{Some, None, IfSome, refl, sym, ap, ◌∙◌, arith, append_assoc}
use Rattle.std.specs.Prelude.{◌==◌}
use Rattle.std.specs.Fmt.{decimal}
use Rattle.std.specs.List.{onto_first}
use Rattle.std.proofs.lemmas.List.{append-nil, append_cancel_right}
use Rattle.std.proofs.lemmas.Bool.Decides.{nat_tests}
use Rattle.sdls_base.specs.declared.states.Direction.{Direction}
use Rattle.sdls_base.specs.declared.states.Direction.TheVariants.{Send, Receive}
use Rattle.sdls_base.specs.declared.states.KeyState.{KeyState}
use Rattle.sdls_base.specs.declared.states.KeyState.TheVariants.{PreActive, Active, Deactivated, Destroyed}
use Rattle.sdls_base.specs.declared.states.SaState.{SaState}
use Rattle.sdls_base.specs.declared.states.SaState.TheVariants.{Unkeyed, Keyed, Operational}
use Rattle.sdls_base.specs.declared.states.Suite.{Suite}
use Rattle.sdls_base.specs.declared.states.Suite.TheVariants.{Cmac, Gcm}
use Rattle.unit_plan.specs.Lines.{lines_of, words_of}
use Rattle.text_words.specs.Words.{direction_word, key_state_word, sa_state_word, suite_word}
use Rattle.status_text.specs.Text.{association_text, held_text, key_text, slots_line}
use Rattle.text_streams.specs.Spelling.{joined, all_spaced}
use Rattle.text_streams.proofs.PlainWords.{IsPlain, ArePlain, decimal_plain, joined_line, joined_read}
use Rattle.text_streams.specs.declared.state_line.StateLine.{StateLine}
use Rattle.text_streams.specs.declared.state_line.StateLine.TheVariants.{Slots, Key, Association}
use Rattle.text_streams.specs.StateText.{IsStateLine, back_words, state_text, state_words}

-- ---- the words of a text, joined, are the text

record HasFirst (words : List (List ℕ)) : Type 0 where
  first : List ℕ
  more : List (List ℕ)
  are : words ≡ first ∷ more

first_of : (mark : Bool) (x : ℕ) (words : List (List ℕ)) → HasFirst words
    → HasFirst (if mark then [] ∷ words else onto_first x words)
first_of true x words has = record { first = []; more = words; are = refl }
first_of false x words has = record { first = x ∷ has.first; more = has.more; are = ap (onto_first x) has.are }

has_first : (text : List ℕ) → HasFirst (words_of text)
has_first [] = record { first = []; more = []; are = refl }
has_first (x ∷ xs) = first_of (x == 32) x (words_of xs) (has_first xs)

joined_space : (x : ℕ) (words : List (List ℕ)) (first : List ℕ) (more : List (List ℕ)) → words ≡ first ∷ more → x ≡ 32
    → joined ([] ∷ words) ≡ x ∷ joined words
joined_space x words first more are is = rw (are, is) refl

joined_octet : (x : ℕ) (words : List (List ℕ)) (first : List ℕ) (more : List (List ℕ)) → words ≡ first ∷ more
    → joined (onto_first x words) ≡ x ∷ joined words
joined_octet x words first more are = rw are refl

joined_more : (mark : Bool) (x : ℕ) (words : List (List ℕ)) → HasFirst words → (mark ≡ true → x ≡ 32)
    → joined (if mark then [] ∷ words else onto_first x words) ≡ x ∷ joined words
joined_more true x words has is = joined_space x words has.first has.more has.are (is refl)
joined_more false x words has is = joined_octet x words has.first has.more has.are

is_space : (x : ℕ) → (x == 32) ≡ true → x ≡ 32
is_space x is = grind (arith, nat_tests)

joined_words : (text : List ℕ) → joined (words_of text) ≡ text
joined_words [] = refl
joined_words (x ∷ xs) =
    joined_more (x == 32) x (words_of xs) (has_first xs) (is_space x) ∙ ap (λ text. x ∷ text) (joined_words xs)

-- ---- the words of a line, joined, are its text

-- words, a space before each, and what stands behind them
abbrev ended : List (List ℕ) → List ℕ → List ℕ
ended [] behind = behind
ended (word ∷ words) behind = 32 ∷ (word ++ ended words behind)

ended_is : (words : List (List ℕ)) (behind : List ℕ) → all_spaced words ++ behind ≡ ended words behind
ended_is [] behind = refl
ended_is (word ∷ words) behind =
    ap (λ text. 32 ∷ text) (append_assoc word (all_spaced words) behind ∙ ap (λ text. word ++ text)
    (ended_is words behind))

line_joined : (word : List ℕ) (words : List (List ℕ)) → joined (word ∷ words) ++ codes "\n"
    ≡ word ++ ended words (codes "\n")
line_joined word words =
    append_assoc word (all_spaced words) (codes "\n") ∙ ap (λ text. word ++ text) (ended_is words (codes "\n"))

back_ended : (none : Bool) (back : ℕ) → (if none then [] else codes " back " ++ decimal back) ++ codes "\n"
    ≡ ended (if none then [] else codes "back" ∷ decimal back ∷ []) (codes "\n")
back_ended true back = refl
back_ended false back = refl

-- texts one behind the other, in either nesting
abbrev nested_left : List ℕ → List (List ℕ) → List ℕ
nested_left front [] = front
nested_left front (text ∷ texts) = nested_left (front ++ text) texts

abbrev nested_right : List (List ℕ) → List ℕ
nested_right [] = []
nested_right (text ∷ texts) = text ++ nested_right texts

nested : (front : List ℕ) (texts : List (List ℕ)) → nested_left front texts ≡ front ++ nested_right texts
nested front [] = sym (append-nil front)
nested front (text ∷ texts) = nested (front ++ text) texts ∙ append_assoc front text (nested_right texts)

held_ended : (key window back : ℕ) → held_text key window back ++ codes "\n"
    ≡ ended (codes "key" ∷ decimal key ∷ codes "window" ∷ decimal window ∷ back_words back) (codes "\n")
unfolding held_text
held_ended key window back =
    nested (codes " key ") (decimal key ∷ codes " window " ∷ decimal window
    ∷ (if back == 0 then [] else codes " back " ++ decimal back) ∷ codes "\n" ∷ [])
    ∙ ap (λ text. codes " key " ++ (decimal key ++ (codes " window " ++ (decimal window ++ text))))
    (back_ended (back == 0) back)

state_joined : (line : StateLine) → joined (state_words line) ++ codes "\n" ≡ state_text line
unfolding state_words slots_line key_text association_text
state_joined (Slots used slots) =
    line_joined (codes "slots") (decimal used ∷ codes "of" ∷ decimal slots ∷ [])
    ∙ sym (nested (codes "slots ") (decimal used ∷ codes " of " ∷ decimal slots ∷ codes "\n" ∷ []))
state_joined (Key id state mark floor) =
    line_joined (codes "key")
    (decimal id ∷ key_state_word state ∷ codes "mark" ∷ decimal mark ∷ codes "floor" ∷ decimal floor ∷ [])
    ∙ sym (nested (codes "key ") (decimal id ∷ codes " " ∷ key_state_word state ∷ codes " mark " ∷ decimal mark
    ∷ codes " floor " ∷ decimal floor ∷ codes "\n" ∷ []))
state_joined (Association spi direction suite state key window back) =
    line_joined (codes "sa") (decimal spi ∷ direction_word direction ∷ suite_word suite ∷ sa_state_word state
    ∷ codes "key" ∷ decimal key ∷ codes "window" ∷ decimal window ∷ back_words back)
    ∙ ap (λ text. codes "sa " ++ (decimal spi ++ (codes " " ++ (direction_word direction ++ (codes " "
    ++ (suite_word suite ++ (codes " " ++ (sa_state_word state ++ text)))))))) (sym (held_ended key window back))
    ∙ sym (nested (codes "sa ") (decimal spi ∷ codes " " ∷ direction_word direction ∷ codes " " ∷ suite_word suite
    ∷ codes " " ∷ sa_state_word state ∷ held_text key window back ∷ codes "\n" ∷ []))

-- ---- the words of a line have no space and no line feed

key_state_plain : (state : KeyState) → IsPlain (key_state_word state)
key_state_plain PreActive = (refl, refl, refl, refl)
key_state_plain Active = (refl, refl, refl, refl)
key_state_plain Deactivated = (refl, refl, refl, refl)
key_state_plain Destroyed = (refl, refl, refl, refl)

sa_state_plain : (state : SaState) → IsPlain (sa_state_word state)
sa_state_plain Unkeyed = (refl, refl, refl, refl)
sa_state_plain Keyed = (refl, refl, refl, refl)
sa_state_plain Operational = (refl, refl, refl, refl)

direction_plain : (direction : Direction) → IsPlain (direction_word direction)
direction_plain Send = (refl, refl, refl, refl)
direction_plain Receive = (refl, refl, refl, refl)

suite_plain : (suite : Suite) → IsPlain (suite_word suite)
suite_plain Cmac = (refl, refl, refl, refl)
suite_plain Gcm = (refl, refl, refl, refl)

short_plain : (n : ℕ) → n < 2 ^ 16 → IsPlain (decimal n)
short_plain n small = decimal_plain n (omega (arith, small))

word_plain : (n : ℕ) → n < 2 ^ 32 → IsPlain (decimal n)
word_plain n small = decimal_plain n (omega (arith, small))

back_plain : (none : Bool) (back : ℕ) → back < 2 ^ 8 → ArePlain (if none then [] else codes "back" ∷ decimal back ∷ [])
back_plain true back small = tt
back_plain false back small = ((refl, refl, refl, refl), (decimal_plain back (omega (arith, small)), tt))

record HasPlainWords (line : StateLine) : Type 0 where
  word : List ℕ
  words : List (List ℕ)
  are : state_words line ≡ word ∷ words
  plain : IsPlain word
  each : ArePlain words

plain_words : (line : StateLine) → IsStateLine line → HasPlainWords line
unfolding IsStateLine state_words
plain_words (Slots used slots) is = record {
  word = codes "slots";
  words = decimal used ∷ codes "of" ∷ decimal slots ∷ [];
  are = refl;
  plain = (refl, refl, refl, refl);
  each = (word_plain used is.0, ((refl, refl, refl, refl), (word_plain slots is.1, tt)));
}
plain_words (Key id state mark floor) is = record {
  word = codes "key";
  words = decimal id ∷ key_state_word state ∷ codes "mark" ∷ decimal mark ∷ codes "floor" ∷ decimal floor ∷ [];
  are = refl;
  plain = (refl, refl, refl, refl);
  each = (
    short_plain id is.1,
    (
      key_state_plain state,
      ((refl, refl, refl, refl), (decimal_plain mark is.2, ((refl, refl, refl, refl), (decimal_plain floor is.3, tt)))),
    ),
  );
}
plain_words (Association spi direction suite state key window back) is = record {
  word = codes "sa";
  words = decimal spi ∷ direction_word direction ∷ suite_word suite ∷ sa_state_word state
      ∷ codes "key" ∷ decimal key ∷ codes "window" ∷ decimal window ∷ back_words back;
  are = refl;
  plain = (refl, refl, refl, refl);
  each = (
    short_plain spi is.1,
    (
      direction_plain direction,
      (
        suite_plain suite,
        (
          sa_state_plain state,
          (
            (refl, refl, refl, refl),
            (
              short_plain key is.2,
              ((refl, refl, refl, refl), (decimal_plain window is.3, back_plain (back == 0) back is.4)),
            ),
          ),
        ),
      ),
    ),
  );
}

words_read : (line : StateLine) → IsStateLine line → words_of (joined (state_words line)) ≡ state_words line
words_read line is =
    let has = plain_words line is in rw has.are (joined_read has.word has.words has.plain has.each)

-- ---- what follows

-- a text with the words of a line has its text
pub text_of : (text : List ℕ) (line : StateLine) → words_of text ≡ state_words line
    → text ++ codes "\n" ≡ state_text line
text_of text line are =
    ap (λ text. text ++ codes "\n") (sym (joined_words text) ∙ ap joined are) ∙ state_joined line

-- a text that is a line's, without its line feed
pub text_is : (text : List ℕ) (line : StateLine) → text ++ codes "\n" ≡ state_text line
    → text ≡ joined (state_words line)
text_is text line same = append_cancel_right text (joined (state_words line)) (codes "\n")
    (same ∙ sym (state_joined line))

-- it has the line's words
pub words_are : (text : List ℕ) (line : StateLine) → IsStateLine line → text ++ codes "\n" ≡ state_text line
    → words_of text ≡ state_words line
words_are text line is same = ap words_of (text_is text line same) ∙ words_read line is

-- a line is one line of a text, whatever stands behind it
pub one_line : (line : StateLine) (rest : List ℕ) → IsStateLine line
    → lines_of (state_text line ++ rest) ≡ joined (state_words line) ∷ lines_of rest
one_line line rest is =
    let has = plain_words line is in
    ap (λ text. lines_of (text ++ rest)) (sym (state_joined line))
    ∙ (rw has.are (joined_line has.word has.words rest has.plain has.each))

-- the words of a line with its line feed are its text
pub is_joined : (line : StateLine) → joined (state_words line) ++ codes "\n" ≡ state_text line
is_joined line = state_joined line

-- ---- what is read

-- the line that the words are, if they are one
pub read_as : (result : Option StateLine) (text : List ℕ) (words : List (List ℕ)) → words ≡ words_of text
    → IfSome result (λ line. (words ≡ state_words line) × IsStateLine line)
    → IfSome result (λ line. IsStateLine line × (text ++ codes "\n" ≡ state_text line))
read_as None text words same read = tt
read_as (Some line) text words same read = (read.1, text_of text line (sym same ∙ read.0))

-- whichever line it is
pub read_each : (result : Option StateLine) (words : List (List ℕ))
    → ((used slots : ℕ) → IsStateLine (Slots used slots) → words ≡ state_words (Slots used slots)
    → result ≡ Some (Slots used slots))
    → ((id : ℕ) (state : KeyState) (mark floor : ℕ) → IsStateLine (Key id state mark floor)
    → words ≡ state_words (Key id state mark floor) → result ≡ Some (Key id state mark floor))
    → ((spi : ℕ) (direction : Direction) (suite : Suite) (state : SaState) (key window back : ℕ)
    → IsStateLine (Association spi direction suite state key window back)
    → words ≡ state_words (Association spi direction suite state key window back)
    → result ≡ Some (Association spi direction suite state key window back))
    → (line : StateLine) → IsStateLine line → words ≡ state_words line → result ≡ Some line
read_each result words slots key association (Slots used free) is are = slots used free is are
read_each result words slots key association (Key id state mark floor) is are = key id state mark floor is are
read_each result words slots key association (Association spi direction suite state held window back) is are =
    association spi direction suite state held window back is are

-- ---- parts of lists

pub rest_is : {X : Type 0} {x y : X} {xs ys : List X} → x ∷ xs ≡ y ∷ ys → xs ≡ ys
rest_is same = cc

pub some_is : {X : Type 0} {x y : X} → Some x ≡ Some y → x ≡ y
some_is same = cc
