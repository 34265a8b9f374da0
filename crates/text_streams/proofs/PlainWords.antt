-- Words without a mark, joined by it, are read as these words, for `line_says_itself`.
use Rattle.std.proofs.Common.{◌≡◌, ℕ, zero, suc, ◌+◌, ◌/◌, ◌%◌, ◌^◌, ◌<◌, Bool, true, false, List, [], ◌∷◌, ◌++◌}
use Rattle.std.proofs.Common.{length, map, get_or, refl, ap, ◌∙◌, arith, append_assoc}
use Rattle.std.specs.Prelude.{◌==◌, if◌then◌else◌, codes}
use Rattle.std.specs.Fmt.{decimal}
use Rattle.std.specs.List.{AllByRecursion, onto_first}
use Rattle.std.proofs.lemmas.List.{append-nil, map-append}
use Rattle.std.proofs.lemmas.Bool.Decides.{nat_tests}
use Rattle.std.proofs.lemmas.Fmt.{decimal_by_steps}
use Rattle.hex.specs.Hex.{encode_lower, encode_with, lower_digits}
use Rattle.unit_plan.specs.Lines.{parts, words_of, lines_of}
use Rattle.text_words.specs.Words.{octets_word}
use Rattle.input_text.specs.Plain.{plain_octet, said_words}
use Rattle.text_streams.specs.Spelling.{joined, all_spaced}

-- no octet is the mark
abbrev pub lacks : ℕ → List ℕ → Bool
lacks mark [] = true
lacks mark (x ∷ xs) = if x == mark then false else lacks mark xs

-- the word begins with an octet that begins no comment
abbrev pub IsBegun : List ℕ → Type 0
IsBegun [] = ⊥
IsBegun (octet ∷ octets) = (octet == 35) ≡ false

-- the word is read as it stands
abbrev pub IsKept : List ℕ → Type 0
IsKept word = map plain_octet word ≡ word

-- the word has no space and no line feed, begins no comment, and is read as it stands
abbrev pub IsPlain : List ℕ → Type 0
IsPlain word = (lacks 32 word ≡ true) × (lacks 10 word ≡ true) × IsBegun word × IsKept word

abbrev pub ArePlain : List (List ℕ) → Type 0
ArePlain words = AllByRecursion IsPlain words

-- ---- one part

pub both : (b c : Bool) → (if b then false else c) ≡ true → (b ≡ false) × (c ≡ true)
both true c is = absurd cc
both false c is = (refl, is)

pub from_both : (b c : Bool) → b ≡ false → c ≡ true → (if b then false else c) ≡ true
from_both true c apart is = absurd cc
from_both false c apart is = is

pub before_mark : (b : Bool) (x : ℕ) (xs : List ℕ) (behind more : List (List ℕ)) → b ≡ false → behind ≡ xs ∷ more
    → (if b then [] ∷ behind else onto_first x behind) ≡ (x ∷ xs) ∷ more
before_mark true x xs behind more apart is = absurd cc
before_mark false x xs behind more apart is = ap (onto_first x) is

at_mark : (mark : ℕ) → (mark == mark) ≡ true
at_mark mark = grind (arith, nat_tests)

behind_mark : (b : Bool) (x : ℕ) (rest : List (List ℕ)) → b ≡ true
    → (if b then [] ∷ rest else onto_first x rest) ≡ [] ∷ rest
behind_mark true x rest is = refl
behind_mark false x rest is = absurd cc

pub part_then : (mark : ℕ) (part rest : List ℕ) (last : List (List ℕ)) → lacks mark part ≡ true
    → parts mark last (part ++ mark ∷ rest) ≡ part ∷ parts mark last rest
part_then mark [] rest last plain = behind_mark (mark == mark) mark (parts mark last rest) (at_mark mark)
part_then mark (x ∷ xs) rest last plain =
    let each = both (x == mark) (lacks mark xs) plain in
    before_mark (x == mark) x xs (parts mark last (xs ++ mark ∷ rest)) (parts mark last rest) each.0
    (part_then mark xs rest last each.1)

word_last : (word : List ℕ) → lacks 32 word ≡ true → words_of word ≡ word ∷ []
word_last [] plain = refl
word_last (x ∷ xs) plain =
    let each = both (x == 32) (lacks 32 xs) plain in
    before_mark (x == 32) x xs (words_of xs) [] each.0 (word_last xs each.1)

-- ---- all words

pub joined_read : (word : List ℕ) (words : List (List ℕ)) → IsPlain word → ArePlain words
    → words_of (joined (word ∷ words)) ≡ word ∷ words
joined_read word [] plain each = ap words_of (append-nil word) ∙ word_last word plain.0
joined_read word (next ∷ words) plain each =
    part_then 32 word (joined (next ∷ words)) ([] ∷ []) plain.0 ∙ ap (λ ws. word ∷ ws)
    (joined_read next words each.0 each.1)

lacks_append : (mark : ℕ) (xs ys : List ℕ) → lacks mark xs ≡ true → lacks mark ys ≡ true → lacks mark (xs ++ ys) ≡ true
lacks_append mark [] ys front behind = behind
lacks_append mark (x ∷ xs) ys front behind =
    let each = both (x == mark) (lacks mark xs) front in
    from_both (x == mark) (lacks mark (xs ++ ys)) each.0 (lacks_append mark xs ys each.1 behind)

spaced_lacks : (words : List (List ℕ)) → ArePlain words → lacks 10 (all_spaced words) ≡ true
spaced_lacks [] each = refl
spaced_lacks (word ∷ words) each = lacks_append 10 word (all_spaced words) each.0.1 (spaced_lacks words each.1)

spaced_kept : (words : List (List ℕ)) → ArePlain words → IsKept (all_spaced words)
spaced_kept [] each = refl
spaced_kept (word ∷ words) each =
    ap (λ octets. 32 ∷ octets) (map-append plain_octet word (all_spaced words)
    ∙ ap (λ front. front ++ map plain_octet (all_spaced words)) each.0.3 ∙ ap (λ behind. word ++ behind)
    (spaced_kept words each.1))

-- they are read as they stand
pub joined_kept : (word : List ℕ) (words : List (List ℕ)) → IsPlain word → ArePlain words
    → IsKept (joined (word ∷ words))
joined_kept word words plain each =
    map-append plain_octet word (all_spaced words) ∙ ap (λ front. front ++ map plain_octet (all_spaced words)) plain.3
    ∙ ap (λ behind. word ++ behind) (spaced_kept words each)

one_said : (b : Bool) (octet : ℕ) (word : List ℕ) (words : List (List ℕ)) → b ≡ false
    → (if b then [] else (octet ∷ word) ∷ words) ≡ (octet ∷ word) ∷ words
one_said true octet word words apart = absurd cc
one_said false octet word words apart = refl

-- and each of them counts
pub all_said : (words : List (List ℕ)) → ArePlain words → said_words words ≡ words
all_said [] each = refl
all_said ([] ∷ words) each = absurd each.0.2
all_said ((octet ∷ word) ∷ words) each =
    one_said (octet == 35) octet word (said_words words) each.0.2 ∙ ap (λ more. (octet ∷ word) ∷ more)
    (all_said words each.1)

-- and they are one line
pub joined_line : (word : List ℕ) (words : List (List ℕ)) (rest : List ℕ) → IsPlain word → ArePlain words
    → lines_of ((joined (word ∷ words) ++ codes "\n") ++ rest) ≡ joined (word ∷ words) ∷ lines_of rest
joined_line word words rest plain each =
    ap lines_of (append_assoc (joined (word ∷ words)) (codes "\n") rest)
    ∙ part_then 10 (joined (word ∷ words)) rest []
    (lacks_append 10 word (all_spaced words) plain.1 (spaced_lacks words each))

-- ---- numbers

lacks_more : (mark : ℕ) (xs : List ℕ) (x : ℕ) → lacks mark xs ≡ true → (x == mark) ≡ false
    → lacks mark (xs ++ x ∷ []) ≡ true
lacks_more mark xs x plain apart = lacks_append mark xs (x ∷ []) plain (from_both (x == mark) true apart refl)

digit_is_no_mark : (mark n : ℕ) → mark < 48 → ((48 + n) == mark) ≡ false
digit_is_no_mark mark n low = grind (arith, nat_tests)

decimal_lacks : (mark n : ℕ) → mark < 48 → n < 2 ^ 64 → lacks mark (decimal n) ≡ true
decimal_lacks mark n low small = decimal_by_steps (λ n digits. lacks mark digits ≡ true)
    (λ n one. from_both ((48 + n) == mark) true (digit_is_no_mark mark n low) refl)
    (λ n digits more plain. lacks_more mark digits (48 + n % 10) plain (digit_is_no_mark mark (n % 10) low)) n small

digit_kept : (n : ℕ) → n < 10 → plain_octet (48 + n) ≡ 48 + n
digit_kept n one = grind (arith, nat_tests)

kept_more : (xs : List ℕ) (x : ℕ) → IsKept xs → plain_octet x ≡ x → IsKept (xs ++ x ∷ [])
kept_more xs x kept same =
    map-append plain_octet xs (x ∷ []) ∙ ap (λ front. front ++ plain_octet x ∷ []) kept
    ∙ ap (λ last. xs ++ last ∷ []) same

decimal_kept : (n : ℕ) → n < 2 ^ 64 → IsKept (decimal n)
decimal_kept n small = decimal_by_steps (λ n digits. IsKept digits)
    (λ n one. ap (λ digit. digit ∷ []) (digit_kept n one))
    (λ n digits more kept. kept_more digits (48 + n % 10) kept (digit_kept (n % 10) (omega arith))) n small

begun_more : (xs : List ℕ) (x : ℕ) → IsBegun xs → IsBegun (xs ++ x ∷ [])
begun_more [] x begun = absurd begun
begun_more (y ∷ ys) x begun = begun

decimal_begun : (n : ℕ) → n < 2 ^ 64 → IsBegun (decimal n)
decimal_begun n small = decimal_by_steps (λ n digits. IsBegun digits)
    (λ n one. digit_is_no_mark 35 n (omega arith))
    (λ n digits more begun. begun_more digits (48 + n % 10) begun) n small

pub decimal_plain : (n : ℕ) → n < 2 ^ 64 → IsPlain (decimal n)
decimal_plain n small = (
  decimal_lacks 32 n (omega arith) small,
  decimal_lacks 10 n (omega arith) small,
  decimal_begun n small,
  decimal_kept n small,
)

pub decimals_plain : (P : ℕ → Type 0) (ns : List ℕ) → ((n : ℕ) → P n → n < 2 ^ 64) → AllByRecursion P ns
    → ArePlain (map decimal ns)
decimals_plain P [] small each = tt
decimals_plain P (n ∷ ns) small each = (decimal_plain n (small n each.0), decimals_plain P ns small each.1)

-- ---- octets

no_mark_at : (mark : ℕ) (xs : List ℕ) → (0 == mark) ≡ false → lacks mark xs ≡ true → (k : ℕ)
    → (get_or xs k 0 == mark) ≡ false
no_mark_at mark [] some plain k = some
no_mark_at mark (x ∷ xs) some plain zero = (both (x == mark) (lacks mark xs) plain).0
no_mark_at mark (x ∷ xs) some plain (suc k) = no_mark_at mark xs some (both (x == mark) (lacks mark xs) plain).1 k

digits_lack : (mark : ℕ) → (0 == mark) ≡ false → lacks mark lower_digits ≡ true → (octets : List ℕ)
    → lacks mark (encode_lower octets) ≡ true
unfolding encode_with
digits_lack mark some apart [] = refl
digits_lack mark some apart (octet ∷ octets) =
    let high = no_mark_at mark lower_digits some apart (octet / 16) in
    let low = no_mark_at mark lower_digits some apart (octet % 16) in
    from_both _ _ high (from_both _ _ low (digits_lack mark some apart octets))

first_of : {x y : ℕ} {xs ys : List ℕ} → x ∷ xs ≡ y ∷ ys → x ≡ y
first_of is = cc

behind_of : {x y : ℕ} {xs ys : List ℕ} → x ∷ xs ≡ y ∷ ys → xs ≡ ys
behind_of is = cc

three : {high high_new low low_new : ℕ} {digits digits_new : List ℕ} → high ≡ high_new → low ≡ low_new
    → digits ≡ digits_new
    → high ∷ low ∷ digits ≡ high_new ∷ low_new ∷ digits_new
three high low digits = cc

kept_at : (xs : List ℕ) → IsKept xs → (k : ℕ) → plain_octet (get_or xs k 0) ≡ get_or xs k 0
kept_at [] kept k = refl
kept_at (x ∷ xs) kept zero = first_of kept
kept_at (x ∷ xs) kept (suc k) = kept_at xs (behind_of kept) k

digits_kept : (octets : List ℕ) → IsKept (encode_lower octets)
unfolding encode_with
digits_kept [] = refl
digits_kept (octet ∷ octets) =
    three (kept_at lower_digits refl (octet / 16)) (kept_at lower_digits refl (octet % 16)) (digits_kept octets)

digits_begun : (octets : List ℕ) → 0 < length octets → IsBegun (encode_lower octets)
unfolding encode_with
digits_begun [] some = absurd (omega arith)
digits_begun (octet ∷ octets) some = no_mark_at 35 lower_digits refl refl (octet / 16)

pub digits_plain : (octets : List ℕ) → 0 < length octets → IsPlain (encode_lower octets)
digits_plain octets some =
    (digits_lack 32 refl refl octets, digits_lack 10 refl refl octets, digits_begun octets some, digits_kept octets)

pub octets_plain : (octets : List ℕ) → IsPlain (octets_word octets)
octets_plain [] = (refl, refl, refl, refl)
octets_plain (octet ∷ octets) = digits_plain (octet ∷ octets) (omega arith)
