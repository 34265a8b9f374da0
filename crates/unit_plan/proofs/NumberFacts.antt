-- Decimal numbers, as they are read and as they are spelled.
use Rattle.std.proofs.Common.{◌≡◌, ℕ, ◌-◌, ◌^◌, ◌<◌, List, length, get_or, true, Some, Result, Ok, Err, refl, sym, ap}
use Rattle.std.proofs.Common.{◌∙◌, inl, inr, arith, rules}
use Rattle.std.specs.Char.{is_ascii_digit}
use Rattle.std.specs.List.{list_all}
use Rattle.std.specs.Result.{OkIff, result_unwrap_or}
use Rattle.std.specs.Str.{IsUtf8}
use Rattle.std.specs.Str.Parse.{digits_value, ParsesUnsigned}
use Rattle.std.specs.Fmt.{decimal}
use Rattle.std.proofs.lemmas.Bool.{cases_lt}
use Rattle.std.proofs.lemmas.Bool.Decides.{nat_tests}
use Rattle.std.proofs.lemmas.Option.{cond_some}
use Rattle.std.proofs.lemmas.Str.{IsUtf8-from_ascii}
use Rattle.std.proofs.lemmas.Str.Parse.{IsNumeralModel, numerals_by_value, parse_digits}
use Rattle.std.proofs.lemmas.Fmt.{decimal-digits_value, digits_decimal, digits_value-decimal, decimal_nonempty}
use Rattle.std.proofs.lemmas.Fmt.{first_decimal, decimal_digit, IsAscii-from_digits}
use Rattle.unit_plan.specs.Number.{is_decimal, held, number_of}

-- the test of digits, in the words of std's lemmas
own : IsNumeralModel (λ ds. list_all is_ascii_digit ds ≡ true) (digits_value 10)
own = numerals_by_value _ (search rules)

-- what a decimal number is made of
record Parts (word : List ℕ) : Type 0 where
  some : 0 < length word
  leading : get_or word 0 0 ≡ 48 → length word ≡ 1
  digits : list_all is_ascii_digit word ≡ true

parts_of : (word : List ℕ) → is_decimal word ≡ true → Parts word
parts_of word is = record {
  some = grind (arith, nat_tests);
  leading = grind (arith, nat_tests);
  digits = grind (arith, nat_tests);
}

from_parts : (word : List ℕ) → Parts word → is_decimal word ≡ true
from_parts word p = let s = p.some in let l = p.leading in let d = p.digits in grind (arith, nat_tests)

-- a decimal number is text
pub text_if_decimal : (word : List ℕ) → is_decimal word ≡ true → IsUtf8 word
text_if_decimal word is = IsUtf8-from_ascii word (IsAscii-from_digits word (own.to word (parts_of word is).digits))

-- what `parse` gives at a decimal number
held_value : {E : Type 0} (v : ℕ) (some : Type 0) (r : Result ℕ E) → some → OkIff r (some × (v < 2 ^ 64)) v
    → result_unwrap_or r (2 ^ 64 - 1) ≡ held v
held_value v some (Ok x) is given = let e = given.1 in let f = given.0.1 in grind (arith, nat_tests)
held_value v some (Err e) is given = elim (cases_lt v (2 ^ 64)) [
  | inl below ↦ absurd (given (is, below))
  | inr above ↦ grind (arith, nat_tests)
]

pub number_parsed : {E : Type 0} (word text : List ℕ) (r : Result ℕ E) → text ≡ word → is_decimal word ≡ true
    → ParsesUnsigned 64 10 text r → Some (result_unwrap_or r (2 ^ 64 - 1)) ≡ number_of word
unfolding number_of
number_parsed {E} word text r same is parsed =
    let p = parts_of word is in
    let at_word : ParsesUnsigned 64 10 word r = rw same at parsed in
    let given = parse_digits own {E = E} 64 word r at_word p.digits in
    rw is (ap Some (held_value (digits_value 10 word) (0 < length word) r p.some given))

-- the spelling of a number is read as the number
pub number_of-decimal : (n : ℕ) → n < 2 ^ 64 → number_of (decimal n) ≡ Some n
unfolding number_of
number_of-decimal n small =
    let value : digits_value 10 (decimal n) ≡ n = digits_value-decimal own n small in
    let is : is_decimal (decimal n) ≡ true = from_parts (decimal n) (record {
      some = decimal_nonempty n small;
      leading = λ zero_first. elim (cases_lt 0 n) [
        | inl above ↦ absurd (let first = first_decimal n above small in omega arith)
        | inr not_above ↦ let one : n ≡ 0 = omega arith in rw (one, decimal_digit 0 (omega arith)) refl
      ];
      digits = digits_decimal own n small;
    }) in
    rw (is, value) (grind (arith, nat_tests))

below_greatest : (v n : ℕ) → held v ≡ n → n < 2 ^ 64 - 1 → v < 2 ^ 64
below_greatest v n is below = elim (cases_lt v (2 ^ 64)) [ inl small ↦ small | inr above ↦ grind (arith, nat_tests) ]

held_is : (v n : ℕ) → held v ≡ n → n < 2 ^ 64 - 1 → v ≡ n
held_is v n is below = let small = below_greatest v n is below in grind (arith, nat_tests)

-- what is read as a number below the greatest is its spelling
pub decimal-number_of : (word : List ℕ) (n : ℕ) → number_of word ≡ Some n → n < 2 ^ 64 - 1 → word ≡ decimal n
unfolding number_of
decimal-number_of word n read below =
    let told = cond_some (is_decimal word) (held (digits_value 10 word)) n read in
    let p = parts_of word told.0 in
    let small : digits_value 10 word < 2 ^ 64 = below_greatest (digits_value 10 word) n told.1 below in
    let value : digits_value 10 word ≡ n = held_is (digits_value 10 word) n told.1 below in
    sym (decimal-digits_value own word p.digits p.some p.leading small) ∙ ap decimal value
