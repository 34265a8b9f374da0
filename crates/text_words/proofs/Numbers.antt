-- Numbers as words, for `number_spelled`.
use Rattle.std.proofs.Common.{◌≡◌, ℕ, ◌^◌, ◌<◌, List, Result, Ok, sym, ◌∙◌}
use Rattle.std.specs.Fmt.{decimal}
use Rattle.std.specs.Str.{IsUtf8}
use Rattle.std.specs.Str.Parse.{ParsesUnsigned}
use Rattle.std.proofs.lemmas.Str.{IsUtf8-from_ascii}
use Rattle.std.proofs.lemmas.Fmt.{IsAscii-decimal, parse-decimal}

-- a number's word is text
pub number_is_text : (n : ℕ) (word : List ℕ) → n < 2 ^ 64 → word ≡ decimal n → IsUtf8 word
number_is_text n word small is = rw is (IsUtf8-from_ascii (decimal n) (IsAscii-decimal n small))

-- and is parsed
pub number_is_parsed : {E : Type 0} (n : ℕ) (word text : List ℕ) (r : Result ℕ E) → n < 2 ^ 64 → word ≡ decimal n
    → text ≡ word
    → ParsesUnsigned 64 10 text r → r ≡ Ok n
number_is_parsed n word text r small is same parsed = parse-decimal 64 n text r small small (same ∙ is) parsed

pub ok_is : {X E : Type 0} (r : Result X E) (x y : X) → r ≡ Ok x → r ≡ Ok y → x ≡ y
ok_is r x y is_x is_y = cc (sym is_x ∙ is_y)
