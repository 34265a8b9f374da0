-- The words of a window, for the calls that take them.
use Rattle.std.proofs.Common.{◌≡◌, ◌≢◌, ℕ, zero, suc, ◌+◌, ◌*◌, ◌%◌, ◌^◌, ◌<◌, ◌≤◌, Bool, true, false, List, [], ◌∷◌}
use Rattle.std.proofs.Common.{◌++◌, map, codes, refl, sym, ap, ◌∙◌, subst, arith}
use Rattle.std.specs.Prelude.{◌==◌, if◌then◌else◌}
use Rattle.std.specs.Fmt.{decimal}
use Rattle.std.specs.List.{AllByRecursion}
use Rattle.std.proofs.lemmas.Bool.Decides.{nat_tests}
use Rattle.std.proofs.lemmas.Fmt.{decimal_by_steps}
use Rattle.replay_window.specs.WindowField.{back_of, width_of, window_field}
use Rattle.sdls_base.specs.Bounds.{IsWidth}
use Rattle.replay_window.proofs.Fields.{back_of-field, width_field-back, width_field-width, width_of-field}
use Rattle.replay_window.proofs.Fields.{window_field-parts}
use Rattle.input_text.specs.Command.{back_words, window_words}
use Rattle.input_text.proofs.Texts.{tail_is}

-- ---- a number is not the word `back`

abbrev begins_low : List ℕ → Type 0
begins_low [] = ⊥
begins_low (x ∷ xs) = x < 58

low_more : (xs : List ℕ) (x : ℕ) → begins_low xs → begins_low (xs ++ x ∷ [])
low_more [] x low = absurd low
low_more (y ∷ ys) x low = low

decimal_low : (n : ℕ) → n < 2 ^ 64 → begins_low (decimal n)
decimal_low n small = decimal_by_steps (λ n digits. begins_low digits)
    (λ n one. omega arith)
    (λ n digits more low. low_more digits (48 + n % 10) low) n small

first_is : {X : Type 0} (x y : X) (xs ys : List X) → x ∷ xs ≡ y ∷ ys → x ≡ y
first_is x y xs ys is = cc

number_is_no_back : (n : ℕ) → n < 2 ^ 64 → decimal n ≢ codes "back"
number_is_no_back n small is =
    let low : begins_low (codes "back") = subst begins_low is (decimal_low n small) in
    omega (arith, low)

-- these words do not begin with it
abbrev pub HasNoBack : List (List ℕ) → Type 0
HasNoBack rest = (words : List (List ℕ)) → rest ≢ codes "back" ∷ words

pub none_has_no_back : HasNoBack []
none_has_no_back words is = absurd cc

pub channels_have_no_back : (channels : List ℕ) → AllByRecursion (λ channel. channel ≤ 63) channels
    → HasNoBack (map decimal channels)
channels_have_no_back [] each words is = absurd cc
channels_have_no_back (n ∷ ns) each words is =
    number_is_no_back n (let low : n ≤ 63 = each.0 in omega (arith, low))
    (first_is (decimal n) (codes "back") (map decimal ns) words is)

-- ---- with a back window, and without

chosen : (b : Bool) (xs : List (List ℕ)) → b ≡ false → (if b then [] else xs) ≡ xs
chosen true xs is = absurd cc
chosen false xs is = refl

not_zero : (n : ℕ) → 0 < n → (n == 0) ≡ false
not_zero n some = grind (arith, nat_tests)

pub back_words_some : (back : ℕ) → 0 < back → back_words back ≡ codes "back" ∷ decimal back ∷ []
back_words_some back some = chosen (back == 0) (codes "back" ∷ decimal back ∷ []) (not_zero back some)

-- where no word `back` follows the width, the width is the field
pub without_back : (window width : ℕ) (left rest : List (List ℕ)) → width ≡ width_of window
    → left ≡ back_words (back_of window) ++ rest → HasNoBack left → width ≡ window
without_back window width left rest same is none = go (back_of window) refl
  where
    go : (back : ℕ) → back_of window ≡ back → width ≡ window
    go zero zero_is =
        let alone : width_of window ≡ window_field 0 (width_of window) = omega arith in
        same ∙ (alone ∙ (ap (λ back. window_field back (width_of window)) (sym zero_is) ∙ window_field-parts window))
    go (suc back) back_is =
        let words = back_words_some (back_of window) (omega (arith, back_is)) in
        absurd (none (decimal (back_of window) ∷ rest) (is ∙ ap (λ front. front ++ rest) words))

-- where it follows, the back window follows it
pub behind_back : (window : ℕ) (left behind rest : List (List ℕ)) → left ≡ back_words (back_of window) ++ rest
    → HasNoBack rest → left ≡ codes "back" ∷ behind → (1 ≤ back_of window) × (behind ≡ decimal (back_of window) ∷ rest)
behind_back window left behind rest is none taken = go (back_of window) refl
  where
    go : (back : ℕ) → back_of window ≡ back → (1 ≤ back_of window) × (behind ≡ decimal (back_of window) ∷ rest)
    go zero zero_is =
        absurd (none behind (sym (is ∙ ap (λ back. back_words back ++ rest) zero_is) ∙ taken))
    go (suc back) back_is =
        let words = back_words_some (back_of window) (omega (arith, back_is)) in (
          omega (arith, back_is),
          tail_is left (codes "back") (codes "back") behind (decimal (back_of window) ∷ rest) taken
              (is ∙ ap (λ front. front ++ rest) words),
        )

-- the field is the one of its parts
pub field_is : (window back width : ℕ) → back ≡ back_of window → width ≡ width_of window
    → window_field back width ≡ window
field_is window back width back_is width_is =
    ap (λ n. window_field n width) back_is
    ∙ (ap (λ n. window_field (back_of window) n) width_is ∙ window_field-parts window)

-- what stands behind the same words is the same
pub behind_same : (front xs ys : List (List ℕ)) → front ++ xs ≡ front ++ ys → xs ≡ ys
behind_same [] xs ys is = is
behind_same (word ∷ front) xs ys is =
    behind_same front xs ys (tail_is (word ∷ (front ++ xs)) word word (front ++ xs) (front ++ ys) refl is)

-- what is left behind a window that was read
pub left_is : (all left rest : List (List ℕ)) (read window : ℕ) → all ≡ window_words read ++ left → read ≡ window
    → all ≡ window_words window ++ rest → left ≡ rest
left_is all left rest read window is same wanted =
    behind_same (window_words window) left rest (sym (ap (λ n. window_words n ++ left) same) ∙ (sym is ∙ wanted))

-- ---- the words of a field

-- a width alone
pub width_words : (width : ℕ) (rest : List (List ℕ)) → IsWidth width → window_words width ++ rest ≡ decimal width ∷ rest
width_words width rest bounds =
    ap (λ n. (decimal n ∷ back_words (back_of width)) ++ rest) (width_field-width width bounds)
    ∙ ap (λ n. (decimal width ∷ back_words n) ++ rest) (width_field-back width bounds)

-- a width and a back window
pub field_words : (back width : ℕ) (rest : List (List ℕ)) → 0 < back → width < 2 ^ 56
    → window_words (window_field back width) ++ rest ≡ decimal width ∷ codes "back" ∷ decimal back ∷ rest
field_words back width rest some small =
    ap (λ n. (decimal n ∷ back_words (back_of (window_field back width))) ++ rest) (width_of-field back width small)
    ∙ (ap (λ n. (decimal width ∷ back_words n) ++ rest) (back_of-field back width small)
    ∙ ap (λ words. (decimal width ∷ words) ++ rest) (back_words_some back some))
