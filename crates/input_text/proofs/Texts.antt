-- Octets as words.
use Rattle.std.proofs.Common.{◌≡◌, ◌≢◌, ℕ, ◌<◌, ◌⊎◌, inl, inr, List, [], ◌∷◌, length, codes, Ok, refl, sym, ◌∙◌, arith}
use Rattle.hex.specs.Hex.{IsBytes, decode_of, encode_lower, encode_with}
use Rattle.hex.proofs.HexLemmas.{decode_of-encode_lower}
use Rattle.text_words.specs.Words.{octets_word}

-- octets are those that their digits spell
pub octets_decoded : (octets word : List ℕ) → IsBytes octets → word ≡ encode_lower octets → decode_of word ≡ Ok octets
octets_decoded octets word bytes is = rw is (decode_of-encode_lower octets bytes)

-- the word of octets is a dash for none, and else their digits
pub octets_word_of : (octets word : List ℕ) → word ≡ octets_word octets
    → ((word ≡ codes "-") × (octets ≡ [])) ⊎ ((word ≡ encode_lower octets) × (0 < length octets) × (word ≢ codes "-"))
unfolding encode_with
octets_word_of [] word is = inl (is, refl)
octets_word_of (octet ∷ octets) word is = inr (is, omega arith, λ dash. cc (sym dash ∙ is))

-- ---- what stands behind the first of a list

pub tail_is : {X : Type 0} (all : List X) (x y : X) (xs ys : List X) → all ≡ x ∷ xs → all ≡ y ∷ ys → xs ≡ ys
tail_is all x y xs ys is_x is_y = grind arith
