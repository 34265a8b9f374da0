-- The numbers at a place of octets are what stands there, below the ends of their widths. For the crates above.
use Rattle.std.proofs.Common.{◌≡◌, ℕ, zero, suc, ◌+◌, ◌^◌, ◌<◌, ◌≤◌, List, [], ◌∷◌, ◌++◌, length, get_or, drop, refl}
use Rattle.std.proofs.Common.{sym, ap, ◌∙◌, arith}
use Rattle.std.specs.Int.{w16, w32, w64, from_be_bytes, to_be_bytes}
use Rattle.std.proofs.lemmas.List.{drop_more, get_or-drop}
use Rattle.std.proofs.lemmas.Nat.{be_bytes_2, be_bytes_4, be_bytes_8}
use Rattle.sdls_base.specs.Places.{octet_at, word_at, double_word_at, number_at}

-- octets, each below 256
abbrev pub AreOctets : List ℕ → Type 0
AreOctets octets = (i : ℕ) → get_or octets i 0 < 256

-- ---- what stands from a place on

next : (octets : List ℕ) (at k j : ℕ) → j ≡ k + 1 → at + k < length octets
    → drop (at + k) octets ≡ get_or octets (at + k) 0 ∷ drop (at + j) octets
next octets at k j e h =
    let same : at + k + 1 ≡ at + j = omega arith in
    drop_more octets (at + k) 0 h ∙ ap (λ (i : ℕ). get_or octets (at + k) 0 ∷ drop i octets) same

pub octet_field : (at : ℕ) (octets : List ℕ) → at < length octets
    → drop at octets ≡ octet_at at octets ∷ drop (at + 1) octets
octet_field at octets h = drop_more octets at 0 h

two_octets : (a b : ℕ) → a < 256 → b < 256 → (i : ℕ) → get_or (a ∷ b ∷ []) i 0 < 256
two_octets a b p q zero = p
two_octets a b p q (suc zero) = q
two_octets a b p q (suc (suc i)) = omega arith

pub word_spelled : (a b : ℕ) → a < 256 → b < 256 → to_be_bytes w16 (from_be_bytes w16 (a ∷ b ∷ [])) ≡ a ∷ b ∷ []
word_spelled a b p q = be_bytes_2 (a ∷ b ∷ []) _ refl (two_octets a b p q) refl

pub word_field : (at : ℕ) (octets : List ℕ) → AreOctets octets → at + 2 ≤ length octets
    → drop at octets ≡ to_be_bytes w16 (word_at at octets) ++ drop (at + 2) octets
word_field at octets are h =
    let first = drop_more octets at 0 (omega arith) in
    let second = next octets at 1 2 refl (omega arith) in
    let cells : drop at octets ≡ (get_or octets at 0 ∷ get_or octets (at + 1) 0 ∷ []) ++ drop (at + 2) octets = cc in
    cells ∙ ap (λ (s : List ℕ). s ++ drop (at + 2) octets)
    (sym (word_spelled (get_or octets at 0) (get_or octets (at + 1) 0) (are at) (are (at + 1))))

four_octets : (a b c d : ℕ) → a < 256 → b < 256 → c < 256 → d < 256 → (i : ℕ) → get_or (a ∷ b ∷ c ∷ d ∷ []) i 0 < 256
four_octets a b c d p q r s zero = p
four_octets a b c d p q r s (suc zero) = q
four_octets a b c d p q r s (suc (suc zero)) = r
four_octets a b c d p q r s (suc (suc (suc zero))) = s
four_octets a b c d p q r s (suc (suc (suc (suc i)))) = omega arith

pub double_word_field : (at : ℕ) (octets : List ℕ) → AreOctets octets → at + 4 ≤ length octets
    → drop at octets ≡ to_be_bytes w32 (double_word_at at octets) ++ drop (at + 4) octets
double_word_field at octets are h =
    let first = drop_more octets at 0 (omega arith) in
    let second = next octets at 1 2 refl (omega arith) in
    let third = next octets at 2 3 refl (omega arith) in
    let fourth = next octets at 3 4 refl (omega arith) in
    let a = get_or octets at 0 in
    let b = get_or octets (at + 1) 0 in
    let c = get_or octets (at + 2) 0 in
    let d = get_or octets (at + 3) 0 in
    let cells : drop at octets ≡ (a ∷ b ∷ c ∷ d ∷ []) ++ drop (at + 4) octets = cc in
    let spelled : to_be_bytes w32 (from_be_bytes w32 (a ∷ b ∷ c ∷ d ∷ [])) ≡ a ∷ b ∷ c ∷ d ∷ [] =
    be_bytes_4 (a ∷ b ∷ c ∷ d ∷ []) _ refl (four_octets a b c d (are at) (are (at + 1)) (are (at + 2)) (are (at + 3)))
    refl in
    cells ∙ ap (λ (s : List ℕ). s ++ drop (at + 4) octets) (sym spelled)

eight_octets : (a b c d e f g h : ℕ) → a < 256 → b < 256 → c < 256 → d < 256 → e < 256 → f < 256 → g < 256 → h < 256
    → (i : ℕ) → get_or (a ∷ b ∷ c ∷ d ∷ e ∷ f ∷ g ∷ h ∷ []) i 0 < 256
eight_octets a b c d e f g h p q r s t u v w zero = p
eight_octets a b c d e f g h p q r s t u v w (suc zero) = q
eight_octets a b c d e f g h p q r s t u v w (suc (suc zero)) = r
eight_octets a b c d e f g h p q r s t u v w (suc (suc (suc zero))) = s
eight_octets a b c d e f g h p q r s t u v w (suc (suc (suc (suc i)))) = four_octets e f g h t u v w i

pub number_field : (at : ℕ) (octets : List ℕ) → AreOctets octets → at + 8 ≤ length octets
    → drop at octets ≡ to_be_bytes w64 (number_at at octets) ++ drop (at + 8) octets
number_field at octets are room =
    let p1 = drop_more octets at 0 (omega arith) in
    let p2 = next octets at 1 2 refl (omega arith) in
    let p3 = next octets at 2 3 refl (omega arith) in
    let p4 = next octets at 3 4 refl (omega arith) in
    let p5 = next octets at 4 5 refl (omega arith) in
    let p6 = next octets at 5 6 refl (omega arith) in
    let p7 = next octets at 6 7 refl (omega arith) in
    let p8 = next octets at 7 8 refl (omega arith) in
    let a = get_or octets at 0 in
    let b = get_or octets (at + 1) 0 in
    let c = get_or octets (at + 2) 0 in
    let d = get_or octets (at + 3) 0 in
    let e = get_or octets (at + 4) 0 in
    let f = get_or octets (at + 5) 0 in
    let g = get_or octets (at + 6) 0 in
    let h = get_or octets (at + 7) 0 in
    let cells : drop at octets ≡ (a ∷ b ∷ c ∷ d ∷ e ∷ f ∷ g ∷ h ∷ []) ++ drop (at + 8) octets = cc in
    let spelled : to_be_bytes w64 (from_be_bytes w64 (a ∷ b ∷ c ∷ d ∷ e ∷ f ∷ g ∷ h ∷ []))
    ≡ a ∷ b ∷ c ∷ d ∷ e ∷ f ∷ g ∷ h ∷ [] =
    be_bytes_8 (a ∷ b ∷ c ∷ d ∷ e ∷ f ∷ g ∷ h ∷ []) _ refl
    (eight_octets a b c d e f g h (are at) (are (at + 1)) (are (at + 2)) (are (at + 3)) (are (at + 4)) (are (at + 5))
    (are (at + 6)) (are (at + 7))) refl in
    cells ∙ ap (λ (s : List ℕ). s ++ drop (at + 8) octets) (sym spelled)

-- ---- a field is below the end of its width

pub word_small : (at : ℕ) (octets : List ℕ) → AreOctets octets → word_at at octets < 2 ^ 16
word_small at octets are = omega (arith, are at, are (at + 1))

pub double_word_small : (at : ℕ) (octets : List ℕ) → AreOctets octets → double_word_at at octets < 2 ^ 32
double_word_small at octets are = omega (arith, are at, are (at + 1), are (at + 2), are (at + 3))

pub number_small : (at : ℕ) (octets : List ℕ) → AreOctets octets → number_at at octets < 2 ^ 64
number_small at octets are =
    omega (
      arith,
      are at,
      are (at + 1),
      are (at + 2),
      are (at + 3),
      are (at + 4),
      are (at + 5),
      are (at + 6),
      are (at + 7),
    )

pub octets_drop : (n : ℕ) (octets : List ℕ) → AreOctets octets → AreOctets (drop n octets)
octets_drop zero octets are = are
octets_drop (suc n) [] are = are
octets_drop (suc n) (x ∷ octets) are = octets_drop n octets (λ i. are (suc i))

-- ---- the number at a place is that in front of what stands there

stands : (at : ℕ) (octets rest : List ℕ) → drop at octets ≡ rest → (i : ℕ) → get_or octets (at + i) 0 ≡ get_or rest i 0
stands at octets rest e i = sym (get_or-drop at octets i 0) ∙ ap (λ (s : List ℕ). get_or s i 0) e

first : (at : ℕ) (octets rest : List ℕ) → drop at octets ≡ rest → get_or octets at 0 ≡ get_or rest 0 0
first at octets rest e = let same : at ≡ at + 0 = omega arith in
    ap (λ (i : ℕ). get_or octets i 0) same ∙ stands at octets rest e 0

pub word_in_front : (at : ℕ) (octets rest : List ℕ) → drop at octets ≡ rest → word_at at octets ≡ word_at 0 rest
word_in_front at octets rest e =
    let a = first at octets rest e in
    let b = stands at octets rest e 1 in
    λ i. from_be_bytes w16 (a i ∷ b i ∷ [])

pub number_in_front : (at : ℕ) (octets rest : List ℕ) → drop at octets ≡ rest → number_at at octets ≡ number_at 0 rest
number_in_front at octets rest e =
    let a = first at octets rest e in
    let b = stands at octets rest e 1 in
    let c = stands at octets rest e 2 in
    let d = stands at octets rest e 3 in
    let f = stands at octets rest e 4 in
    let g = stands at octets rest e 5 in
    let h = stands at octets rest e 6 in
    let j = stands at octets rest e 7 in
    λ i. from_be_bytes w64 (a i ∷ b i ∷ c i ∷ d i ∷ f i ∷ g i ∷ h i ∷ j i ∷ [])
