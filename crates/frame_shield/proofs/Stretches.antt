-- Stretches of octets: what was written behind a front, and over a part.
use Rattle.std.proofs.Common.{◌≡◌, ℕ, ◌+◌, ◌-◌, ◌≤◌, List, ◌++◌, length, take, drop, sym, ap, ◌∙◌, arith}
use Rattle.std.proofs.Common.{length-take-le}
use Rattle.std.proofs.lemmas.List.{drop-drop, take-take, take-append-drop}
use Rattle.std.proofs.lemmas.Slice.{between_is}
use Rattle.sdls_base.proofs.Endings.{take_front, drop_front}

-- what is the same from m on is the same from n on
pub drop_later : (new old : List ℕ) (m n : ℕ) → m ≤ n → drop m new ≡ drop m old → drop n new ≡ drop n old
drop_later new old m n h e =
    let k : m + (n - m) ≡ n = omega arith in
    ap (λ i. drop i new) (sym k) ∙ sym (drop-drop (n - m) m new) ∙ ap (λ l. drop (n - m) l) e ∙ drop-drop (n - m) m old
    ∙ ap (λ i. drop i old) k

-- the front of what a longer front shows
pub take_earlier : (new old octets : List ℕ) (m n : ℕ) → m ≤ n → m ≤ length old → take n new ≡ take m old ++ octets
    → take m new ≡ take m old
take_earlier new old octets m n h long e =
    sym (take-take m n new h) ∙ ap (λ l. take m l) e ∙ take_front (take m old) octets m
    (sym (length-take-le m old long))

-- and what stands behind that front
pub middle : (new old octets : List ℕ) (m n : ℕ) → m ≤ length old → take n new ≡ take m old ++ octets
    → take (n - m) (drop m new) ≡ octets
middle new old octets m n long e =
    let inner : take (n - m) (drop m new) ≡ drop m (take n new) = between_is new m n in
    inner ∙ ap (λ l. drop m l) e ∙ drop_front (take m old) octets m (sym (length-take-le m old long))

-- a front and the octets behind it, after the front was written anew
pub front_again : (last new old octets front : List ℕ) (m n : ℕ) → m ≤ n → m ≤ length old → take m last ≡ front
    → drop m last ≡ drop m new
    → take n new ≡ take m old ++ octets → take n last ≡ front ++ octets
front_again last new old octets front m n h long here rest before =
    let behind : drop m (take n last) ≡ take (n - m) (drop m last) = sym (between_is last m n) in
    sym (take-append-drop m (take n last))
    ∙ ap (λ l. l ++ drop m (take n last)) (take-take m n last h ∙ here)
    ∙ ap (λ l. front ++ l) (behind ∙ ap (λ l. take (n - m) l) rest ∙ middle new old octets m n long before)
