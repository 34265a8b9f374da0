use Rattle.std.proofs.Common.{◌≡◌, ℕ, List, [], ◌∷◌, ◌++◌, take, drop, refl, ap, ap₂, sym, ◌∙◌, subst, append_assoc}
use Rattle.std.proofs.lemmas.List.{take-append-drop}
use Rattle.hex.specs.Hex.{encode_with, encode_lower, lower_digits}
use Rattle.sdls_outside.specs.Moments.{Trace}
use Rattle.sdls_outside.specs.Output.{Sinks, SinksFront}
use Rattle.sdls_outside.proofs.Delivering.{sinks_then, front_then, front_cut}

encode_with-append : (t xs ys : List ℕ) → encode_with t (xs ++ ys) ≡ encode_with t xs ++ encode_with t ys
unfolding encode_with
encode_with-append t [] ys = refl
encode_with-append t (x ∷ xs) ys = cc (encode_with-append t xs ys)

-- the digits of two lists joined
pub encode_lower-append : (xs ys : List ℕ) → encode_lower (xs ++ ys) ≡ encode_lower xs ++ encode_lower ys
encode_lower-append xs ys = encode_with-append lower_digits xs ys

-- the parts of the octets: those spelled, the next piece, and the others
pub parts_of : (octets done rest piece others : List ℕ) (n : ℕ) → octets ≡ done ++ rest → piece ≡ take n rest
    → others ≡ drop n rest → octets ≡ (done ++ piece) ++ others
parts_of octets done rest piece others n all is_piece is_others =
    all ∙ ap (λ (tail : List ℕ). done ++ tail)
    (sym (take-append-drop n rest) ∙ ap₂ (λ (p q : List ℕ). p ++ q) (sym is_piece) (sym is_others))
    ∙ sym (append_assoc done piece others)

-- one more piece was spelled
pub spelled_more : (done piece : List ℕ) (a b c : Trace) → Sinks (encode_lower done) a b
    → Sinks (encode_lower piece) b c
    → Sinks (encode_lower (done ++ piece)) a c
spelled_more done piece a b c ab bc =
    subst (λ (text : List ℕ). Sinks text a c) (sym (encode_lower-append done piece))
    (sinks_then (encode_lower done) (encode_lower piece) a b c ab bc)

-- a piece was cut
pub spelled_cut : (octets done piece others : List ℕ) (a b c : Trace) → octets ≡ (done ++ piece) ++ others
    → Sinks (encode_lower done) a b → SinksFront (encode_lower piece) b c → SinksFront (encode_lower octets) a c
spelled_cut octets done piece others a b c parts ab bc =
    let both : encode_lower octets ≡ (encode_lower done ++ encode_lower piece) ++ encode_lower others
    = ap encode_lower parts ∙ encode_lower-append (done ++ piece) others
    ∙ ap (λ (front : List ℕ). front ++ encode_lower others) (encode_lower-append done piece) in
    subst (λ (text : List ℕ). SinksFront text a c) (sym both)
    (front_cut (encode_lower done ++ encode_lower piece) (encode_lower others) a c
    (front_then (encode_lower done) (encode_lower piece) a b c ab bc))
