-- A body is what was put into octets of 0.
use Rattle.std.proofs.Common.{◌≡◌, ℕ, ◌+◌, ◌-◌, ◌≤◌, List, ◌∷◌, ◌++◌, length, take, drop, replicate, sym, ap, ◌∙◌}
use Rattle.std.proofs.Common.{arith, append_assoc}
use Rattle.std.specs.Int.{w16, to_be_bytes}
use Rattle.std.proofs.lemmas.List.{drop-drop, drop-replicate, take-append-drop}
use Rattle.sdls_base.specs.declared.TheConstants.{BODY_LENGTH}
use Rattle.book_record.specs.Record.{body_of}

-- octets that are the same from a place on are so from a later one on
pub same_rest : (k n : ℕ) (xs ys : List ℕ) → k ≤ n → drop k xs ≡ drop k ys → drop n xs ≡ drop n ys
same_rest k n xs ys low same =
    let later : (zs : List ℕ) → drop (n - k) (drop k zs) ≡ drop n zs =
    λ zs. drop-drop (n - k) k zs ∙ ap (λ (m : ℕ). drop m zs) (let whole : k + (n - k) ≡ n = omega arith in whole) in
    sym (later xs) ∙ ap (λ (zs : List ℕ). drop (n - k) zs) same ∙ later ys

-- the octets that were put, and those of 0 behind them
pub body_put : (kind : ℕ) (data_octets body : List ℕ) (end : ℕ) → end ≡ 3 + length data_octets
    → take end body ≡ (kind ∷ to_be_bytes w16 (length data_octets)) ++ data_octets
    → drop end body ≡ drop end (replicate BODY_LENGTH 0) → body ≡ body_of kind data_octets
body_put kind data_octets body end e front rest =
    let zeros : drop end body ≡ replicate (BODY_LENGTH - (3 + length data_octets)) 0 =
    rest ∙ drop-replicate end BODY_LENGTH 0 ∙ ap (λ (n : ℕ). replicate (BODY_LENGTH - n) 0) e in
    sym (take-append-drop end body)
    ∙ ap (λ (s : List ℕ). s ++ drop end body) front
    ∙ ap (λ (s : List ℕ). ((kind ∷ to_be_bytes w16 (length data_octets)) ++ data_octets) ++ s) zeros
    ∙ append_assoc (kind ∷ to_be_bytes w16 (length data_octets)) data_octets
    (replicate (BODY_LENGTH - (3 + length data_octets)) 0)
