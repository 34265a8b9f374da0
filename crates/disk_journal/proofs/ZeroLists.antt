-- Lists of zeros, and what is written over them.
use Rattle.std.proofs.Common.{◌≡◌, ℕ, ◌+◌, ◌-◌, ◌≤◌, List, [], ◌++◌, length, take, drop, replicate, refl, ◌∙◌, ap}
use Rattle.std.proofs.Common.{arith, append-nil}
use Rattle.std.proofs.lemmas.List.{take-replicate, drop-replicate, length-replicate, drop_all}
use Rattle.std.proofs.Math.ListN.{replicate-append-replicate}
use Rattle.sdls_outside.specs.Site.{overwritten}
use Rattle.disk_journal.specs.Zeros.{zeros}

pub length_zeros : (n : ℕ) → length (zeros n) ≡ n
unfolding zeros
length_zeros n = length-replicate n 0

pub take_zeros : (m n : ℕ) → m ≤ n → take m (zeros n) ≡ zeros m
unfolding zeros
take_zeros m n low = take-replicate m n 0 low

pub drop_zeros : (m n : ℕ) → drop m (zeros n) ≡ zeros (n - m)
unfolding zeros
drop_zeros m n = drop-replicate m n 0

pub join_zeros : (m n : ℕ) → zeros m ++ zeros n ≡ zeros (m + n)
unfolding zeros
join_zeros m n = replicate-append-replicate m n 0

-- one more block of zeros at the end
pub more_zeros : (n count : ℕ) → overwritten (zeros n) n (zeros count) ≡ zeros (n + count)
more_zeros n count =
    let past : drop (n + length (zeros count)) (zeros n) ≡ [] =
    drop_all (n + length (zeros count)) (zeros n) (let size : length (zeros n) ≡ n = length_zeros n in omega arith) in
    ap (λ (rest : List ℕ). take n (zeros n) ++ zeros count ++ rest) past
    ∙ append-nil (take n (zeros n) ++ zeros count)
    ∙ ap (λ (front : List ℕ). front ++ zeros count) (take_zeros n n (omega arith))
    ∙ join_zeros n count

-- octets written over zeros
pub over_zeros : (n at : ℕ) (octets : List ℕ) → at ≤ n → overwritten (zeros n) at octets ≡ zeros at ++ octets ++ zeros
    (n - (at + length octets))
over_zeros n at octets low =
    ap (λ (front : List ℕ). front ++ octets ++ drop (at + length octets) (zeros n)) (take_zeros at n low)
    ∙ ap (λ (back : List ℕ). zeros at ++ octets ++ back) (drop_zeros (at + length octets) n)

pub zeros_end : (image : List ℕ) (n : ℕ) → image ≡ zeros n → length image ≡ n
zeros_end image n filled = ap (λ (octets : List ℕ). length octets) filled ∙ length_zeros n

-- a block of zeros, as it is written
pub are_zeros : (n : ℕ) → zeros n ≡ replicate n 0
unfolding zeros
are_zeros n = refl
