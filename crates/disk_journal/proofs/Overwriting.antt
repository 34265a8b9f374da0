-- Octets that are written over an image, or past its end.
use Rattle.std.proofs.Common.{◌≡◌, ℕ, ◌+◌, ◌-◌, ◌<◌, ◌≤◌, ◌++◌, ◌∙◌, List, [], length, get_or, take, drop, sym, ap}
use Rattle.std.proofs.Common.{subst, arith, append-nil, append_assoc, length-append, length-drop}
use Rattle.std.proofs.Math.Seq.{drop-append-add, take-append_seam}
use Rattle.std.proofs.lemmas.List.{drop-drop, get_or-append_right, get_or-drop, get_or-replicate, get_or-take}
use Rattle.std.proofs.lemmas.List.{get_or_append_left, length-take-le, take-append-drop}
use Rattle.sdls_outside.specs.Site.{overwritten}
use Rattle.disk_journal.specs.Changes.{IsZero, KeepsPast}
use Rattle.disk_journal.specs.Zeros.{zeros}
use Rattle.disk_journal.proofs.ZeroLists.{join_zeros, length_zeros}

-- what stands after the write
pub record Grown (image : List ℕ) (at : ℕ) (octets new : List ℕ) : Type 0 where
  pub long : at + length octets ≤ length new
  pub before : (i : ℕ) → i < at → get_or new i 0 ≡ get_or image i 0
  pub here : (i : ℕ) → at ≤ i → i < at + length octets → get_or new i 0 ≡ get_or octets (i - at) 0
  pub past : KeepsPast (at + length octets) image new

pub grown : (image : List ℕ) (at : ℕ) (octets : List ℕ) → at ≤ length image → Grown image at octets
    (overwritten image at octets)
grown image at octets within =
    let front : length (take at image) ≡ at = length-take-le at image within in
    let back = drop (at + length octets) image in
    let first : length (take at image ++ octets) ≡ at + length octets =
    length-append (take at image) octets ∙ ap (λ (n : ℕ). n + length octets) front in
    let rest : length back ≡ length image - (at + length octets) = length-drop (at + length octets) image in
    let whole : length (overwritten image at octets) ≡ length (take at image ++ octets) + length back =
    length-append (take at image ++ octets) back in
    record {
      long = omega arith;
      past = record {
        length_is = omega arith;
        past = λ i high.
            let same : at + length octets + (i - (at + length octets)) ≡ i = omega arith in
            get_or-append_right (take at image ++ octets) back (at + length octets) i 0 first high
            ∙ get_or-drop (at + length octets) image (i - (at + length octets)) 0
            ∙ ap (λ (k : ℕ). get_or image k 0) same;
      };
      before = λ i low.
          let near : i < length (take at image) = omega arith in
          let nearer : i < length (take at image ++ octets) = omega arith in
          get_or_append_left (take at image ++ octets) back 0 i nearer
          ∙ get_or_append_left (take at image) octets 0 i near ∙ get_or-take at image i 0 low;
      here = λ i low high.
          let nearer : i < length (take at image ++ octets) = omega arith in
          get_or_append_left (take at image ++ octets) back 0 i nearer
          ∙ get_or-append_right (take at image) octets at i 0 front low;
    }

-- no octets
pub overwritten_none : (image : List ℕ) (at : ℕ) → overwritten image at (zeros 0) ≡ image
unfolding zeros
overwritten_none image at =
    let same : at + 0 ≡ at = omega arith in
    ap (λ (n : ℕ). take at image ++ [] ++ drop n image) same
    ∙ ap (λ (front : List ℕ). front ++ drop at image) (append-nil (take at image)) ∙ take-append-drop at image

-- octets behind those that were written
pub overwritten_more : (image : List ℕ) (at : ℕ) (first second : List ℕ) → at ≤ length image
    → overwritten (overwritten image at first) (at + length first) second ≡ overwritten image at (first ++ second)
overwritten_more image at first second within =
    let front = take at image ++ first in
    let n = at + length first in
    let back = drop n image in
    let size : length front ≡ n =
    length-append (take at image) first ∙ ap (λ (k : ℕ). k + length first) (length-take-le at image within) in
    let one : take n (front ++ back) ≡ front =
    subst (λ (k : ℕ). take k (front ++ back) ≡ front) size (take-append_seam front back) in
    let two : drop (n + length second) (front ++ back) ≡ drop (length second) back =
    subst (λ (k : ℕ). drop (k + length second) (front ++ back) ≡ drop (length second) back) size
    (drop-append-add front back (length second)) in
    let end : n + length second ≡ at + length (first ++ second) =
    (let sum = length-append first second in omega (arith, sum)) in
    ap (λ (some : List ℕ). some ++ second ++ drop (n + length second) (front ++ back)) one
    ∙ ap (λ (some : List ℕ). front ++ second ++ some)
    (two ∙ drop-drop (length second) n image ∙ ap (λ (k : ℕ). drop k image) end)
    ∙ ap (λ (some : List ℕ). some ++ drop (at + length (first ++ second)) image)
    (append_assoc (take at image) first second)

-- zeros behind zeros
pub zeros_more : (image mid new : List ℕ) (at n more : ℕ) → at ≤ length image → mid ≡ overwritten image at (zeros n)
    → new ≡ overwritten mid (at + n) (zeros more) → new ≡ overwritten image at (zeros (n + more))
zeros_more image mid new at n more within filled written =
    let place : at + length (zeros n) ≡ at + n = ap (λ (k : ℕ). at + k) (length_zeros n) in
    written ∙ ap (λ (some : List ℕ). overwritten some (at + n) (zeros more)) filled
    ∙ ap (λ (k : ℕ). overwritten (overwritten image at (zeros n)) k (zeros more)) (sym place)
    ∙ overwritten_more image at (zeros n) (zeros more) within
    ∙ ap (λ (octets : List ℕ). overwritten image at octets) (join_zeros n more)

zero_octet : (n i : ℕ) → i < n → get_or (zeros n) i 0 ≡ 0
unfolding zeros
zero_octet n i below = get_or-replicate n i 0 0 below

-- what zeros leave
pub record Zeroed (at n : ℕ) (image new : List ℕ) : Type 0 where
  pub long : at + n ≤ length new
  pub zero : IsZero at (at + n) new
  pub past : KeepsPast (at + n) image new

pub zeroed : (image new : List ℕ) (at n : ℕ) → at ≤ length image → new ≡ overwritten image at (zeros n)
    → Zeroed at n image new
zeroed image new at n within written =
    let size : length (zeros n) ≡ n = length_zeros n in
    let more : Grown image at (zeros n) new = subst (Grown image at (zeros n)) (sym written)
    (grown image at (zeros n) within) in
    let long : at + length (zeros n) ≤ length new = more.long in
    record {
      long = omega arith;
      zero = λ i low high. more.here i low (omega arith) ∙ zero_octet n (i - at) (omega arith);
      past = subst (λ (k : ℕ). KeepsPast (at + k) image new) size more.past;
    }
