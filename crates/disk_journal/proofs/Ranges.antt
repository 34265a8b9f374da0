-- Images that differ in a range of octets.
use Rattle.std.proofs.Common.{◌≡◌, ◌≢◌, ℕ, ◌+◌, ◌-◌, ◌<◌, ◌≤◌, ◌⊎◌, List, [], ◌∷◌, ◌++◌, append_assoc, length, get_or}
use Rattle.std.proofs.Common.{set, take, drop, min, refl, sym, ◌∙◌, ap, subst, inl, inr, arith, length-append}
use Rattle.std.proofs.Common.{length-drop}
use Rattle.std.proofs.lemmas.Bool.{cases_lt, cases_eq}
use Rattle.std.proofs.lemmas.List.{ext_get_or, get_or-take, get_or-drop, length-take, length-take-le, get_or-set_other}
use Rattle.std.proofs.lemmas.List.{get_or-set_same, length-set, get_or_append_left, get_or-append_right}
use Rattle.std.proofs.Math.Seq.{drop-append_seam, take-append_seam}
use Rattle.sdls_outside.specs.Site.{overwritten}
use Rattle.disk_journal.specs.Moments.{AllBut}

pub all_but_same : (at count : ℕ) (image : List ℕ) → AllBut at count image image
all_but_same at count image = record { same_length = refl; outside = λ i away. refl }

-- a part of what may have changed
pub all_but_wider : (at count low size : ℕ) (old new : List ℕ) → low ≤ at → at + count ≤ low + size
    → AllBut at count old new → AllBut low size old new
all_but_wider at count low size old new below above change = record {
  same_length = change.same_length;
  outside = λ i away. change.outside i (elim away [ inl before ↦ inl (omega arith) | inr after ↦ inr (omega arith) ]);
}

pub all_but_then : (at count : ℕ) (old mid new : List ℕ) → AllBut at count old mid → AllBut at count mid new
    → AllBut at count old new
all_but_then at count old mid new first second = record {
  same_length = second.same_length ∙ first.same_length;
  outside = λ i away. second.outside i away ∙ first.outside i away;
}

-- a stretch that the range does not touch
pub same_stretch : (at count from size : ℕ) (old new : List ℕ) → AllBut at count old new
    → (from + size ≤ at) ⊎ (at + count ≤ from) → take size (drop from new) ≡ take size (drop from old)
same_stretch at count from size old new change apart =
    let long : length new ≡ length old = change.same_length in
    let rest : length (drop from new) ≡ length (drop from old) =
    length-drop from new ∙ ap (λ (n : ℕ). n - from) long ∙ sym (length-drop from old) in
    let sizes : length (take size (drop from new)) ≡ length (take size (drop from old)) =
    length-take size (drop from new) ∙ ap (min size) rest ∙ sym (length-take size (drop from old)) in
    ext_get_or 0 (take size (drop from new)) (take size (drop from old)) sizes
    (λ i below.
    let cut : length (take size (drop from new)) ≡ min size (length (drop from new)) = length-take size
    (drop from new) in
    let low : i < size = omega arith in
    let away : (from + i < at) ⊎ (at + count ≤ from + i) =
    elim apart [ inl before ↦ inl (omega arith) | inr after ↦ inr (omega arith) ] in
    get_or-take size (drop from new) i 0 low ∙ get_or-drop from new i 0
    ∙ change.outside (from + i) away
    ∙ sym (get_or-drop from old i 0) ∙ sym (get_or-take size (drop from old) i 0 low))

pub same_front : (at count size : ℕ) (old new : List ℕ) → AllBut at count old new → size ≤ at
    → take size new ≡ take size old
same_front at count size old new change low = same_stretch at count 0 size old new change (inl (omega arith))

-- octets written within an image
pub overwritten_length : (image : List ℕ) (at : ℕ) (octets : List ℕ) → at + length octets ≤ length image
    → length (overwritten image at octets) ≡ length image
overwritten_length image at octets within =
    let front : length (take at image) ≡ at = length-take-le at image (omega arith) in
    let back : length (drop (at + length octets) image) ≡ length image - (at + length octets) = length-drop
    (at + length octets) image in
    let first : length (take at image ++ octets) ≡ length (take at image) + length octets = length-append
    (take at image) octets in
    let whole : length (overwritten image at octets) ≡ length (take at image ++ octets) + length
    (drop (at + length octets) image)
    = length-append (take at image ++ octets) (drop (at + length octets) image) in
    omega arith

pub overwritten_but : (image : List ℕ) (at : ℕ) (octets : List ℕ) → at + length octets ≤ length image
    → AllBut at (length octets) image (overwritten image at octets)
overwritten_but image at octets within =
    let front : length (take at image) ≡ at = length-take-le at image (omega arith) in
    let first : length (take at image ++ octets) ≡ at + length octets =
    length-append (take at image) octets ∙ ap (λ (n : ℕ). n + length octets) front in
    let back = drop (at + length octets) image in
    record {
      same_length = overwritten_length image at octets within;
      outside = λ i away. elim away [
        | inl before ↦
            let low : i < length (take at image) = omega arith in
            let lower : i < length (take at image ++ octets) = omega arith in
            get_or_append_left (take at image ++ octets) back 0 i lower
            ∙ get_or_append_left (take at image) octets 0 i low ∙ get_or-take at image i 0 before
        | inr after ↦
            let same : at + length octets + (i - (at + length octets)) ≡ i = omega arith in
            get_or-append_right (take at image ++ octets) back (at + length octets) i 0 first after
            ∙ get_or-drop (at + length octets) image (i - (at + length octets)) 0
            ∙ ap (λ (k : ℕ). get_or image k 0) same
      ];
    }

-- what was written is read
pub overwritten_stretch : (image : List ℕ) (at : ℕ) (octets : List ℕ) → at + length octets ≤ length image
    → take (length octets) (drop at (overwritten image at octets)) ≡ octets
overwritten_stretch image at octets within =
    let front : length (take at image) ≡ at = length-take-le at image (omega arith) in
    let back = drop (at + length octets) image in
    let regroup : overwritten image at octets ≡ take at image ++ (octets ++ back) = append_assoc
    (take at image) octets back in
    let behind : drop at (overwritten image at octets) ≡ octets ++ back =
    ap (drop at) regroup
    ∙ subst (λ (n : ℕ). drop n (take at image ++ (octets ++ back)) ≡ octets ++ back) front
    (drop-append_seam (take at image) (octets ++ back)) in
    ap (take (length octets)) behind ∙ take-append_seam octets back

-- one octet
pub set_but : (image : List ℕ) (at octet : ℕ) → AllBut at 1 image (set image at octet)
set_but image at octet = record {
  same_length = length-set image at octet;
  outside = λ i away.
      let other : i ≢ at = elim away [ inl before ↦ omega arith | inr after ↦ omega arith ] in
      get_or-set_other image at i octet 0 other;
}

pub set_back : (at : ℕ) (old new : List ℕ) → AllBut at 1 old new → at < length old → new ≡ set old at (get_or new at 0)
set_back at old new change within =
    let long : length new ≡ length old = change.same_length in
    ext_get_or 0 new (set old at (get_or new at 0)) (long ∙ sym (length-set old at (get_or new at 0)))
    (λ i below. elim (cases_eq i at) [
      | inl same ↦ ap (λ (k : ℕ). get_or new k 0) same ∙ sym (get_or-set_same old at (get_or new at 0) 0 within)
          ∙ ap (λ (k : ℕ). get_or (set old at (get_or new at 0)) k 0) (sym same)
      | inr other ↦
          let away : (i < at) ⊎ (at + 1 ≤ i) = elim
          (cases_lt i at) [ inl before ↦ inl before | inr after ↦ inr (omega arith) ] in
          change.outside i away ∙ sym (get_or-set_other old at i (get_or new at 0) 0 other)
    ])

-- one octet that is what it was
pub overwritten_one : (image : List ℕ) (at octet : ℕ) → at < length image → get_or
    (overwritten image at (octet ∷ [])) at 0 ≡ octet
overwritten_one image at octet within =
    let front : length (take at image) ≡ at = length-take-le at image (omega arith) in
    let first : length (take at image ++ octet ∷ []) ≡ length (take at image) + 1 = length-append (take at image)
    (octet ∷ []) in
    let lower : at < length (take at image ++ octet ∷ []) = omega arith in
    get_or_append_left (take at image ++ octet ∷ []) (drop (at + 1) image) 0 at lower
    ∙ get_or-append_right (take at image) (octet ∷ []) at at 0 front (omega arith)
    ∙ (let none : at - at ≡ 0 = omega arith in ap (λ (k : ℕ). get_or (octet ∷ []) k 0) none)
