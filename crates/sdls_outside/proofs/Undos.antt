-- A write that is undone leaves what stood before it: for `Undo::of` and `Undo::restore`.
use Rattle.std.proofs.Common.{◌≡◌, ℕ, ◌+◌, ◌-◌, ◌≤◌, List, ◌++◌, length, take, drop, min, ◌∙◌, sym, ap, refl}
use Rattle.std.proofs.Common.{append_assoc}
use Rattle.std.proofs.lemmas.List.{take-append-drop, drop-drop, length-take-le, length-append, length-drop, take_min}
use Rattle.std.proofs.Math.Seq.{take-append_seam, drop-append_seam, take-length}
use Rattle.sdls_outside.specs.Site.{overwritten}

front_stays : (image octets : List ℕ) (at : ℕ) → at ≤ length image
    → take at (overwritten image at octets) ≡ take at image
front_stays image octets at within =
    let rest = drop (at + length octets) image in
    let long : length (take at image) ≡ at = length-take-le at image within in
    ap (λ n. take n (take at image ++ octets ++ rest)) (sym long)
    ∙ ap (take (length (take at image))) (append_assoc (take at image) octets rest)
    ∙ take-append_seam (take at image) (octets ++ rest)

rest_stays : (image octets : List ℕ) (at : ℕ) → at ≤ length image
    → drop (at + length octets) (overwritten image at octets) ≡ drop (at + length octets) image
rest_stays image octets at within =
    let rest = drop (at + length octets) image in
    let long : length (take at image ++ octets) ≡ at + length octets =
    rw length-append (ap (λ n. n + length octets) (length-take-le at image within)) in
    ap (λ n. drop n (take at image ++ octets ++ rest)) (sym long) ∙ drop-append_seam (take at image ++ octets) rest

-- what the write wrote over stands in its place again
pub write_undone : (image octets : List ℕ) (at : ℕ) → at ≤ length image
    → take at (overwritten image at octets) ++ take (length octets) (drop at image)
    ++ drop (at + length octets) (overwritten image at octets) ≡ image
write_undone image octets at within =
    rw (
      front_stays image octets at within,
      rest_stays image octets at within,
      append_assoc,
      ← drop-drop (length octets) at image,
      take-append-drop (length octets) (drop at image),
      take-append-drop at image,
    ) refl

-- what a write writes over, up to the image's end
pub written_over : (image octets : List ℕ) (at count : ℕ) → count ≡ min (length octets) (length image - at)
    → take count (take (length image - at) (drop at image)) ≡ take (length octets) (drop at image)
written_over image octets at count fewest =
    let behind : length image - at ≡ length (drop at image) = sym (length-drop at image) in
    let whole : take (length image - at) (drop at image) ≡ drop at image =
    ap (λ n. take n (drop at image)) behind ∙ take-length (drop at image) in
    ap (take count) whole
    ∙ ap (λ n. take n (drop at image)) (fewest ∙ ap (min (length octets)) behind)
    ∙ take_min (length octets) (drop at image)
