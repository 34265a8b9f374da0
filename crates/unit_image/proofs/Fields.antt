-- Fields that were put one behind the other: for `written` of `put_keys` and `put_associations`.
use Rattle.std.proofs.Common.{◌≡◌, ℕ, ◌+◌, ◌≤◌, List, ◌++◌, length, take, replicate, ap, ◌∙◌, arith, append_assoc}
use Rattle.std.proofs.Common.{length-append, length-take-le}
use Rattle.std.specs.Prelude.{◌-◌}
use Rattle.book_record.specs.Padded.{padded}

-- what was put has as many octets as it moved the place
pub put_width : (before after octets : List ℕ) (at end width : ℕ) → end ≡ at + width → at ≤ length before
    → end ≤ length after
    → take end after ≡ take at before ++ octets → length octets ≡ width
put_width before after octets at end width place start room written =
    omega (
      arith,
      place,
      ap length written,
      length-take-le end after room,
      length-take-le at before start,
      length-append (take at before) octets,
    )

-- zeros were put behind it
pub padded_put : (front octets before after : List ℕ) (width n : ℕ) → length octets ≡ n → before ≡ front ++ octets
    → after ≡ before ++ replicate (width - n) 0 → after ≡ front ++ padded width octets
padded_put front octets before after width n size put zeros =
    zeros ∙ ap (λ (s : List ℕ). s ++ replicate (width - n) 0) put ∙ append_assoc front octets (replicate (width - n) 0)
    ∙ ap (λ (m : ℕ). front ++ (octets ++ replicate (width - m) 0)) (let back : n ≡ length octets =
    omega (arith, size) in back)
