-- The beginning of the input, for `begin`.
use Rattle.std.proofs.Common.{◌≡◌, ℕ, ◌<◌, Bool, IsTrue, List, [], ◌++◌, length, sym, ◌∙◌, ap, subst, arith}
use Rattle.std.proofs.lemmas.List.{append-nil}
use Rattle.record_io.specs.Input.{LacksBeginning}
use Rattle.record_io.specs.Steps.{still_counted, Misses}
use Rattle.record_io.proofs.Items.{lacks_short_beginning}

-- a beginning that is cut
pub misses_cut : (told : Bool) (part left_old left_new : List ℕ) (taken count : ℕ) → taken ≡ 0 → length part ≡ count
    → count < 8
    → (IsTrue told → left_old ≡ part ++ left_new) → (IsTrue told → still_counted count left_new ≡ [])
    → (p : List ℕ) × Misses told p taken left_old left_new
    × (IsTrue told → LacksBeginning (p ++ still_counted (length p) left_new))
misses_cut told part left_old left_new taken count start size short moved ended =
    let whole : IsTrue told → part ++ still_counted (length part) left_new ≡ part =
    λ t. ap (λ n. part ++ still_counted n left_new) size ∙ ap (λ l. part ++ l) (ended t) ∙ append-nil part in (
      part,
      record {
        at_start = start;
        moved = moved;
        within = omega (arith, size);
        no_beginning = lacks_short_beginning part (omega (arith, size));
      },
      λ t. subst LacksBeginning (sym (whole t)) (lacks_short_beginning part (omega (arith, size))),
    )
