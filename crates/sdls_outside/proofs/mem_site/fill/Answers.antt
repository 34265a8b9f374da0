-- Each octet is filled where it lies in a range.
use Rattle.std.proofs.Common.{◌≡◌, ℕ, ◌+◌, ◌<◌, List, length, map, true, false, sym, ◌∙◌, subst, arith, Bool}
use Rattle.std.proofs.lemmas.List.{set-get_or}
use Rattle.std.specs.Bool.{MatchBool}
use Rattle.std.specs.List.{list_any}
use Rattle.sdls_outside.specs.Disk.{Outside}
use Rattle.sdls_outside.specs.Crash.{Inside, covers}
use Rattle.sdls_outside.specs.Undo.{range_of}
use Rattle.sdls_outside.proofs.Ranges.{IsFilledBelow, sides, fills, leaves}
use Rattle.sdls_outside.proofs.mem_site.fill.Goals as goal
use Rattle.sdls_outside.proofs.mem_site.fill.Goals.{then-is_inside, else-is_inside}

-- the test at this answer
at : (ranges : List (ℕ × ℕ)) (i : ℕ) (answer : Bool) → answer ≡ list_any (covers i) ranges
    → MatchBool answer (Inside ranges i) (Outside ranges i)
at ranges i answer same = subst (λ (b : Bool). MatchBool b (Inside ranges i) (Outside ranges i)) (sym same)
    (sides ranges i)

pub loop-i-preserved : goal.loop-i-preserved
loop-i-preserved c =
    let i = c.loop-i.i in
    let ranges = map range_of c.args.undos.now.items in
    let kept = c.loop-i.invariant in
    let within : i < length c.loop-i.image = omega arith in
    let P : List ℕ → Type 0 = λ image. IsFilledBelow (i + 1) c.args.octet ranges c.args.image.now image in
    elim c.if-is_inside.branch [
      | then-is_inside w ↦ subst P (sym w.image-is)
          (fills i c.args.octet ranges c.args.image.now c.loop-i.image kept within
          (at ranges i true w.if-is_inside.ensures))
      | else-is_inside w ↦ subst P (sym (w.image-is ∙ set-get_or c.loop-i.image i 0))
          (leaves i c.args.octet ranges c.args.image.now c.loop-i.image kept (at ranges i false w.if-is_inside.ensures))
    ]
