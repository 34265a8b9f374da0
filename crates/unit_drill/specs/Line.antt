-- The lines that drills write (profile).
use Rattle.std.specs.Prelude.{ℕ, List, ◌++◌, codes, decimal}
use Rattle.unit_drill.specs.declared.counts.Counts.{Counts}

-- what is counted, and how many there are of it
unfoldable pub counted : List ℕ → ℕ → List ℕ
counted what number = what ++ decimal number

unfoldable pub drill_text : ℕ → Counts → List ℕ
drill_text number counts = counted (codes "drill ") number ++ (counted (codes " protected ") counts.protected
    ++ (counted (codes " accepted ") counts.accepted ++ (counted (codes " rejected ") counts.rejected ++ codes "\n")))

unfoldable pub link_text : ℕ → Counts → List ℕ
link_text number counts = counted (codes "drill link ") number ++ (counted (codes " protected ") counts.protected
    ++ (counted (codes " lost ") counts.lost ++ (counted (codes " accepted ") counts.accepted
    ++ (counted (codes " rejected ") counts.rejected ++ codes "\n"))))
