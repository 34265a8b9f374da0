-- What becomes of the frames of a drill on a link (profile).
use Rattle.std.specs.Prelude.{ℕ, ◌%◌, ◌==◌, if◌then◌else◌}
use Rattle.link_world.specs.declared.fates.Fate.{Fate}
use Rattle.link_world.specs.declared.fates.Fate.TheVariants.{Lost, Once, Twice, Late}

-- of the frame with this number in its chunk, counted from 0
abbrev pub fate_of : ℕ → Fate
fate_of k = if k % 7 == 3 then Lost else (if k % 16 == 5 then Late else (if k % 5 == 2 then Twice else Once))
