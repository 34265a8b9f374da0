-- The recording of a life: what its runs sank (profile).
use Rattle.std.specs.Prelude.{ℕ, ◌<◌, ◌^◌, Bool, List, length, map}
use Rattle.std.specs.List.{filter}
use Rattle.run_promise.specs.Life.{LifeRun}

abbrev pub SankFew : LifeRun → Type 0
SankFew run = length run.sunk < 2 ^ 32

-- what the runs sank that were kept
abbrev pub sunk_by : (LifeRun → Bool) → List LifeRun → List (List ℕ)
sunk_by kept runs = map (λ run. run.sunk) (filter kept runs)
