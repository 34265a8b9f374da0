-- What a link delivers of the frames of a drill's chunk, each known by its number in the chunk (profile).
use Rattle.std.specs.Prelude.{ℕ, zero, suc, Bool, true, false, List, [], ◌∷◌, ◌++◌}
use Rattle.link_world.specs.declared.fates.Fate.{Fate}
use Rattle.link_world.specs.declared.fates.Fate.TheVariants.{Lost, Once, Twice, Late}
use Rattle.link_world.specs.Fate.{fate_of}

-- what is delivered of a frame in its turn
abbrev pub in_turn : ℕ → Fate → List ℕ
in_turn k Lost = []
in_turn k Once = k ∷ []
in_turn k Twice = k ∷ k ∷ []
in_turn k Late = []

-- what is delivered of it when all had their turn
abbrev pub late : ℕ → Fate → List ℕ
late k Lost = []
late k Once = []
late k Twice = []
late k Late = k ∷ []

-- of the first frames, so many
abbrev pub turns : ℕ → List ℕ
turns zero = []
turns (suc k) = turns k ++ in_turn k (fate_of k)

abbrev pub lates : ℕ → List ℕ
lates zero = []
lates (suc k) = lates k ++ late k (fate_of k)

-- of a chunk of so many frames, in the order of deliveries
abbrev pub deliveries : ℕ → List ℕ
deliveries count = turns count ++ lates count

abbrev pub is_lost : Fate → Bool
is_lost Lost = true
is_lost Once = false
is_lost Twice = false
is_lost Late = false

-- how often a frame is delivered in all
abbrev pub delivery_count : Fate → ℕ
delivery_count Lost = 0
delivery_count Once = 1
delivery_count Twice = 2
delivery_count Late = 1
