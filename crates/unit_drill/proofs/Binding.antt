-- Under what the frames of a drill are bound.
use Rattle.std.proofs.Common.{◌≡◌, ℕ, ◌+◌, ◌*◌, ◌<◌, List, [], ◌∷◌, map, Some, Ok, refl}
use Rattle.std.specs.List.{range_with_len}
use Rattle.sdls_base.specs.declared.states.Direction.TheVariants.{Send}
use Rattle.sdls_base.specs.declared.states.Suite.{Suite}
use Rattle.frame_shield.specs.declared.binding.Binding.{Binding}
use Rattle.run_promise.specs.Fits.{protect_reply}
use Rattle.unit_drill.specs.Plans.{key_of, link_line}
use Rattle.unit_drill.proofs.Read.{sender_bare}
use Rattle.unit_drill.proofs.Lanes.{begun, each, four, key_on, state_at, suite_on}

abbrev pub bound_to : ℕ → ℕ → Suite → ℕ → ℕ → Binding
bound_to digit spi suite key octet = record {
  spi = spi;
  suite = suite;
  key = key;
  schedule = key_of octet;
  device = 0 ∷ 0 ∷ 13 ∷ digit ∷ [];
  link = link_line;
}

-- a clear frame of this channel
abbrev pub clear_on : ℕ → ℕ → List ℕ → List ℕ
clear_on channel sequence field = 0 ∷ 1 ∷ 4 * channel ∷ 36 ∷ sequence ∷ field

-- a data field of 32 octets
abbrev pub field_by : (ℕ → ℕ) → List ℕ
field_by octet = map octet (range_with_len 0 32)

-- the frames of each lane are bound to its association
pub bound_on : (s : ℕ) (g : ℕ → ℕ) (lane : ℕ) → lane < 4
    → protect_reply sender_bare (state_at 1 Send (each 1) begun (each 0)) 0 (clear_on lane s (field_by g))
    ≡ Ok (Some (bound_to 1 (lane + 1) (suite_on lane) (key_on lane) (lane + 1)))
bound_on s g = four _ refl refl refl refl
