-- Profile: `key` lines.
use Rattle.std.specs.Prelude.{ℕ, Bool, true, false, List, codes, Option, Some}
use Rattle.std.specs.Option.{option_or}
use Rattle.sdls_base.specs.declared.states.KeyState.{KeyState}
use Rattle.sdls_base.specs.declared.states.KeyState.TheVariants.{PreActive, Active}
use Rattle.unit_plan.specs.declared.key_line.KeyLine.{KeyLine}
use Rattle.unit_plan.specs.Reading.{◌>>=◌, first_of, end_of}
use Rattle.unit_plan.specs.Field.{decimal_at, choice_at, decoded}

abbrev pub state_of : Bool → KeyState
state_of true = PreActive
state_of false = Active

-- the key that 32 or 64 digits spell
abbrev pub key_octets : List ℕ → Option (List ℕ)
key_octets word = option_or (decoded 16 word) (decoded 32 word)

-- identifier, state, and the digits of the key
unfoldable pub before_octets : List (List ℕ) → Option (ℕ × KeyState × List ℕ)
before_octets words = do
  id ← decimal_at words
  is_preactive ← choice_at (codes "preactive") (codes "active") id.1
  digits ← first_of is_preactive.1
  ended ← end_of digits.1
  Some (id.0, state_of is_preactive.0, digits.0)

unfoldable pub key_said : List (List ℕ) → Option KeyLine
key_said words = do
  before ← before_octets words
  octets ← key_octets before.2
  Some (record { id = before.0; state = before.1; octets = octets })
