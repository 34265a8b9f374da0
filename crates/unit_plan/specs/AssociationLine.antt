-- Profile: `sa` lines.
use Rattle.std.specs.Prelude.{ℕ, ◌+◌, nat_le, Bool, true, false, ◌&&◌, List, [], ◌∷◌, length, codes, Option, Some}
use Rattle.sdls_base.specs.declared.states.Direction.{Direction}
use Rattle.sdls_base.specs.declared.states.Direction.TheVariants.{Send, Receive}
use Rattle.sdls_base.specs.declared.states.Suite.{Suite}
use Rattle.sdls_base.specs.declared.states.Suite.TheVariants.{Cmac, Gcm}
use Rattle.sdls_base.specs.declared.TheConstants.{MOST_CHANNELS}
use Rattle.unit_plan.specs.declared.key_line.BeforeList.{BeforeList}
use Rattle.unit_plan.specs.declared.key_line.AssociationLine.{AssociationLine}
use Rattle.unit_plan.specs.Reading.{◌>>=◌, first_of, end_of}
use Rattle.unit_plan.specs.Field.{decimal_at, choice_at, channel_numbers}

abbrev pub direction_of : Bool → Direction
direction_of true = Send
direction_of false = Receive

abbrev pub suite_of : Bool → Suite
suite_of true = Cmac
suite_of false = Gcm

unfoldable pub before_list : List (List ℕ) → Option (BeforeList × List ℕ)
before_list words = do
  spi ← decimal_at words
  sends ← choice_at (codes "send") (codes "receive") spi.1
  is_cmac ← choice_at (codes "cmac") (codes "gcm") sends.1
  key ← decimal_at is_cmac.1
  first ← decimal_at key.1
  window ← decimal_at first.1
  list ← first_of window.1
  ended ← end_of list.1
  Some (
    record {
      spi = spi.0;
      direction = direction_of sends.0;
      suite = suite_of is_cmac.0;
      key = key.0;
      number = first.0;
      window = window.0;
    },
    list.0,
  )

unfoldable pub association_said : List (List ℕ) → Option AssociationLine
association_said words = do
  before ← before_list words
  channels ← channel_numbers before.1
  Some (record { before = before.0; channels = channels })

-- the test of a list of channels: numbers from `least` to 63, each above the one before it
abbrev pub channels_from : ℕ → List ℕ → Bool
channels_from least [] = true
channels_from least (n ∷ ns) = nat_le least n && (nat_le n 63 && channels_from (n + 1) ns)

-- one to eight of them
abbrev pub are_channel_ids : List ℕ → Bool
are_channel_ids ns = nat_le 1 (length ns) && (nat_le (length ns) MOST_CHANNELS && channels_from 0 ns)
