-- Profile: the values of lines, and their bounds.
use Rattle.std.specs.Prelude.{ℕ, ◌^◌, nat_le, ◌&&◌, List, codes, Option, Some, None, if◌then◌else◌}
use Rattle.sdls_base.specs.declared.TheConstants.{MOST_WINDOW}
use Rattle.unit_plan.specs.declared.key_line.AssociationLine.{AssociationLine}
use Rattle.unit_plan.specs.declared.plan.PlanSa.{PlanSa}
use Rattle.unit_plan.specs.AssociationLine.{are_channel_ids}
use Rattle.unit_plan.specs.Reading.{◌>>=◌, first_of, past, end_of}
use Rattle.unit_plan.specs.Lines.{words_of}
use Rattle.unit_plan.specs.Field.{decimal_at, decoded}

abbrev pub bounded : ℕ → ℕ → ℕ → Option ℕ
bounded least most n = if nat_le least n && nat_le n most then Some n else None

abbrev pub channel_id : ℕ → Option ℕ
channel_id n = if nat_le n 63 then Some n else None

-- behind the first word of a line: the version 1
abbrev pub version_said : List (List ℕ) → Option (Unit {0})
version_said words = do
  version ← past (words_of (codes "1")) words
  end_of version.1

-- four octets
abbrev pub device_said : List (List ℕ) → Option (List ℕ)
device_said words = do
  word ← first_of words
  octets ← decoded 4 word.0
  ended ← end_of word.1
  Some octets

-- one number
abbrev pub number_said : List (List ℕ) → Option ℕ
number_said words = do
  n ← decimal_at words
  ended ← end_of n.1
  Some n.0

-- the association of a line whose numbers and list are within their bounds
unfoldable pub association_of : ℕ → AssociationLine → Option PlanSa
association_of line said = do
  spi ← bounded 1 65534 said.before.spi
  key ← bounded 1 65535 said.before.key
  first ← bounded 0 (2 ^ 48) said.before.number
  window ← bounded 1 MOST_WINDOW said.before.window
  if are_channel_ids said.channels then Some (record {
    line = line;
    sa = record {
      spi = spi;
      direction = said.before.direction;
      suite = said.before.suite;
      window = window;
      channels = said.channels;
    };
    key = key;
    number = first;
  }) else None
