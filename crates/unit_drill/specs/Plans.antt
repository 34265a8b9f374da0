-- The plans of the two units of a drill (profile), and what their lines say.
use Rattle.std.specs.Prelude.{ℕ, ◌-◌, List, [], ◌∷◌, ◌++◌, codes, false, true, None}
use Rattle.sdls_base.specs.declared.link.Link.{Link}
use Rattle.sdls_base.specs.declared.link.AnyLayout.TheVariants.{Tc}
use Rattle.sdls_base.specs.declared.states.Direction.{Direction}
use Rattle.sdls_base.specs.declared.states.Direction.TheVariants.{Send, Receive}
use Rattle.sdls_base.specs.declared.states.KeyState.TheVariants.{Active}
use Rattle.sdls_base.specs.declared.states.Suite.{Suite}
use Rattle.sdls_base.specs.declared.states.Suite.TheVariants.{Cmac, Gcm}
use Rattle.unit_plan.specs.declared.link_line.ChannelPlace.{ChannelPlace}
use Rattle.unit_plan.specs.declared.plan.PlanKey.{PlanKey}
use Rattle.unit_plan.specs.declared.plan.PlanSa.{PlanSa}
use Rattle.unit_plan.specs.PlanLines.{PlanLines}

-- the lines of a plan, with this last digit of its device and this direction of its associations
abbrev pub plan_text : List ℕ → List ℕ → List ℕ
plan_text digit direction =
    codes "sdls 1\ndevice 00000d0" ++ (digit ++ (codes "\nslots 8192\nblock 64\naccept 64\nlink 0 tc noseg fecf -\n"
    ++ (codes "channel 0 0 1 0 -\nchannel 1 0 1 1 -\nchannel 2 0 1 2 -\nchannel 3 0 1 3 -\n"
    ++ (codes "key 32769 active 01010101010101010101010101010101\nkey 257 active 02020202020202020202020202020202\n"
    ++ (codes "key 32771 active 03030303030303030303030303030303\nkey 259 active 04040404040404040404040404040404\n"
    ++ (codes "sa 1 " ++ (direction ++ (codes " cmac 32769 1 4294967296 0\nsa 2 "
    ++ (direction ++ (codes " gcm 257 1 4294967296 1\nsa 3 "
    ++ (direction ++ (codes " cmac 32771 1 4294967296 2\nsa 4 "
    ++ (direction ++ codes " gcm 259 1 4294967296 3\n")))))))))))))

unfoldable pub sender_plan : List ℕ
sender_plan = plan_text (codes "1") (codes "send")

unfoldable pub receiver_plan : List ℕ
receiver_plan = plan_text (codes "2") (codes "receive")

-- ---- what the lines say

abbrev pub link_line : Link
link_line = record {
  layout = Tc (record { segment = false; fecf = true; most = 1024 });
  mask = record { octets = 0xC3 ∷ 0xFF ∷ 0xFC ∷ 0 ∷ 0 ∷ 0 ∷ []; length = 5 };
}

abbrev pub place_line : ℕ → ℕ × ChannelPlace
place_line channel = (channel, record { link = 0; spacecraft = 1; channel = channel; map = None })

-- sixteen octets
abbrev pub key_of : ℕ → List ℕ
key_of x = x ∷ x ∷ x ∷ x ∷ x ∷ x ∷ x ∷ x ∷ x ∷ x ∷ x ∷ x ∷ x ∷ x ∷ x ∷ x ∷ []

abbrev pub key_line : ℕ → ℕ → ℕ → PlanKey
key_line line id octet = record { line = line; item = record { id = id; bytes = key_of octet }; state = Active }

abbrev pub association_line : Direction → ℕ → ℕ → Suite → ℕ → PlanSa
association_line direction line spi suite key = record {
  line = line;
  sa = record { spi = spi; direction = direction; suite = suite; window = 4294967296; channels = (spi - 1) ∷ [] };
  key = key;
  number = 1;
}

abbrev pub drill_lines : ℕ → Direction → PlanLines
drill_lines digit direction = record {
  heads = 5;
  device = 0 ∷ 0 ∷ 13 ∷ digit ∷ [];
  slots = 8192;
  block = 64;
  accept = 64;
  links = (0, link_line) ∷ [];
  channels = place_line 0 ∷ place_line 1 ∷ place_line 2 ∷ place_line 3 ∷ [];
  keys = key_line 11 32769 1 ∷ key_line 12 257 2 ∷ key_line 13 32771 3 ∷ key_line 14 259 4 ∷ [];
  associations = association_line direction 15 1 Cmac 32769 ∷ association_line direction 16 2 Gcm 257
      ∷ association_line direction 17 3 Cmac 32771 ∷ association_line direction 18 4 Gcm 259 ∷ [];
}

abbrev pub sender_lines : PlanLines
sender_lines = drill_lines 1 Send

abbrev pub receiver_lines : PlanLines
receiver_lines = drill_lines 2 Receive
