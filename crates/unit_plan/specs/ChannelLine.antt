-- Profile: `channel` lines.
use Rattle.std.specs.Prelude.{ℕ, ◌==◌, nat_le, Bool, true, false, not, ◌&&◌, List, Option, Some, None}
use Rattle.sdls_base.specs.declared.link.AnyLayout.{AnyLayout}
use Rattle.sdls_base.specs.declared.link.AnyLayout.TheVariants.{Tc, Tm, Aos}
use Rattle.unit_plan.specs.declared.link_line.ChannelPlace.{ChannelPlace}
use Rattle.unit_plan.specs.Reading.{◌>>=◌, end_of}
use Rattle.unit_plan.specs.Field.{capped_at, optional_at}

-- number and place
unfoldable pub channel_said : List (List ℕ) → Option (ℕ × ChannelPlace)
channel_said words = do
  n ← capped_at 255 words
  link ← capped_at 255 n.1
  spacecraft ← capped_at 65535 link.1
  channel ← capped_at 255 spacecraft.1
  access_point ← optional_at channel.1
  ended ← end_of access_point.1
  Some (n.0, record { link = link.0; spacecraft = spacecraft.0; channel = channel.0; map = access_point.0 })

abbrev pub is_same_number : Option ℕ → Option ℕ → Bool
is_same_number None None = true
is_same_number (Some a) (Some b) = a == b
is_same_number None (Some b) = false
is_same_number (Some a) None = false

-- the same link, spacecraft, virtual channel and access point
abbrev pub is_same_place : ChannelPlace → ChannelPlace → Bool
is_same_place a b =
    (a.link == b.link) && ((a.spacecraft == b.spacecraft) && ((a.channel == b.channel) && is_same_number a.map b.map))

-- an access point, where one is wanted
abbrev pub is_map : Bool → Option ℕ → Bool
is_map wanted (Some n) = wanted && nat_le n 63
is_map wanted None = not wanted

-- the bounds on a link (CCSDS 232.0-B-4, 132.0-B-3 and 732.0-B-4; of AOS 63 is the channel of idle frames)
abbrev pub is_place : AnyLayout → ChannelPlace → Bool
is_place (Tc layout) place = nat_le place.spacecraft 1023 &&
    (nat_le place.channel 63 && is_map layout.segment place.map)
is_place (Tm layout) place = nat_le place.spacecraft 1023 && (nat_le place.channel 7 && is_map false place.map)
is_place (Aos layout) place = nat_le place.spacecraft 255 && (nat_le place.channel 62 && is_map false place.map)
