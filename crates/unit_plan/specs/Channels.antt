-- Profile: the channels of a plan with their places, in the order of the lines.
use Rattle.std.specs.Prelude.{ℕ, ◌==◌, Bool, List, Option}
use Rattle.std.specs.List.{list_any, list_all, find}
use Rattle.std.specs.Option.{option_map}
use Rattle.unit_plan.specs.declared.link_line.ChannelPlace.{ChannelPlace}
use Rattle.unit_plan.specs.ChannelLine.{is_same_place}

abbrev pub has_channel : List (ℕ × ChannelPlace) → ℕ → Bool
has_channel channels n = list_any (λ row. row.0 == n) channels

abbrev pub has_place : List (ℕ × ChannelPlace) → ChannelPlace → Bool
has_place channels place = list_any (λ row. is_same_place row.1 place) channels

-- each number is a channel's
abbrev pub are_known : List (ℕ × ChannelPlace) → List ℕ → Bool
are_known channels numbers = list_all (has_channel channels) numbers

-- the channel at a place
abbrev pub channel_at : List (ℕ × ChannelPlace) → ChannelPlace → Option ℕ
channel_at channels place = option_map (λ row. row.0) (find (λ row. is_same_place row.1 place) channels)
