-- A field of a fixed width (profile): its octets, and zeros behind them.
use Rattle.std.specs.Prelude.{ℕ, ◌-◌, List, ◌++◌, length, replicate}

abbrev pub padded : ℕ → List ℕ → List ℕ
padded width octets = octets ++ replicate (width - length octets) 0
