-- What a sure source in memory has left (profile).
use Rattle.std.specs.Prelude.{ℕ, List, drop}
use Rattle.sdls_outside.specs.declared.mem_source.SureSource.{SureSource}

-- the octets that were not taken yet
abbrev pub octets_left : SureSource → List ℕ
octets_left source = drop source.taken source.octets.items
