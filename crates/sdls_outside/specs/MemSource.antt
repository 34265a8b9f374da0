-- What a source in memory has left, and how it gives it (profile).
use Rattle.std.specs.Prelude.{ℕ, List}
use Rattle.sdls_outside.specs.Calls.{Plan, plan_of}
use Rattle.sdls_outside.specs.SureSource.{octets_left}
use Rattle.sdls_outside.specs.declared.mem_source.MemSource.{MemSource}

-- the octets that were not taken yet
abbrev pub pieces_left : MemSource → List ℕ
pieces_left source = octets_left source.source

-- the most octets that it gives in a call
abbrev pub piece_of : MemSource → ℕ
piece_of source = source.piece

-- the calls of it that fail
abbrev pub source_plan : MemSource → Plan
source_plan source = plan_of source.calls

abbrev pub source_faults : MemSource → ℕ
source_faults source = source.calls.faults
