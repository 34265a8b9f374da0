-- Lines that more than one word writes (profile).
use Rattle.std.specs.Prelude.{ℕ, List, codes}
use Rattle.record_io.specs.Outcome.{line}

abbrev pub usage_text : List ℕ
usage_text = line (codes "usage: sdls check KEY, init, run, stat, drill N, drill link N, audit")

abbrev pub source_fault_text : List ℕ
source_fault_text = line (codes "source fault")
