-- The count of faults of standard input (profile).
use Rattle.std.specs.Prelude.{ℕ}
use Rattle.sdls_outside.specs.declared.std_source.StdSource.{StdSource}

abbrev pub input_faults : StdSource → ℕ
input_faults source = source.faults
