-- Profile: the numbers of the checks of a frame.
use Rattle.std.specs.Prelude.{ℕ}
use Rattle.sdls_base.specs.declared.layout.FrameFault.{FrameFault}
use Rattle.sdls_base.specs.declared.layout.FrameFault.TheVariants.{Short, Long, LengthField, Version, Spare}
use Rattle.sdls_base.specs.declared.layout.FrameFault.TheVariants.{SecondaryHeader, Fecf}

abbrev pub fault_number : FrameFault → ℕ
fault_number Short = 1
fault_number Long = 2
fault_number LengthField = 3
fault_number Version = 4
fault_number Spare = 5
fault_number SecondaryHeader = 6
fault_number Fecf = 7
