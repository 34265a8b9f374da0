-- Profile: the two suites.
use Rattle.std.specs.Prelude.{ℕ, ◌+◌}
use Rattle.sdls_base.specs.declared.key_id.KeyClass.{KeyClass}
use Rattle.sdls_base.specs.declared.key_id.KeyClass.TheVariants as classes
use Rattle.sdls_base.specs.declared.states.Suite.{Suite}
use Rattle.sdls_base.specs.declared.states.Suite.TheVariants.{Cmac, Gcm}

-- SPI of 2 octets, sequence number of 4 or vector of 12, MAC of 16
abbrev pub overhead_of : Suite → ℕ
overhead_of Cmac = 2 + 4 + 16
overhead_of Gcm = 2 + 12 + 16

-- a suite's session keys have its own class
abbrev pub class_of_suite : Suite → KeyClass
class_of_suite Cmac = classes.Cmac
class_of_suite Gcm = classes.Gcm
