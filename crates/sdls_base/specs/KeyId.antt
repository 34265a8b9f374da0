-- Profile: what a key's identifier says of it. A key identifier is seen as its number.
use Rattle.std.specs.Prelude.{ℕ, ◌^◌, nat_lt, if◌then◌else◌}
use Rattle.sdls_base.specs.declared.key_id.KeyClass.{KeyClass}
use Rattle.sdls_base.specs.declared.key_id.KeyClass.TheVariants.{Master, Gcm, Cmac}

-- 1 to 255 master, 256 to 32,767 GCM, from 32,768 on CMAC
abbrev pub class_of : ℕ → KeyClass
class_of id = if nat_lt id 256 then Master else (if nat_lt id 32768 then Gcm else Cmac)

-- GCM carries a number in 8 octets of its vector, of which 48 bits are used; CMAC in 4 octets
abbrev pub end_of_class : KeyClass → ℕ
end_of_class Master = 2 ^ 48
end_of_class Gcm = 2 ^ 48
end_of_class Cmac = 2 ^ 32

-- the numbers of a key lie below its end
abbrev pub end_of : ℕ → ℕ
end_of id = end_of_class (class_of id)
