-- The room of a protected frame: security header, text, MAC (CCSDS 355.0-B-2, Security Header and Security Trailer).
use Rattle.std.specs.Prelude.{◌≡◌, ℕ, ◌++◌, List}
use Rattle.cmac.specs.Cmac.{mac}
use Rattle.gcm.specs.Gcm.{gcm_seal}
use Rattle.sdls_base.specs.declared.states.Suite.{Suite}
use Rattle.sdls_base.specs.declared.states.Suite.TheVariants.{Cmac, Gcm}
use Rattle.sdls_header.specs.declared.header.Vector.{Vector}
use Rattle.sdls_header.specs.declared.header.Vector.TheVariants.{Sequence, Wide}
use Rattle.sdls_header.specs.declared.header.SecurityHeader.{SecurityHeader}
use Rattle.sdls_header.specs.SecurityHeader.{Pieces, SplitsInto, header_octets, vector_octets}
use Rattle.sdls_header.specs.Authenticated.{authenticated}
use Rattle.frame_shield.specs.declared.binding.Binding.{Binding}
use Rattle.sdls_base.specs.Link.{mask_octets}

-- the vector of the suite that carries a number
abbrev pub vector_for : Suite → List ℕ → ℕ → Vector
vector_for Cmac device n = Sequence n
vector_for Gcm device n = Wide device n

-- the number that a vector carries
abbrev pub number_of : Vector → ℕ
number_of (Sequence n) = n
number_of (Wide device n) = n

-- The text and the MAC of a data field, by the covered text before it. With a sequence number the text is the data
-- field, and the MAC the CMAC of the covered text followed by it (SP 800-38B). With a vector both are the GCM of the
-- data field, with the covered text as additional data (SP 800-38D).
abbrev pub sealed : List ℕ → Vector → List ℕ → List ℕ → List ℕ × List ℕ
sealed key (Sequence n) covered field = (field, mac key (covered ++ field))
sealed key (Wide device n) covered field = gcm_seal key (vector_octets (Wide device n)) covered field

-- a header of the binding
abbrev pub header_of : Binding → Vector → SecurityHeader
header_of b vector = record { spi = b.spi; vector = vector }

-- what a MAC covers before the data field, in a frame with this prefix
abbrev pub covered : Binding → List ℕ → Vector → List ℕ
covered b prefix vector = authenticated (mask_octets b.link.mask) prefix (header_octets (header_of b vector))

-- behind the prefix, the room has a header of the binding, and then the text and the MAC of the data field
pub record IsSecured (b : Binding) (prefix room : List ℕ) (p : Pieces) (field : List ℕ) : Type 0 where
  pub split : SplitsInto b.suite room p
  pub header : p.header ≡ header_octets (header_of b p.vector)
  pub seal : sealed b.schedule p.vector (covered b prefix p.vector) field ≡ (p.field, p.mac)
