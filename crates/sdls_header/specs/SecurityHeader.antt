-- Security Header and Security Trailer (CCSDS 355.0-B-2); the widths of the fields are profile.
use Rattle.std.specs.Prelude.{◌≡◌, ℕ, ◌^◌, ◌<◌, List, ◌++◌, length, take}
use Rattle.std.specs.Int.{w16, w32, w64, to_be_bytes}
use Rattle.sdls_base.specs.declared.states.Suite.{Suite}
use Rattle.sdls_base.specs.declared.states.Suite.TheVariants.{Cmac, Gcm}
use Rattle.sdls_header.specs.declared.header.Vector.{Vector}
use Rattle.sdls_header.specs.declared.header.Vector.TheVariants.{Sequence, Wide}
use Rattle.sdls_header.specs.declared.header.SecurityHeader.{SecurityHeader}
use Rattle.sdls_header.specs.declared.header.Split.{Split}

-- a sequence number of 4 octets, or a vector of 12: the device field, then the number
abbrev pub vector_octets : Vector → List ℕ
vector_octets (Sequence number) = to_be_bytes w32 number
vector_octets (Wide device number) = device ++ to_be_bytes w64 number

-- the security parameter index, then the vector
abbrev pub header_octets : SecurityHeader → List ℕ
header_octets header = to_be_bytes w16 header.spi ++ vector_octets header.vector

-- the suite has vectors of this kind
abbrev pub IsVectorOf : Suite → Vector → Type 0
IsVectorOf Cmac (Sequence number) = number < 2 ^ 32
IsVectorOf Cmac (Wide device number) = ⊥
IsVectorOf Gcm (Sequence number) = ⊥
IsVectorOf Gcm (Wide device number) = (length device ≡ 4) × (number < 2 ^ 64)

-- the pieces of a room, apart from where they lie in memory
pub record Pieces : Type 0 where
  pub header : List ℕ
  pub vector : Vector
  pub field : List ℕ
  pub mac : List ℕ

abbrev pub view : Split → Pieces
view s = record { header = s.header.now; vector = s.vector; field = s.field.now; mac = s.mac.now }

-- the room is security header, data field and MAC; the header is two octets of index, and the vector
pub record SplitsInto (suite : Suite) (room : List ℕ) (p : Pieces) : Type 0 where
  pub whole : room ≡ p.header ++ p.field ++ p.mac
  pub header : p.header ≡ take 2 room ++ vector_octets p.vector
  pub kind : IsVectorOf suite p.vector
  pub mac : length p.mac ≡ 16
