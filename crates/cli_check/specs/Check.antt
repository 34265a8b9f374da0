-- One AOS transfer frame of the CMAC suite, judged under a key.
-- CCSDS 732.0-B-4, Transfer Frame Primary Header; CCSDS 355.0-B-2, Security Header and Security Trailer.
use Rattle.std.specs.Prelude.{◌≡◌, ◌≢◌, ℕ, ◌+◌, ◌-◌, ◌<◌, ◌⊎◌, List, [], ◌∷◌, length, take, drop}
use Rattle.aos_frame.specs.FirstFault.{version_of, spare_of}
use Rattle.cmac.specs.Cmac.{mac}
use Rattle.sdls_base.specs.declared.states.Suite.TheVariants.{Cmac}
use Rattle.sdls_base.specs.Suite.{overhead_of}
use Rattle.cli_check.specs.declared.check.Refusal.{Refusal}
use Rattle.cli_check.specs.declared.check.Refusal.TheVariants.{Short, Long, Version, Spare, Spi, Mac}

-- the octets of primary header, security header and security trailer: profile
abbrev pub least_length : ℕ
least_length = 6 + overhead_of Cmac

-- the most octets of a frame: profile
abbrev pub greatest_length : ℕ
greatest_length = 2048

-- the octets of the security parameter index, after the primary header
abbrev pub parameter_index : List ℕ → List ℕ
parameter_index frame = take 2 (drop 6 frame)

-- the index is 0 or 65535 (CCSDS 355.0-B-2, Security Parameter Index)
abbrev pub IsReserved : List ℕ → Type 0
IsReserved index = (index ≡ 0 ∷ 0 ∷ []) ⊎ (index ≡ 255 ∷ 255 ∷ [])

-- the octets that the MAC covers: all before the trailer
abbrev pub covered : List ℕ → List ℕ
covered frame = take (length frame - 16) frame

-- the security trailer
abbrev pub trailer : List ℕ → List ℕ
trailer frame = drop (length frame - 16) frame

-- the transfer frame data field: what stands between security header and trailer
abbrev pub data_field : List ℕ → List ℕ
data_field frame = drop 12 (covered frame)

-- the check that refuses so fails for the frame under the key
abbrev pub FailsCheck : List ℕ → List ℕ → Refusal → Type 0
FailsCheck key frame Short = length frame < least_length
FailsCheck key frame Long = greatest_length < length frame
FailsCheck key frame Version = version_of frame ≢ 1
FailsCheck key frame Spare = spare_of frame ≢ 0
FailsCheck key frame Spi = IsReserved (parameter_index frame)
FailsCheck key frame Mac = mac key (covered frame) ≢ trailer frame

-- the place of a check in the order in which they are made: profile
abbrev pub place : Refusal → ℕ
place Short = 0
place Long = 1
place Version = 2
place Spare = 3
place Spi = 4
place Mac = 5

-- this check fails, and none before it
pub record IsFirstFault (key frame : List ℕ) (fault : Refusal) : Type 0 where
  pub fails : FailsCheck key frame fault
  pub first : (other : Refusal) → place other < place fault → ¬ FailsCheck key frame other

-- no check fails
abbrev pub PassesChecks : List ℕ → List ℕ → Type 0
PassesChecks key frame = (check : Refusal) → ¬ FailsCheck key frame check

-- none of the first checks fails, so many of them, whatever the key
abbrev pub PassesBefore : ℕ → List ℕ → Type 0
PassesBefore n frame = (key : List ℕ) (check : Refusal) → place check < n → ¬ FailsCheck key frame check
