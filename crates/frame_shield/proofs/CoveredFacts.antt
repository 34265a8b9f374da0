-- The covered text, as it is written.
use Rattle.std.proofs.Common.{◌≡◌, ℕ, suc, List, [], ◌∷◌, ◌++◌, length, take, refl, ap, sym}
use Rattle.sdls_base.proofs.Endings.{take_front}
use Rattle.sdls_header.specs.Authenticated.{masked_octets}

pub length-masked_octets : (prefix mask : List ℕ) → length (masked_octets prefix mask) ≡ length prefix
length-masked_octets [] mask = refl
length-masked_octets (x ∷ prefix) [] = ap suc (length-masked_octets prefix [])
length-masked_octets (x ∷ prefix) (m ∷ mask) = ap suc (length-masked_octets prefix mask)

-- the front of what begins with the masked prefix
pub take_masked : (prefix mask rest : List ℕ) → take (length prefix) (masked_octets prefix mask ++ rest)
    ≡ masked_octets prefix mask
take_masked prefix mask rest =
    take_front (masked_octets prefix mask) rest (length prefix) (sym (length-masked_octets prefix mask))
