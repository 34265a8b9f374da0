-- Octets under a mask, for the law that no frame begins as what is sealed with a challenge.
use Rattle.std.proofs.Common.{◌≢◌, ℕ, ◌<◌, List, [], ◌∷◌, ◌++◌, get_or, ap, arith}
use Rattle.std.proofs.lemmas.Nat.{and_le_l}
use Rattle.sdls_header.specs.Authenticated.{authenticated}
use Rattle.ep_core.specs.Sealed.{no_frame}

pub no_frame_begins : (mask header rest prefix : List ℕ) (octet : ℕ) → octet < 192
    → authenticated mask (octet ∷ prefix) header ≢ no_frame ++ rest
no_frame_begins [] header rest prefix octet low e =
    let first = ap (λ (s : List ℕ). get_or s 0 0) e in omega (arith, first)
no_frame_begins (m ∷ mask) header rest prefix octet low e =
    let first = ap (λ (s : List ℕ). get_or s 0 0) e in omega (arith, first, and_le_l octet m)
