-- What a link says of its transfer frames (CCSDS 355.0-B-2, authentication bit mask; lengths and usual masks profile).
use Rattle.std.specs.Prelude.{◌≡◌, ℕ, ◌+◌, ◌≤◌, Bool, true, false, List, [], ◌∷◌, take}
use Rattle.sdls_base.specs.declared.link.AnyLayout.{AnyLayout}
use Rattle.sdls_base.specs.declared.link.AnyLayout.TheVariants.{Tc, Tm, Aos}
use Rattle.sdls_base.specs.declared.link.Mask.{Mask}
use Rattle.sdls_base.specs.declared.link.Link.{Link}

-- whether frames end with a frame error control field
abbrev pub has_fecf : AnyLayout → Bool
has_fecf (Tc layout) = layout.fecf
has_fecf (Tm layout) = layout.fecf
has_fecf (Aos layout) = layout.fecf

-- the bounds of a layout: a TC frame has at most 1,024 octets, a TM or AOS frame 48 to 2,048, beside the insert zone
abbrev pub IsInBounds : AnyLayout → Type 0
IsInBounds (Tc layout) = layout.most ≡ 1024
IsInBounds (Tm layout) = (48 ≤ layout.length) × (layout.length ≤ 2048)
IsInBounds (Aos layout) = (layout.insert ≤ 64) × (48 + layout.insert ≤ layout.length) × (layout.length ≤ 2048)

-- the layout lies in its bounds, and the mask has at most 6 octets
pub record IsLink (link : Link) : Type 0 where
  pub layout : IsInBounds link.layout
  pub mask : link.mask.length ≤ 6

-- the octets of a mask
abbrev pub mask_octets : Mask → List ℕ
mask_octets mask = take mask.length mask.octets

-- The usual masks: of the TC primary header all but the two spare bits, bypass and control command flags, length and
-- sequence number; of TM and AOS version, spacecraft and virtual channel; the TC segment header whole.
abbrev pub usual_tc : Bool → Mask
usual_tc true = record { octets = 0xC3 ∷ 0xFF ∷ 0xFC ∷ 0 ∷ 0 ∷ 0xFF ∷ []; length = 6 }
usual_tc false = record { octets = 0xC3 ∷ 0xFF ∷ 0xFC ∷ 0 ∷ 0 ∷ 0 ∷ []; length = 5 }

abbrev pub usual_tm : Mask
usual_tm = record { octets = 0xFF ∷ 0xFE ∷ 0 ∷ 0 ∷ 0 ∷ 0 ∷ []; length = 6 }

abbrev pub usual_aos : Mask
usual_aos = record { octets = 0xFF ∷ 0xFF ∷ 0 ∷ 0 ∷ 0 ∷ 0 ∷ []; length = 6 }
