-- The checks of an AOS transfer frame, in their order (profile; the layout is that of CCSDS 732.0-B-4).
use Rattle.std.specs.Prelude.{ℕ, ◌/◌, ◌%◌, not, ◌==◌, nat_lt, List, [], ◌∷◌, length, slice_index, Option}
use Rattle.sdls_base.specs.declared.layout.AosLayout.{AosLayout}
use Rattle.sdls_base.specs.declared.layout.FrameFault.{FrameFault}
use Rattle.sdls_base.specs.declared.layout.FrameFault.TheVariants.{Short, Long, Version, Spare, Fecf}
use Rattle.sdls_base.specs.ErrorControl.{fails_error_control}
use Rattle.sdls_base.specs.FirstFailing.{Check, first_failing}

-- the first two bits
abbrev pub version_of : List ℕ → ℕ
version_of frame = slice_index frame 0 / 64

-- bits 42 and 43
abbrev pub spare_of : List ℕ → ℕ
spare_of frame = slice_index frame 5 / 16 % 4

abbrev pub checks : AosLayout → List ℕ → List (Check FrameFault)
checks layout frame =
    (nat_lt (length frame) layout.length, Short)
    ∷ (nat_lt layout.length (length frame), Long)
    ∷ (not (version_of frame == 1), Version)
    ∷ (not (spare_of frame == 0), Spare)
    ∷ (fails_error_control layout.fecf frame, Fecf) ∷ []

-- the first fault of the octets as a frame of the layout
abbrev pub first_fault : AosLayout → List ℕ → Option FrameFault
first_fault layout frame = first_failing (checks layout frame)
