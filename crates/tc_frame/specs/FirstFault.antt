-- The checks of a TC transfer frame, in their order (profile; the layout is that of CCSDS 232.0-B-4).
use Rattle.std.specs.Prelude.{ℕ, ◌+◌, ◌-◌, ◌*◌, ◌/◌, ◌%◌, ◌^◌, Bool, not, ◌||◌, ◌==◌, nat_lt, if◌then◌else◌, List, []}
use Rattle.std.specs.Prelude.{◌∷◌, length, slice_index, Option}
use Rattle.sdls_base.specs.declared.layout.TcLayout.{TcLayout}
use Rattle.sdls_base.specs.declared.layout.FrameFault.{FrameFault}
use Rattle.sdls_base.specs.declared.layout.FrameFault.TheVariants.{Short, Long, LengthField, Version, Spare, Fecf}
use Rattle.sdls_base.specs.ErrorControl.{error_control_length, fails_error_control}
use Rattle.sdls_base.specs.FirstFailing.{Check, first_failing}
use Rattle.tc_frame.specs.TcFrame.{has_segment}

-- bit 3
abbrev pub control_of : List ℕ → Bool
control_of frame = slice_index frame 0 / 2 ^ 4 % 2 == 1

-- the octets of the segment header
abbrev pub segment_length : TcLayout → List ℕ → ℕ
segment_length layout frame = if has_segment layout (control_of frame) then 1 else 0

-- what the primary header, the segment header and the frame error control field need
abbrev pub least : TcLayout → List ℕ → ℕ
least layout frame = 5 + segment_length layout frame + error_control_length layout.fecf

-- bits 22 to 31
abbrev pub length_field : List ℕ → ℕ
length_field frame = (slice_index frame 2 * 2 ^ 8 + slice_index frame 3) % 2 ^ 10

-- the first two bits
abbrev pub version_of : List ℕ → ℕ
version_of frame = slice_index frame 0 / 64

-- bits 4 and 5
abbrev pub spare_of : List ℕ → ℕ
spare_of frame = slice_index frame 0 / 4 % 4

abbrev pub checks : TcLayout → List ℕ → List (Check FrameFault)
checks layout frame =
    (nat_lt (length frame) 5 || nat_lt (length frame) (least layout frame), Short)
    ∷ (nat_lt layout.most (length frame), Long)
    ∷ (not (length_field frame == length frame - 1), LengthField)
    ∷ (not (version_of frame == 0), Version)
    ∷ (not (spare_of frame == 0), Spare)
    ∷ (fails_error_control layout.fecf frame, Fecf) ∷ []

-- the first fault of the octets as a frame of the layout
abbrev pub first_fault : TcLayout → List ℕ → Option FrameFault
first_fault layout frame = first_failing (checks layout frame)
