-- The checks of a TM transfer frame, in their order (profile; the layout is that of CCSDS 132.0-B-3).
use Rattle.std.specs.Prelude.{ℕ, ◌+◌, ◌-◌, ◌*◌, ◌/◌, ◌%◌, ◌^◌, Bool, not, ◌&&◌, ◌||◌, ◌==◌, nat_lt, List, [], ◌∷◌}
use Rattle.std.specs.Prelude.{length, slice_index, Option}
use Rattle.sdls_base.specs.declared.layout.TmLayout.{TmLayout}
use Rattle.sdls_base.specs.declared.layout.FrameFault.{FrameFault}
use Rattle.sdls_base.specs.declared.layout.FrameFault.TheVariants.{Short, Long, Version, SecondaryHeader, Fecf}
use Rattle.sdls_base.specs.ControlField.{ocf_length}
use Rattle.sdls_base.specs.ErrorControl.{error_control_length, fails_error_control}
use Rattle.sdls_base.specs.FirstFailing.{Check, first_failing}
use Rattle.tm_frame.specs.TmFrame.{has_secondary}

-- the first two bits
abbrev pub version_of : List ℕ → ℕ
version_of frame = slice_index frame 0 / 64

-- bit 15
abbrev pub ocf_flag : List ℕ → Bool
ocf_flag frame = slice_index frame 1 / 2 ^ 0 % 2 == 1

-- bits 32 to 47
abbrev pub status_of : List ℕ → ℕ
status_of frame = slice_index frame 4 * 2 ^ 8 + slice_index frame 5

-- the octets after the primary header, and before the operational control field and the frame error control field
abbrev pub data_length : TmLayout → List ℕ → ℕ
data_length layout frame = length frame - error_control_length layout.fecf - ocf_length (ocf_flag frame) - 6

-- The secondary header, where its flag is set, has another version, or runs past those octets; one octet it has at
-- least.
abbrev pub fails_secondary : TmLayout → List ℕ → Bool
fails_secondary layout frame =
    has_secondary (status_of frame)
    && (not (slice_index frame 6 / 64 == 0) || nat_lt (data_length layout frame) (slice_index frame 6 % 64 + 1))

abbrev pub checks : TmLayout → List ℕ → List (Check FrameFault)
checks layout frame =
    (nat_lt (length frame) layout.length, Short)
    ∷ (nat_lt layout.length (length frame), Long)
    ∷ (not (version_of frame == 0), Version)
    ∷ (fails_secondary layout frame, SecondaryHeader)
    ∷ (fails_error_control layout.fecf frame, Fecf) ∷ []

-- the first fault of the octets as a frame of the layout
abbrev pub first_fault : TmLayout → List ℕ → Option FrameFault
first_fault layout frame = first_failing (checks layout frame)
