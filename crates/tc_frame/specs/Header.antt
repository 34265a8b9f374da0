-- What the headers of a TC frame say of where it belongs (CCSDS 232.0-B-4, Transfer Frame Primary Header).
use Rattle.std.specs.Prelude.{ℕ, ◌+◌, ◌-◌, ◌*◌, ◌/◌, ◌%◌, ◌^◌, if◌then◌else◌, List, [], ◌∷◌, ◌++◌, drop, slice_index}
use Rattle.std.specs.Prelude.{Option, Some, None}
use Rattle.sdls_base.specs.declared.layout.TcLayout.{TcLayout}
use Rattle.tc_frame.specs.TcFrame.{has_segment}
use Rattle.tc_frame.specs.FirstFault.{control_of, segment_length}

-- the octets of the primary header, and of the segment header where there is one
abbrev pub header_length : TcLayout → List ℕ → ℕ
header_length layout frame = 5 + segment_length layout frame

-- bits 6 to 15
abbrev pub spacecraft_of : List ℕ → ℕ
spacecraft_of frame = (slice_index frame 0 * 2 ^ 8 + slice_index frame 1) % 2 ^ 10

-- bits 16 to 21
abbrev pub virtual_channel_of : List ℕ → ℕ
virtual_channel_of frame = slice_index frame 2 / 2 ^ 2

-- the last six bits of the segment header
abbrev pub map_of : TcLayout → List ℕ → Option ℕ
map_of layout frame = if has_segment layout (control_of frame) then Some (slice_index frame 5 % 2 ^ 6) else None

-- a prefix with the length field of a frame of n octets
abbrev pub with_length_field : List ℕ → ℕ → List ℕ
with_length_field prefix n =
    (slice_index prefix 0 ∷ slice_index prefix 1 ∷ (slice_index prefix 2 / 4 * 4 + (n - 1) / 2 ^ 8) ∷ ((n - 1) % 2 ^ 8)
    ∷ slice_index prefix 4 ∷ []) ++ drop 5 prefix
