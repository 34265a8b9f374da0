-- What the primary header of an AOS frame says of where it belongs (CCSDS 732.0-B-4, Transfer Frame Primary Header).
use Rattle.std.specs.Prelude.{ℕ, ◌+◌, ◌*◌, ◌/◌, ◌%◌, ◌^◌, ◌==◌, Bool, List, slice_index}

-- bits 2 to 9
abbrev pub spacecraft_of : List ℕ → ℕ
spacecraft_of frame = (slice_index frame 0 * 2 ^ 8 + slice_index frame 1) / 2 ^ 6 % 2 ^ 8

-- bits 10 to 15
abbrev pub virtual_channel_of : List ℕ → ℕ
virtual_channel_of frame = slice_index frame 1 % 2 ^ 6

-- an idle frame, of virtual channel 63
abbrev pub is_idle : List ℕ → Bool
is_idle frame = virtual_channel_of frame == 63
