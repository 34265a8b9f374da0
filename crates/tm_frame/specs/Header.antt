-- What the primary header of a TM frame says of where it belongs (CCSDS 132.0-B-3, Transfer Frame Primary Header).
use Rattle.std.specs.Prelude.{ℕ, ◌+◌, ◌*◌, ◌/◌, ◌%◌, ◌^◌, List, slice_index}

-- bits 2 to 11
abbrev pub spacecraft_of : List ℕ → ℕ
spacecraft_of frame = (slice_index frame 0 * 2 ^ 8 + slice_index frame 1) / 2 ^ 4 % 2 ^ 10

-- bits 12 to 14
abbrev pub virtual_channel_of : List ℕ → ℕ
virtual_channel_of frame = slice_index frame 1 / 2 ^ 1 % 2 ^ 3
