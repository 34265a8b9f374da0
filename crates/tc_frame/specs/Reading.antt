-- What stands at the places of the fields, in octets that have no fault.
use Rattle.std.specs.Prelude.{ℕ, ◌+◌, ◌*◌, ◌/◌, ◌%◌, ◌^◌, ◌==◌, if◌then◌else◌, List, drop, slice_index, Some, None}
use Rattle.sdls_base.specs.declared.layout.TcLayout.{TcLayout}
use Rattle.sdls_base.specs.ErrorControl.{before_error_control}
use Rattle.tc_frame.specs.TcFrame.{TcParts, has_segment}
use Rattle.tc_frame.specs.FirstFault.{control_of, segment_length}

-- the parts at their places in the octets before the frame error control field
abbrev pub parts_in : TcLayout → List ℕ → TcParts
parts_in layout body =
    let first = slice_index body 0 * 2 ^ 8 + slice_index body 1 in
    record {
      bypass = slice_index body 0 / 2 ^ 5 % 2 == 1;
      control = control_of body;
      spacecraft = first % 2 ^ 10;
      channel = slice_index body 2 / 2 ^ 2;
      sequence = slice_index body 4;
      segment = if has_segment layout (control_of body) then Some (slice_index body 5) else None;
      room = drop (5 + segment_length layout body) body;
    }

abbrev pub parts_at : TcLayout → List ℕ → TcParts
parts_at layout frame = parts_in layout (before_error_control layout.fecf frame)
