-- What stands at the places of the fields, in octets that have no fault.
use Rattle.std.specs.Prelude.{ℕ, ◌+◌, ◌*◌, ◌/◌, ◌%◌, ◌^◌, if◌then◌else◌, List, take, drop, slice_index}
use Rattle.sdls_base.specs.declared.layout.TmLayout.{TmLayout}
use Rattle.sdls_base.specs.ControlField.{before_ocf, ocf_at}
use Rattle.sdls_base.specs.ErrorControl.{before_error_control}
use Rattle.tm_frame.specs.TmFrame.{TmParts, has_secondary}
use Rattle.tm_frame.specs.FirstFault.{ocf_flag, status_of}

-- the octets of the secondary header
abbrev pub secondary_length : List ℕ → ℕ
secondary_length body = if has_secondary (status_of body) then slice_index body 6 % 64 + 1 else 0

-- the parts at their places in the octets before the frame error control field
abbrev pub parts_in : List ℕ → TmParts
parts_in body =
    let first = slice_index body 0 * 2 ^ 8 + slice_index body 1 in
    record {
      spacecraft = first / 2 ^ 4 % 2 ^ 10;
      channel = slice_index body 1 / 2 ^ 1 % 2 ^ 3;
      master_count = slice_index body 2;
      channel_count = slice_index body 3;
      status = status_of body;
      secondary = take (secondary_length body) (drop 6 body);
      room = drop (6 + secondary_length body) (before_ocf (ocf_flag body) body);
      ocf = ocf_at (ocf_flag body) body;
    }

abbrev pub parts_at : TmLayout → List ℕ → TmParts
parts_at layout frame = parts_in (before_error_control layout.fecf frame)
