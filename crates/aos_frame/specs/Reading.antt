-- What stands at the places of the fields, in octets that have no fault.
use Rattle.std.specs.Prelude.{ℕ, ◌+◌, ◌*◌, ◌/◌, ◌%◌, ◌^◌, ◌==◌, List, take, drop, slice_index}
use Rattle.sdls_base.specs.declared.layout.AosLayout.{AosLayout}
use Rattle.sdls_base.specs.ErrorControl.{before_error_control}
use Rattle.sdls_base.specs.ControlField.{before_ocf, ocf_at}
use Rattle.aos_frame.specs.AosFrame.{AosParts}

-- the parts at their places in the octets before the frame error control field
abbrev pub parts_in : AosLayout → List ℕ → AosParts
parts_in layout body =
    let first = slice_index body 0 * 2 ^ 8 + slice_index body 1 in
    let signals = slice_index body 5 in
    let start = 6 + layout.insert in
    record {
      spacecraft = first / 2 ^ 6 % 2 ^ 8;
      channel = first % 2 ^ 6;
      count = slice_index body 2 * 2 ^ 16 + slice_index body 3 * 2 ^ 8 + slice_index body 4;
      replay = signals / 2 ^ 7 % 2 == 1;
      cycle_use = signals / 2 ^ 6 % 2 == 1;
      cycle = signals % 2 ^ 4;
      insert = take layout.insert (drop 6 body);
      room = drop start (before_ocf layout.ocf body);
      ocf = ocf_at layout.ocf body;
    }

abbrev pub parts_at : AosLayout → List ℕ → AosParts
parts_at layout frame = parts_in layout (before_error_control layout.fecf frame)
