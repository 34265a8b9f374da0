use Rattle.std.proofs.Common.{[], option_copied}
use Rattle.std.specs.Prelude.{unwrap_or}
use Rattle.sdls_base.proofs.Pieces.{written_none, written_more, written_error_control, written_whole}
use Rattle.sdls_base.proofs.octets.put_frame.Goals as goal

pub returns-clause-written : goal.returns-clause-written
returns-clause-written c =
    let w1 = written_more _ _ _ _ (written_none c.args.out.now) c.args.header.now _ _ c.put-header_end.ensures.place
    c.put-header_end.ensures.written c.put-header_end.ensures.rest in
    let w2 = written_more _ _ _ _ w1 c.args.between.now _ _ c.put-room_start.ensures.place
    c.put-room_start.ensures.written c.put-room_start.ensures.rest in
    let w3 = written_more _ _ _ _ w2 c.args.room.now _ _ c.put-room_end.ensures.place c.put-room_end.ensures.written
    c.put-room_end.ensures.rest in
    let w4 = written_more _ _ _ _ w3 (unwrap_or (option_copied c.args.ocf) []) _ _ c.put_optional-body_end.ensures.place
    c.put_optional-body_end.ensures.written c.put_optional-body_end.ensures.rest in
    let w5 = written_error_control _ _ _ _ w4 c.args.has_fecf _ _ c.put_fecf.ensures.place c.put_fecf.ensures.written
    c.put_fecf.ensures.rest in
    written_whole _ _ _ _ w5
