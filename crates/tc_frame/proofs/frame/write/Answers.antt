use Rattle.std.proofs.Common.{◌++◌, ap, ◌∙◌, drop}
use Rattle.std.specs.Option.{option_to_list}
use Rattle.sdls_base.specs.Fields.{packed}
use Rattle.sdls_base.specs.ErrorControl.{with_error_control}
use Rattle.sdls_base.proofs.Pieces.{written_none, written_more, written_error_control, written_whole}
use Rattle.tc_frame.specs.TcFrame.{view, primary_header}
use Rattle.tc_frame.proofs.frame.write.Goals as goal

pub returns-clause-written : goal.returns-clause-written
returns-clause-written c =
    let p = view c.args.parts.now in
    let w1 = written_more _ _ _ _ (written_none c.args.out.now) c.header_of.result _ _ c.put-header_end.ensures.place
    c.put-header_end.ensures.written c.put-header_end.ensures.rest in
    let w2 = written_more _ _ _ _ w1 (option_to_list p.segment) _ _ c.put_segment-room_start.ensures.place
    c.put_segment-room_start.ensures.written c.put_segment-room_start.ensures.rest in
    let w3 = written_more _ _ _ _ w2 p.room _ _ c.put-room_end.ensures.place c.put-room_end.ensures.written
    c.put-room_end.ensures.rest in
    let w4 = written_error_control _ _ _ _ w3 c.args.layout.now.fecf _ _ c.put_fecf.ensures.place
    c.put_fecf.ensures.written c.put_fecf.ensures.rest in
    written_whole _ _ _ _ w4
    ∙ ap (λ l. with_error_control c.args.layout.now.fecf ((l ++ option_to_list p.segment) ++ p.room)
    ++ drop c.put_fecf.result c.args.out.now)
    (c.header_of.ensures ∙ ap (λ n. packed (primary_header p n)) c.length_of-length.ensures)
