use Rattle.text_streams.proofs.SaidAgain.{adds}
use Rattle.text_streams.proofs.printing.put_record.Goals as goal

pub returns : goal.returns
returns c is =
    let line = c.in_ok-line.ensures in
    adds c.in_ok-line.line _ _ _ (line.bounds is) line.item line.named c.in_ok-put_line.ensures
