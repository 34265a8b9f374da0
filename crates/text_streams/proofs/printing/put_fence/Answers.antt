use Rattle.std.proofs.Common.{refl}
use Rattle.input_text.specs.declared.line.Line.TheVariants.{Fence}
use Rattle.input_text.specs.Line.{IsLine, line_item}
use Rattle.text_streams.proofs.SaidAgain.{adds}
use Rattle.text_streams.proofs.printing.put_fence.Goals as goal

pub returns : goal.returns
unfolding IsLine line_item
returns c = adds Fence _ _ _ tt refl tt c.in_ok-put_line.ensures
