use Rattle.std.proofs.Common.{refl}
use Rattle.text_streams.proofs.StateLineTexts.{begins_cut, fails_line}
use Rattle.text_streams.proofs.state_line.put_next_object.Goals as goal

pub returns-in-Ok-Line-clause-fails : goal.returns-in-Ok-Line-clause-fails
returns-in-Ok-Line-clause-fails g c told sunk =
    let taken = rw c.in-Ok-Line.field-0-is at (c.in-Ok-Line.ensures.takes told) in
    fails_line c.put_object.result _ _ c.in-Ok-Line.text.items _ (g.S.Source.left c.next_line.new.source) _ _
    c.as_slice.ensures.value taken.0 taken.1 (c.put_object.ensures.fails sunk)

pub returns-in-Ok-Last-clause-fails : goal.returns-in-Ok-Last-clause-fails
returns-in-Ok-Last-clause-fails g c told sunk =
    let taken = rw c.in-Ok-Last.field-0-is at (c.in-Ok-Last.ensures.takes told) in
    (refl, begins_cut c.in-Ok-Last.field-0-0.items _ (g.S.Source.left c.next_line.new.source) taken.0 taken.1, refl)
