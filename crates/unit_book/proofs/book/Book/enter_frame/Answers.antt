use Rattle.unit_book.proofs.MarksKept.{no_marks_kept}
use Rattle.unit_book.proofs.book.Book.enter_frame.Goals as goal

pub commit-requires-clause-marks : goal.commit-requires-clause-marks
commit-requires-clause-marks g c = λ not.
    no_marks_kept c.args.self.now.state c.frame_change.result c.requires.kept.rules c.frame_change.ensures.allowed
    c.frame_change.ensures.numbers
