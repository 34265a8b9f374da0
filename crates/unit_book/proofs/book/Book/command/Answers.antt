use Rattle.std.proofs.Common.{sym, subst}
use Rattle.unit_state.specs.Allows.{Allows}
use Rattle.ep_core.specs.declared.judging.Need.{Need}
use Rattle.ep_core.specs.Seen.{MeetsNeed}
use Rattle.unit_book.specs.Book.{BookView}
use Rattle.run_promise.specs.History.{IsNeedOf}
use Rattle.unit_book.proofs.MarksKept.{no_marks_kept}
use Rattle.unit_book.proofs.book.Book.command.Goals as goal

pub step_of-requires-clause-seen : goal.step_of-requires-clause-seen
step_of-requires-clause-seen g c =
    subst (λ (b : BookView). (need : Need) → IsNeedOf b.state c.args.pdu.now need → MeetsNeed b.state need c.args.seen)
    (sym c.self.view_is) c.requires.seen

pub commit-requires-clause-marks : goal.commit-requires-clause-marks
commit-requires-clause-marks g c = λ not.
    no_marks_kept c.args.self.now.state c.in-Ok.change c.requires.kept.rules
    (subst (λ (b : BookView). Allows b.state c.in-Ok.change) c.self.view_is c.in-Ok.ensures.allowed)
    c.in-Ok.ensures.numbers
