use Rattle.std.proofs.Common.{◌≡◌, true, sym, ap, ◌∙◌}
use Rattle.unit_book.specs.Book.{BookView}
use Rattle.unit_book.specs.Marks.{is_release}
use Rattle.run_promise.specs.Numbers.{release_at}
use Rattle.run_promise.proofs.Marking.{release_allowed}
use Rattle.unit_book.proofs.MarksKept.{release_is}
use Rattle.unit_book.proofs.book.Book.release_at.Goals as goal

pub commit-requires-clause-allows : goal.commit-requires-clause-allows
commit-requires-clause-allows g c =
    release_allowed c.args.self.now.state c.args.place c.args.word c.in-Some.entry c.requires.kept.rules c.requires.some
    (sym (ap (λ (b : BookView). release_at b.state c.args.place c.args.word) c.self.view_is)
    ∙ sym c.release_entry_at.ensures ∙ c.in-Some.is)

pub commit-requires-clause-marks : goal.commit-requires-clause-marks
commit-requires-clause-marks g c = λ not.
    let is : is_release c.in-Some.entry ≡ true =
    release_is c.args.self.now.state c.args.place c.args.word c.in-Some.entry
    (sym (ap (λ (b : BookView). release_at b.state c.args.place c.args.word) c.self.view_is)
    ∙ sym c.release_entry_at.ensures ∙ c.in-Some.is) in
    absurd cc
