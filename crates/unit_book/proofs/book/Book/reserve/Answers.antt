use Rattle.std.proofs.Common.{◌≡◌, ◌≤◌, ℕ, Result, Ok, Err, sym, ap, ◌∙◌, subst, arith}
use Rattle.sdls_base.specs.declared.entry.Entry.{Entry}
use Rattle.unit_state.specs.Applied.{applied}
use Rattle.unit_state.specs.Allows.{Allows}
use Rattle.run_promise.proofs.Marking.{reserve_allowed, mark_above}
use Rattle.unit_book.specs.declared.fault.BookFault.{BookFault}
use Rattle.unit_book.specs.Marks.{KeepsMarks}
use Rattle.run_promise.specs.Numbers.{mark_of}
use Rattle.unit_book.specs.Book.{BookView}
use Rattle.unit_book.proofs.MarksKept.{reserve_keeps}
use Rattle.unit_book.proofs.book.Book.reserve.Goals as goal

abbrev ok_or : Result ℕ BookFault → ℕ
ok_or (Ok value) = value
ok_or (Err fault) = 0

abbrev ok_is : ℕ → Result ℕ BookFault
ok_is value = Ok value

ok_same : (a b : ℕ) → ok_is a ≡ ok_is b → a ≡ b
ok_same a b same = ap ok_or same

pub commit-requires-clause-allows : goal.commit-requires-clause-allows
commit-requires-clause-allows g c =
    subst (λ (entry : Entry). Allows c.args.self.now.state entry.change) (sym c.reserve_entry-entry.ensures.entry)
    (reserve_allowed c.args.self.now.plan c.args.self.now.state c.args.key c.args.number c.requires.kept.rules
    c.requires.there c.requires.below
    c.reserve_entry-entry.ensures.block)

pub returns-in-Ok-clause-above : goal.returns-in-Ok-clause-above
returns-in-Ok-clause-above g c = λ mark is.
    mark_above c.args.self.now.plan c.args.self.now.state c.commit.new.self.state c.args.key c.args.number mark
    c.requires.kept.rules
    c.requires.there c.requires.below c.reserve_entry-entry.ensures.block
    (ap (λ (b : BookView). b.state) c.in-Ok.ensures.made.is
    ∙ ap (λ (entry : Entry). applied c.args.self.now.state entry.change) c.reserve_entry-entry.ensures.entry)
    (sym (ok_same c.mark.result mark is) ∙ c.mark.ensures)

pub commit-requires-clause-marks : goal.commit-requires-clause-marks
commit-requires-clause-marks g c = λ not.
    let is : c.mark-mark.result ≡ mark_of c.args.self.now.state c.args.key = c.mark-mark.ensures in
    let high : c.mark-mark.result ≤ c.args.number = c.if-number-mark.false in
    subst (λ (entry : Entry). KeepsMarks c.args.self.now.state (applied c.args.self.now.state entry.change))
    (sym c.reserve_entry-entry.ensures.entry)
    (reserve_keeps c.args.self.now.plan c.args.self.now.state c.args.key c.args.number c.requires.kept.rules
    (reserve_allowed c.args.self.now.plan c.args.self.now.state c.args.key c.args.number c.requires.kept.rules
    c.requires.there c.requires.below
    c.reserve_entry-entry.ensures.block) c.requires.below c.reserve_entry-entry.ensures.block (omega arith))
