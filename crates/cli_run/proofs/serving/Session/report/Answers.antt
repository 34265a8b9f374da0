use Rattle.std.proofs.Common.{ℕ, [], ◌∷◌, false, refl, sym, ◌∙◌, subst, Result}
use Rattle.fsr_log.specs.Report.{Report}
use Rattle.counter_table.specs.declared.view.View.{View}
use Rattle.counter_table.specs.Worker.{view}
use Rattle.record_io.specs.declared.answers.Answer.{Answer}
use Rattle.record_io.specs.declared.item_cursor.Record.{Record}
use Rattle.law_workers.specs.Reporting.{IsReportAt}
use Rattle.unit_book.specs.declared.fault.BookFault.{BookFault}
use Rattle.cli_run.specs.Serving.{ServesSegment}
use Rattle.cli_run.specs.declared.serving.Stop.{Stop}
use Rattle.cli_run.proofs.Messages.{ascend_one, none_behind, report_at, reports_one}
use Rattle.cli_run.proofs.Served.{serves}
use Rattle.cli_run.proofs.serving.Session.report.Goals as goal

pub returns-clause-serves : goal.returns-clause-serves
returns-clause-serves g c = λ begin began.
    let told = g.O.Site.told in
    let v : View = view c.args.self.now.worker in
    let mid : View = view c.count_alone-entries.new.worker in
    let w : View = view c.put_answers-put.new.self.worker in
    let task : Record = c.args.task.now in
    let answer : Answer = c.log_answer-answer.result in
    let result : Result (Unit {0}) BookFault = c.put_answers-put.result in
    let old : Report = c.args.self.now.log in
    let new : Report = c.put_answers-put.new.self.log in
    let entries : ℕ = c.count_alone-entries.result in
    let at : IsReportAt mid answer =
    report_at mid old c.as_slice.result.now entries answer c.count_alone-entries.ensures.counted
    c.log_answer-answer.ensures in
    subst (λ (r : Result (Unit {0}) Stop). ServesSegment begin (task ∷ []) r v w old new) (sym c.stop_after.ensures)
    (serves told v mid w (task ∷ []) (ascend_one task) (answer ∷ []) result
    (λ b layout number b_began lies. (c.looking_reports.ensures b v mid number task answer c.requires.kind
    (c.count_alone-entries.ensures.looked (task ∷ []) b b_began) at).0 layout)
    (λ one b number b_began. (c.looking_reports.ensures b v mid number task answer c.requires.kind
    (c.count_alone-entries.ensures.looked (task ∷ []) b b_began) at).1)
    (λ b number b_began. (c.looking_reports.ensures b v mid number task answer c.requires.kind
    (c.count_alone-entries.ensures.looked (task ∷ []) b b_began) at).2)
    c.put_answers-put.ensures.puts old new
    (λ notes number is. c.put_answers-put.ensures.logged ∙ c.note.ensures notes is)
    (reports_one old task c.as_slice.result.now entries answer c.as_slice.ensures.octets c.log_answer-answer.ensures)
    c.answers_have_widths.ensures
    (none_behind task)
    begin began c.requires.alone.whole c.count_alone-entries.ensures.alone.whole c.put_answers-put.ensures.alone.whole
    false refl)
