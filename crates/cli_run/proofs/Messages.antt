-- One monitoring message that was answered: for `report`.
use Rattle.std.proofs.Common.{◌≡◌, ◌≢◌, inl, inr, ℕ, List, [], ◌∷◌, length, Some, ◌∙◌, subst, arith}
use Rattle.std.specs.List.{slice_get}
use Rattle.fsr_log.specs.Reply.{Answers}
use Rattle.fsr_log.specs.Report.{Report}
use Rattle.record_io.specs.declared.answers.Answer.{Answer}
use Rattle.record_io.specs.declared.reader.RecordKind.TheVariants.{Monitor}
use Rattle.record_io.specs.declared.item_cursor.Record.{Record}
use Rattle.run_promise.specs.Deed.{deed_of}
use Rattle.run_promise.specs.Sound.{IsReported}
use Rattle.counter_table.specs.declared.view.View.{View}
use Rattle.law_workers.specs.Deeds.{Ascend}
use Rattle.law_workers.specs.Reporting.{IsReportAt}
use Rattle.law_workers.specs.Views.{entries_in}
use Rattle.cli_run.specs.Reporting.{LogAnswers, ReportsAll}

pub report_at : (view : View) (report : Report) (octets : List ℕ) (entries : ℕ) (answer : Answer)
    → entries ≡ length (entries_in view)
    → LogAnswers report octets entries answer → IsReportAt view answer
report_at view report octets entries answer same (inl wanting) = inr wanting
report_at view report octets entries answer same (inr (said, is, told, position)) = inl (said, told, position ∙ same)

pub reports_one : (report : Report) (task : Record) (octets : List ℕ) (entries : ℕ) (answer : Answer)
    → octets ≡ task.octets
    → LogAnswers report octets entries answer → ReportsAll (task ∷ []) (answer ∷ []) report
reports_one report task octets entries answer same log notes number is = (λ kind. go log, tt)
  where
    go : LogAnswers report octets entries answer → IsReported notes (deed_of number task answer)
    go (inl wanting) = inl wanting.told
    go (inr (said, answers, told, position)) =
        inr (
          said,
          subst (λ (r : Report). Answers r task.octets said) is
              (subst (λ (os : List ℕ). Answers report os said) same answers),
          told,
        )

pub ascend_one : (task : Record) → Ascend (task ∷ [])
ascend_one task i j d before low = absurd (omega arith)

pub none_behind : (task next : Record) → slice_get (task ∷ []) 1 ≡ Some next → next.kind ≢ Monitor
none_behind task next there = absurd (let n = there in cc)
