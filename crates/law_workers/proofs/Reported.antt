-- A monitoring message has one answer of the log, by the answers before it: for `served_once`.
use Rattle.std.proofs.Common.{◌≡◌, ℕ, ◌<◌, nat_le, ◌&&◌, Bool, true, false, IsTrue, List, length, Ok, Err, inl, inr}
use Rattle.std.proofs.Common.{sym, ◌∙◌, ap, subst, arith}
use Rattle.std.proofs.lemmas.Bool.Decides.{nat_tests}
use Rattle.sdls_base.specs.declared.entry.Entry.{Entry}
use Rattle.record_io.specs.declared.reader.RecordKind.{RecordKind}
use Rattle.record_io.specs.declared.reader.RecordKind.TheVariants.{Monitor}
use Rattle.run_promise.specs.OneLane.{CountsAll}
use Rattle.std.specs.Prelude.{Result}
use Rattle.std.proofs.lemmas.Option.{none-some, same_Some}
use Rattle.fsr_log.specs.declared.messages.Monitoring.{Monitoring}
use Rattle.fsr_log.specs.Message.{IsMonitoring}
use Rattle.fsr_log.specs.Noted.{Noted}
use Rattle.fsr_log.specs.Reply.{Answers, reply_of}
use Rattle.fsr_log.specs.Report.{Report, report_of}
use Rattle.fsr_log.proofs.Reading.{message_has_none}
use Rattle.record_io.specs.declared.answers.Answer.{Answer}
use Rattle.record_io.specs.declared.code.TheConstants.{SITE_FAULT}
use Rattle.record_io.specs.declared.item_cursor.Record.{Record}
use Rattle.run_promise.specs.Answers.{Told, monitored_told, told_by}
use Rattle.run_promise.specs.Deed.{Deed, is_monitored, tells_count}
use Rattle.run_promise.specs.Sound.{IsReported, noted_of}

pub same_noted : (d e : Deed) → d.task ≡ e.task → d.answer ≡ e.answer → noted_of d ≡ noted_of e
same_noted d e task answer =
    ap (λ (t : Record). let n : Noted = record { index = t.index; kind = t.kind; answer = d.answer } in n) task
    ∙ ap (λ (a : Answer). let n : Noted = record { index = e.task.index; kind = e.task.kind; answer = a } in n) answer

module _ (one_message : (one other : Monitoring) (octets : List ℕ) → IsMonitoring one octets → IsMonitoring other octets
    → one ≡ other) where
  said_once : (report : Report) (octets : List ℕ) (a b : Result (List ℕ) ℕ) → Answers report octets a
      → Answers report octets b
      → monitored_told a ≡ monitored_told b
  said_once report octets (Ok a) (Ok b) x y =
      let same : x.asked ≡ y.asked = one_message x.asked y.asked octets x.is_message y.is_message in
      let replies : a ≡ b = x.reply_is ∙ ap (reply_of report) same ∙ sym y.reply_is in
      ap (λ (r : List ℕ). monitored_told (Ok r)) replies
  said_once report octets (Ok a) (Err n) x y =
      absurd (none-some n (sym (message_has_none x.asked octets x.is_message) ∙ y))
  said_once report octets (Err m) (Ok b) x y =
      absurd (none-some m (sym (message_has_none y.asked octets y.is_message) ∙ x))
  said_once report octets (Err m) (Err n) x y =
      ap (λ (o : ℕ). monitored_told (Err o)) (same_Some m n (sym x ∙ y))

  pub report_once : (before : List Noted) (d e : Deed) → d.task ≡ e.task → d.answer.code < SITE_FAULT
      → e.answer.code < SITE_FAULT
      → IsReported before d → IsReported before e → told_by d.answer ≡ told_by e.answer
  report_once before d e same low less (inl wants) y = let c = ap (λ (t : Told). t.code) wants in absurd (omega arith)
  report_once before d e same low less (inr x) (inl wants) = let c = ap (λ (t : Told). t.code) wants in
      absurd (omega arith)
  report_once before d e same low less (inr (a, x, told)) (inr (b, y, tells)) =
      told ∙ said_once (report_of before) d.task.octets a b x
      (subst (λ (t : Record). Answers (report_of before) t.octets b) (sym same) y) ∙ sym tells

-- the answer of the log to a monitoring message tells a count, if memory did not run out
pub told_count : (before : List Noted) (d : Deed) → d.task.kind ≡ Monitor → d.answer.code < SITE_FAULT
    → IsReported before d → IsTrue (tells_count d)
told_count before d kind low (inl wants) = let c = ap (λ (t : Told). t.code) wants in absurd (omega arith)
told_count before d kind low (inr (said, x, told)) = by_kind d.task.kind kind (nat_le d.answer.code 6) (few said told)
  where
    few : (said : Result (List ℕ) ℕ) → told_by d.answer ≡ monitored_told said → nat_le d.answer.code 6 ≡ true
    few (Ok reply) told = let c : d.answer.code ≡ 5 = ap (λ (t : Told). t.code) told in grind (arith, nat_tests)
    few (Err offset) told = let c : d.answer.code ≡ 6 = ap (λ (t : Told). t.code) told in grind (arith, nat_tests)

    by_kind : (k : RecordKind) → k ≡ Monitor → (b : Bool) → b ≡ true → IsTrue (is_monitored k && b)
    by_kind k is b test = subst (λ (k : RecordKind). IsTrue (is_monitored k && b)) (sym is) test

-- where no append has failed, it is that of the history
pub counted_clean : (history : List Entry) (count : ℕ) → CountsAll false history count → count ≡ length history
counted_clean history count (inl is) = is
counted_clean history count (inr (failed, is)) = absurd (let f : false ≡ true = failed in cc)
