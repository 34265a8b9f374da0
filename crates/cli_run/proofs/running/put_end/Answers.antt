use Rattle.std.proofs.Common.{rules, ◌≡◌, ◌≢◌, ◌++◌, List, ℕ, Err, inr, length, refl, sym, ap, ◌∙◌, subst, append-nil}
use Rattle.sdls_outside.specs.Faults.{Rose}
use Rattle.sdls_outside.specs.Site as sites
use Rattle.record_io.specs.declared.answers.Answer.{Answer}
use Rattle.record_io.specs.Answers.{answer_octets}
use Rattle.unit_book.specs.declared.fault.BookFault.{BookFault}
use Rattle.unit_book.specs.declared.fault.BookFault.TheVariants.{SiteFault, Stopped, SessionFull, NoMemory}
use Rattle.unit_book.specs.Book.{PutFails}
use Rattle.run_promise.specs.Log.{entries_of}
use Rattle.run_promise.specs.declared.end.RunEnd.TheVariants as ends
use Rattle.run_promise.specs.Account.{end_answer}
use Rattle.cli_run.proofs.running.put_end.Goals as goal

rose_of : (before now : ℕ) (fault : BookFault) → PutFails before now fault → Rose before now
rose_of before now (SiteFault count) is = is.0
rose_of before now (Stopped count) is = absurd is
rose_of before now SessionFull is = absurd is
rose_of before now NoMemory is = absurd is

pub returns-in-Err-clause-ends : goal.returns-in-Err-clause-ends
returns-in-Err-clause-ends g c =
    let whole : c.answer_header-header.result ++ (end_answer c.args.told c.count.result).body
    ≡ answer_octets (end_answer c.args.told c.count.result) =
    subst (λ (a : Answer). c.answer_header-header.result ++ a.body ≡ answer_octets a) c.answer_of.ensures.answer
    c.answer_header-header.ensures.whole in
    let octets : c.answer_header-header.result
    ≡ answer_octets (end_answer c.args.told (length (entries_of c.args.book.now.log))) =
    sym (append-nil c.answer_header-header.result) ∙ whole ∙ ap (λ (n : ℕ). answer_octets (end_answer c.args.told n))
    c.count.ensures in
    let put_before : c.args.came ≢ ends.PutFailed = search rules in
    inr (
      put_before,
      record {
        put = Err c.in-Err.field-0;
        made = c.in-Err.ensures.made;
        sinks = λ is_told.
            subst (λ (os : List ℕ). sites.Puts {T = Unit {0}} os (Err c.in-Err.field-0) c.args.book.now.site.trace
            c.put.new.self.site.trace) octets
            (c.in-Err.ensures.put is_told);
        counted = c.in-Err.ensures.puts;
        later = c.in-Err.ensures.later;
        status_is = (refl, rose_of _ _ c.in-Err.field-0 c.in-Err.ensures.fault);
      },
    )
