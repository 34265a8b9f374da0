use Rattle.std.proofs.Common.{◌≡◌, ℕ, List, ◌++◌, Ok, sym, ◌∙◌, subst, append-nil}
use Rattle.sdls_outside.specs.Site as sites
use Rattle.record_io.specs.declared.answers.Answer.{Answer}
use Rattle.record_io.specs.Answers.{answer_octets}
use Rattle.run_promise.specs.declared.end.RunEnd.{RunEnd}
use Rattle.run_promise.specs.Account.{end_answer}
use Rattle.law_runs.specs.Ending.{IsToldEnd}
use Rattle.law_runs.specs.Refused.{refused_end}
use Rattle.cli_run.proofs.running.refuse.Goals as goal

pub returns-clause-puts : goal.returns-clause-puts
returns-clause-puts g c =
    let told : RunEnd = c.told_end-told.result in
    let octets : c.answer_header.result ≡ answer_octets (end_answer told 0) =
    sym (append-nil c.answer_header.result) ∙ subst (λ (a : Answer). c.answer_header.result ++ a.body ≡ answer_octets a)
    c.answer_of-answer.ensures.answer c.answer_header.ensures.whole in
    record {
      end = told;
      end_is = subst (λ (now : ℕ). IsToldEnd c.args.before now now (refused_end c.args.fault) (Ok tt) told)
          c.faults-now.ensures
          (subst (λ (came : RunEnd). IsToldEnd c.args.before c.faults-now.result c.faults-now.result came (Ok tt) told)
          c.refused_end.ensures c.told_end-told.ensures);
      put = c.put-put.result;
      sinks = λ is_told.
          subst (λ (os : List ℕ). sites.Puts os c.put-put.result (g.O.Site.trace c.args.site)
          (g.O.Site.trace c.put-put.new.self)) octets
          (c.put-put.ensures.put is_told);
      counted = c.put-put.ensures.puts;
      cause = c.put-put.ensures.cause;
      status_is = c.status_of.ensures;
      widths = c.answer_of-answer.ensures.widths;
    }
