use Rattle.std.proofs.Common.{refl, inr, rules}
use Rattle.std.proofs.lemmas.Result.{err_from_is_err_and}
use Rattle.command_words.specs.Lines.{source_fault_text}
use Rattle.cli_check.proofs.Judging.{judged}
use Rattle.cli_check.proofs.check.put_check.Goals as goal

pub returns-in_err-put_text-in-Err-clause-due : goal.returns-in_err-put_text-in-Err-clause-due
returns-in_err-put_text-in-Err-clause-due g c =
    let p = err_from_is_err_and c.from_residual.result c.from_residual.ensures.1 in (
      source_fault_text,
      4,
      inr (c.in-Err.ensures.cause.failed, refl, refl),
      rw p.1 (record { status = tt; delivered = c.in_err-put_text-in-Err.ensures.delivered }),
    )

pub returns-in-Ok-clause-due : goal.returns-in-Ok-clause-due
returns-in-Ok-clause-due g c =
    judged c.args.key.now _ (g.S.Source.left c.collect.new.source) c.collect.new.buffer c.in-Ok.count g.S.Source.told
    g.O.Site.told _
    c.check_frame.result c.put_verdict.result _ _ (search rules) c.in-Ok.ensures.collected
    c.check_frame.ensures.accepted c.check_frame.ensures.refused c.put_verdict.ensures.answered
