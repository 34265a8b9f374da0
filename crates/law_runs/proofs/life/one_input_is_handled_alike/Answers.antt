use Rattle.std.proofs.Common.{◌≡◌, ◌⊎◌, sym, ◌∙◌, ap, subst}
use Rattle.record_io.specs.Input.{IsInput}
use Rattle.record_io.specs.Places.{places_of}
use Rattle.law_runs.proofs.Statuses.{all_read, told_at}
use Rattle.law_runs.proofs.life.one_input_is_handled_alike.Goals as goal

pub returns : goal.returns
returns c = λ call other run again same status told tells left.
    let (end, told_is, reads, handled, answered) = all_read call run status in
    let (ends, retold_is, rereads, rehandled, reanswered) =
    all_read other again (subst (λ n. (n ≡ 0) ⊎ (n ≡ 3)) (sym same) status) in
    let both = c.input_reads_once.ensures call.source.left run.account.items again.account.items end ends
    (reads told)
    (subst (λ input. IsInput input again.account.items ends) left (rereads tells)) in (
      rehandled ∙ (ap places_of (sym both.0) ∙ sym handled),
      answered,
      reanswered,
      retold_is ∙ (ap told_at (sym both.1) ∙ sym told_is),
    )
