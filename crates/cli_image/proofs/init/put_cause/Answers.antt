use Rattle.std.proofs.Common.{◌++◌, codes}
use Rattle.std.proofs.lemmas.Result.{err_from_is_err_and}
use Rattle.cli_image.specs.Init.{cause_word}
use Rattle.sdls_outside.proofs.Delivering.{front_cut, front_middle, delivers_then}
use Rattle.cli_image.proofs.init.put_cause.Goals as goal

pub returns-in_err-put_text-clause-delivered : goal.returns-in_err-put_text-clause-delivered
returns-in_err-put_text-clause-delivered g c = λ told.
    let p = err_from_is_err_and c.from_residual.result c.from_residual.ensures.1 in
    let cut = front_cut (codes " ") (cause_word c.args.cause ++ codes "\n")
    _ _ (c.in_err-put_text.ensures.delivered told) in
    rw p.1 cut

pub returns-in_err-put_text-2-clause-delivered : goal.returns-in_err-put_text-2-clause-delivered
returns-in_err-put_text-2-clause-delivered g c = λ told.
    let r = c.from_residual-in_err-put_text-2 in
    let p = err_from_is_err_and r.result r.ensures.1 in
    let cut = front_middle (codes " ") (cause_word c.args.cause) (codes "\n")
    _ _ _ (c.in_ok-put_text.ensures.delivered told)
    (rw c.cause_word.ensures at (c.in_err-put_text-2.ensures.delivered told)) in
    rw p.1 cut

pub returns-clause-delivered : goal.returns-clause-delivered
returns-clause-delivered g c = λ told.
    delivers_then (codes " ") (cause_word c.args.cause ++ codes "\n") c.put_text-3.result _ _ _
    (c.in_ok-put_text.ensures.delivered told)
    (delivers_then (cause_word c.args.cause) (codes "\n") c.put_text-3.result _ _ _
    (rw c.cause_word.ensures at (c.in_ok-put_text-2.ensures.delivered told)) (c.put_text-3.ensures.delivered told))
