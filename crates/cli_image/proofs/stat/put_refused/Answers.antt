use Rattle.std.proofs.Common.{◌++◌, codes, decimal}
use Rattle.std.proofs.lemmas.Result.{err_from_is_err_and}
use Rattle.sdls_outside.proofs.Delivering.{front_cut, front_middle, delivers_then}
use Rattle.cli_image.proofs.stat.put_refused.Goals as goal

pub returns-in_err-put_text-clause-delivered : goal.returns-in_err-put_text-clause-delivered
returns-in_err-put_text-clause-delivered g c = λ told.
    let p = err_from_is_err_and c.from_residual.result c.from_residual.ensures.1 in
    let cut = front_cut (codes "image at ") (decimal c.args.offset ++ codes "\n")
    _ _ (c.in_err-put_text.ensures.delivered told) in
    rw p.1 cut

pub returns-in_err-put_number-clause-delivered : goal.returns-in_err-put_number-clause-delivered
returns-in_err-put_number-clause-delivered g c = λ told.
    let r = c.from_residual-in_err-put_number in
    let p = err_from_is_err_and r.result r.ensures.1 in
    let cut = front_middle (codes "image at ") (decimal c.args.offset) (codes "\n")
    _ _ _ (c.in_ok-put_text.ensures.delivered told)
    (c.in_err-put_number.ensures.delivered told) in
    rw p.1 cut

pub returns-clause-delivered : goal.returns-clause-delivered
returns-clause-delivered g c = λ told.
    delivers_then (codes "image at ") (decimal c.args.offset ++ codes "\n") c.put_text-2.result _ _ _
    (c.in_ok-put_text.ensures.delivered told)
    (delivers_then (decimal c.args.offset) (codes "\n") c.put_text-2.result _ _ _
    (c.in_ok-put_number.ensures.delivered told) (c.put_text-2.ensures.delivered told))
