use Rattle.std.proofs.Common.{[], ◌∷◌, ◌++◌, codes}
use Rattle.std.proofs.lemmas.Result.{err_from_is_err_and}
use Rattle.hex.specs.Hex.{encode_lower}
use Rattle.sdls_outside.proofs.Delivering.{front_cut, front_middle, delivers_then}
use Rattle.cli_check.proofs.check.put_field.Goals as goal

pub returns-in_err-put_text-clause-delivered : goal.returns-in_err-put_text-clause-delivered
returns-in_err-put_text-clause-delivered g c = λ told.
    let p = err_from_is_err_and c.from_residual.result c.from_residual.ensures.1 in
    let cut = front_cut (codes "ok ") (encode_lower c.args.field.now ++ 10 ∷ [])
    _ _ (c.in_err-put_text.ensures.delivered told) in
    rw p.1 cut

pub returns-in_err-put_hexadecimal-clause-delivered :
    goal.returns-in_err-put_hexadecimal-clause-delivered
returns-in_err-put_hexadecimal-clause-delivered g c = λ told.
    let r = c.from_residual-in_err-put_hexadecimal in
    let p = err_from_is_err_and r.result r.ensures.1 in
    let cut = front_middle (codes "ok ") (encode_lower c.args.field.now) (10 ∷ [])
    _ _ _ (c.in_ok-put_text.ensures.delivered told)
    (c.in_err-put_hexadecimal.ensures.delivered told) in
    rw p.1 cut

pub returns-clause-delivered : goal.returns-clause-delivered
returns-clause-delivered g c = λ told.
    delivers_then (codes "ok ") (encode_lower c.args.field.now ++ 10 ∷ []) c.put_text-2.result _ _ _
    (c.in_ok-put_text.ensures.delivered told)
    (delivers_then (encode_lower c.args.field.now) (10 ∷ []) c.put_text-2.result _ _ _
    (c.in_ok-put_hexadecimal.ensures.delivered told) (c.put_text-2.ensures.delivered told))
