use Rattle.std.proofs.Common.{[], ◌++◌, ◌∙◌, refl}
use Rattle.std.proofs.lemmas.Result.{err_from_is_err_and}
use Rattle.hex.specs.Hex.{encode_with}
use Rattle.sdls_outside.proofs.Delivering.{sinks_none}
use Rattle.cli_check.proofs.Spelling.{parts_of, spelled_more, spelled_cut}
use Rattle.cli_check.proofs.check.put_hexadecimal.Goals as goal

pub loop-rest-init : goal.loop-rest-init
unfolding encode_with
loop-rest-init g c = (refl, ([], refl, λ told. sinks_none _))

pub returns-in_err-put_piece-clause-delivered : goal.returns-in_err-put_piece-clause-delivered
returns-in_err-put_piece-clause-delivered g c = λ told.
    let so_far = c.loop-rest.invariant.1 in
    let p = err_from_is_err_and c.from_residual.result c.from_residual.ensures.1 in
    let parts = parts_of c.args.octets.now so_far.0 c.loop-rest.rest.now c.split_at.result.0.now c.split_at.result.1.now
    _
    so_far.1 c.split_at.ensures.front c.split_at.ensures.back in
    let cut = spelled_cut c.args.octets.now so_far.0 c.split_at.result.0.now c.split_at.result.1.now _ _ _ parts
    (so_far.2 told) (c.in_err-put_piece.ensures.delivered told) in
    rw p.1 cut

pub loop-rest-preserved : goal.loop-rest-preserved
loop-rest-preserved g c =
    let so_far = c.loop-rest.invariant.1 in (
      c.in_ok-put_piece.ensures.cause.stood ∙ c.loop-rest.invariant.0,
      (
        so_far.0 ++ c.split_at.result.0.now,
        parts_of c.args.octets.now so_far.0 c.loop-rest.rest.now c.split_at.result.0.now c.split_at.result.1.now _
            so_far.1 c.split_at.ensures.front c.split_at.ensures.back,
        λ told. spelled_more so_far.0 c.split_at.result.0.now _ _ _ (so_far.2 told)
            (c.in_ok-put_piece.ensures.delivered told),
      ),
    )
