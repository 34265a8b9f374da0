use Rattle.std.proofs.Common.{◌≡◌, ◌+◌, ◌-◌, ◌≤◌, ◌++◌, length, take, ap, ◌∙◌, arith, rules, length-append}
use Rattle.sdls_outside.proofs.Delivering.{sinks_trans}
use Rattle.text_streams.proofs.Writing.{copied_more}
use Rattle.text_streams.proofs.recording.copy.Goals as goal

pub returns-in_err-copy_piece-clause-sinks : goal.returns-in_err-copy_piece-clause-sinks
returns-in_err-copy_piece-clause-sinks g c = λ told.
    sinks_trans _ _ _ (c.pieces.invariant.4.2.sinks told).only_sinks (c.copy_piece.ensures.sinks told)

pub pieces-preserved : goal.pieces-preserved
pieces-preserved g c =
    let so_far = c.pieces.invariant.4 in
    let most = c.min-most.result in
    let room : length (take most c.pieces.room) ≡ most = search rules in
    let few : most ≤ c.args.len - c.pieces.copied = search rules in
    let low = c.pieces-test.true in
    let piece = c.in_ok-copy_piece.ensures.copied in
    let size : length piece.0 ≡ most = piece.1 ∙ room in
    let whole = length-append so_far.0 piece.0 in (
      omega arith,
      search rules,
      c.in_ok-copy_piece.ensures.stood.0 ∙ c.pieces.invariant.2,
      c.in_ok-copy_piece.ensures.stood.1 ∙ c.pieces.invariant.3,
      (
        so_far.0 ++ piece.0,
        whole ∙ ap (λ n. n + length piece.0) so_far.1 ∙ ap (λ n. c.pieces.copied + n) size,
        copied_more g.S.Source.told g.O.Site.told so_far.0 piece.0 _ _ _ _ _ _ so_far.2 piece.2,
      ),
    )
