use Rattle.answer_text.proofs.Behind.{two_put, window_text}
use Rattle.answer_text.proofs.values.put_window.Goals as goal

pub returns : goal.returns
returns c =
    let high = c.number_at-high.result in
    let width = c.number_at-width.result in
    two_put _ _ _ _ _ _ c.in_ok-put_named.ensures c.in_ok-put_named-2.ensures
    (window_text c.args.form c.args.body.now high width c.number_at-high.ensures c.number_at-width.ensures)
