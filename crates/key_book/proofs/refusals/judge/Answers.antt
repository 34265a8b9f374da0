use Rattle.std.proofs.Common.{rules, ◌≡◌, List, Some, sym, ap, ◌∙◌}
use Rattle.key_book.specs.declared.key_row.KeyRow.{KeyRow}
use Rattle.key_book.specs.Moves.{moves_refusal}
use Rattle.key_book.proofs.Moved.{moved-none, judged_more, judged_fails}
use Rattle.key_book.proofs.refusals.judge.Goals as goal

pub loop-i-init : goal.loop-i-init
loop-i-init c =
    ap (λ (rows : List KeyRow). moves_refusal rows c.args.ids.now c.args.to c.args.in_use.now)
    (sym (moved-none c.args.table.now.rows.items c.args.to))

pub returns-in_err-judge_move : goal.returns-in_err-judge_move
returns-in_err-judge_move c =
    let first : moves_refusal c.args.table.now.rows.items c.args.ids.now c.args.to c.args.in_use.now
    ≡ Some c.in_err-judge_move.field-0.0 =
    c.loop-i.invariant ∙ judged_fails c.args.table.now.rows.items c.args.ids.now c.args.to c.args.in_use.now
    c.loop-i.i c.index-ids-i.result c.in_err-judge_move.field-0.0 c.loop-i-test.true c.index-ids-i.is
    (sym c.in_err-judge_move.ensures) in
    rw first (search rules)

pub loop-i-preserved : goal.loop-i-preserved
loop-i-preserved c =
    c.loop-i.invariant
    ∙ judged_more c.args.table.now.rows.items c.args.ids.now c.args.to c.args.in_use.now c.loop-i.i c.index-ids-i.result
    c.loop-i-test.true c.index-ids-i.is (sym c.in_ok-judge_move.ensures)
