use Rattle.std.proofs.Common.{◌≡◌, Some, None, sym, ◌∙◌}
use Rattle.key_book.specs.KeyRefusal.{place_with}
use Rattle.key_book.proofs.Judged.{named-place, named-nowhere}
use Rattle.key_book.proofs.refusals.twin_in.Goals as goal

pub returns-in_err-i : goal.returns-in_err-i
returns-in_err-i c =
    let nowhere : place_with c.args.table.now.rows.items c.args.own.now ≡ None =
    cc (c.in_err-i.was, c.place_with.ensures) in
    c.from_residual.ensures ∙ sym (named-nowhere c.args.table.now.rows.items c.args.own.now nowhere)

pub returns : goal.returns
returns c =
    let placed : place_with c.args.table.now.rows.items c.args.own.now ≡ Some c.in_ok-i.i =
    cc (c.in_ok-i.was, c.place_with.ensures) in
    sym (named-place c.args.table.now.rows.items c.args.own.now c.in_ok-i.i c.index.result.now placed c.index.ensures)
