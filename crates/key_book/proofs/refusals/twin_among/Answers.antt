use Rattle.std.proofs.Common.{◌≡◌, Some, None, sym, ◌∙◌}
use Rattle.std.specs.List.{position}
use Rattle.key_book.proofs.Judged.{with_digest, named-item, named-no_item}
use Rattle.key_book.proofs.refusals.twin_among.Goals as goal

pub returns-in_err-i : goal.returns-in_err-i
returns-in_err-i c =
    let nowhere : position (with_digest c.args.own.now) c.args.items.now ≡ None =
    cc (c.in_err-i.was, c.place.ensures) in
    c.from_residual.ensures ∙ sym (named-no_item c.args.items.now c.args.own.now nowhere)

pub returns : goal.returns
returns c =
    let placed : position (with_digest c.args.own.now) c.args.items.now ≡ Some c.in_ok-i.i =
    cc (c.in_ok-i.was, c.place.ensures) in
    rw (← c.index-items-i.is)
    (sym (named-item c.args.items.now c.args.own.now c.in_ok-i.i c.index-items-i.result placed c.index-items-i.is))
