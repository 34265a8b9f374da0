use Rattle.std.proofs.Common.{◌≡◌, ◌++◌, false, map, is_some, Some, None, sym, ap, ◌∙◌}
use Rattle.std.specs.Option.{option_map, option_or}
use Rattle.key_book.specs.declared.refusals.KeyRefusal.TheVariants.{DuplicateKey}
use Rattle.key_book.specs.KeyRow.{new_row}
use Rattle.key_book.specs.KeyBook.{row_of}
use Rattle.key_book.specs.KeyRefusal.{row_with}
use Rattle.key_book.proofs.Judged.{judged-free, named}
use Rattle.key_book.proofs.refusals.judge_item.Goals as goal

pub returns-in-Some : goal.returns-in-Some
returns-in-Some c =
    let free : is_some (row_of (c.args.table.now.rows.items ++ map new_row c.args.done.now) c.args.id) ≡ false =
    sym c.is_taken.ensures ∙ c.if-is_taken.false in
    let twins : option_or (named (row_with c.args.table.now.rows.items c.args.own.now))
    (named (row_with (map new_row c.args.done.now) c.args.own.now)) ≡ Some c.in-Some.id =
    cc (c.twin_in.ensures, c.twin_among.ensures, c.or.ensures, c.in-Some.is) in
    sym (judged-free c.args.table.now.rows.items c.args.done.now c.args.id c.args.own.now free
    ∙ ap (option_map DuplicateKey) twins)

pub returns-in-None : goal.returns-in-None
returns-in-None c =
    let free : is_some (row_of (c.args.table.now.rows.items ++ map new_row c.args.done.now) c.args.id) ≡ false =
    sym c.is_taken.ensures ∙ c.if-is_taken.false in
    let twins : option_or (named (row_with c.args.table.now.rows.items c.args.own.now))
    (named (row_with (map new_row c.args.done.now) c.args.own.now)) ≡ None =
    cc (c.twin_in.ensures, c.twin_among.ensures, c.or.ensures, c.in-None.is) in
    sym (judged-free c.args.table.now.rows.items c.args.done.now c.args.id c.args.own.now free
    ∙ ap (option_map DuplicateKey) twins)
