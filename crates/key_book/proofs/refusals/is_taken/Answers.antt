use Rattle.std.proofs.Common.{◌≡◌, true, false, ◌||◌, nat_eq, is_some, sym, ap, ◌∙◌}
use Rattle.std.specs.List.{list_any}
use Rattle.sdls_base.specs.declared.key_id.KeyItem.{KeyItem}
use Rattle.key_book.specs.KeyBook.{place_of}
use Rattle.key_book.proofs.Judged.{taken-among}
use Rattle.key_book.proofs.refusals.is_taken.Goals as goal

pub returns-then-is_some : goal.returns-then-is_some
returns-then-is_some c =
    let placed : is_some (place_of c.args.table.now.rows.items c.args.id) ≡ true = cc in
    c.if-is_some.true
    ∙ sym (taken-among c.args.table.now.rows.items c.args.done.now c.args.id
    ∙ ap (λ b. b || list_any (λ (item : KeyItem). nat_eq item.id c.args.id) c.args.done.now) placed)

pub returns-else-is_some : goal.returns-else-is_some
returns-else-is_some c =
    let placed : is_some (place_of c.args.table.now.rows.items c.args.id) ≡ false = cc in
    c.is_among.ensures
    ∙ sym (taken-among c.args.table.now.rows.items c.args.done.now c.args.id
    ∙ ap (λ b. b || list_any (λ (item : KeyItem). nat_eq item.id c.args.id) c.args.done.now) placed)
