use Rattle.std.proofs.Common.{◌≡◌, true, false, nat_eq, get_or, set, sym, ap, ◌∙◌}
use Rattle.std.specs.List.{list_any}
use Rattle.std.proofs.lemmas.List.Edits.{map_over_more}
use Rattle.key_book.specs.declared.key_row.KeyRow.{KeyRow}
use Rattle.key_book.proofs.Moved.{moved_row, moved_row-in, moved_row-out}
use Rattle.key_book.proofs.refusals.move_rows.Goals as goal
use Rattle.key_book.proofs.refusals.move_rows.Goals.{then-contains, else-contains}

pub loop-row-preserved : goal.loop-row-preserved
loop-row-preserved c =
    let row : KeyRow = get_or c.loop-row.row-items c.loop-row.row-index c.row-item.result in
    let more = map_over_more (moved_row c.args.ids.now c.args.to) c.deref_mut-row-items.result.now c.loop-row.row-items
    c.loop-row.row-index c.row-item.result c.loop-row-test.true c.loop-row.invariant c.row-item.is in
    elim c.if-contains.branch [
      | then-contains w ↦
          let test : list_any (λ id. nat_eq id row.id) c.args.ids.now ≡ true =
          sym c.contains.ensures.value ∙ w.if-contains.true in
          let new : w.enter.new.self ≡ moved_row c.args.ids.now c.args.to c.row-item.result =
          w.enter.ensures ∙ sym (moved_row-in c.args.ids.now c.args.to row test)
          ∙ ap (moved_row c.args.ids.now c.args.to) (sym c.row-item.is) in
          w.row-items-is ∙ ap (set c.loop-row.row-items c.loop-row.row-index) new ∙ more
      | else-contains w ↦
          let test : list_any (λ id. nat_eq id row.id) c.args.ids.now ≡ false =
          sym c.contains.ensures.value ∙ w.if-contains.false in
          let same : row ≡ moved_row c.args.ids.now c.args.to c.row-item.result =
          sym (moved_row-out c.args.ids.now c.args.to row test) ∙ ap (moved_row c.args.ids.now c.args.to)
          (sym c.row-item.is) in
          w.row-items-is ∙ ap (set c.loop-row.row-items c.loop-row.row-index) same ∙ more
    ]
