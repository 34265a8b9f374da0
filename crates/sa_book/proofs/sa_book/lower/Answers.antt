use Rattle.std.proofs.Common.{◌≡◌, cond, true, false, get_or, set, sym, ap, ◌∙◌}
use Rattle.std.proofs.lemmas.List.Edits.{map_over_more}
use Rattle.replay_window.specs.declared.window.Window.{Window}
use Rattle.sa_book.specs.declared.sa_book.SaRow.{SaRow}
use Rattle.sa_book.specs.SaRefusal.{receives_with}
use Rattle.sa_book.specs.Numbers.{with_floor}
use Rattle.sdls_base.proofs.Searches.{chosen, left_out}
use Rattle.sa_book.proofs.sa_book.lower.Goals as goal
use Rattle.sa_book.proofs.sa_book.lower.Goals.{then-receives_with, else-receives_with}

pub loop-row-preserved : goal.loop-row-preserved
loop-row-preserved c =
    let g : SaRow → SaRow = λ row. cond (receives_with c.args.key row) (with_floor row c.args.floor) row in
    let row : SaRow = get_or c.loop-row.row-items c.loop-row.row-index c.row-item.result in
    let more = map_over_more g c.deref_mut-row-items.result.now c.loop-row.row-items c.loop-row.row-index
    c.row-item.result c.loop-row-test.true c.loop-row.invariant c.row-item.is in
    elim c.if-receives_with.branch [
      | then-receives_with w ↦
          let test : receives_with c.args.key row ≡ true = sym c.receives_with.ensures ∙ w.if-receives_with.true in
          let new : with_floor row c.args.floor ≡ g c.row-item.result =
          sym (chosen _ (with_floor row c.args.floor) row test) ∙ ap g (sym c.row-item.is) in
          let is : c.if-receives_with.row-items ≡ set c.loop-row.row-items c.loop-row.row-index
          (record row { window = w.lower.new.self }) = w.row-items-is in
          is ∙ ap (λ (v : Window). set c.loop-row.row-items c.loop-row.row-index (record row { window = v }))
          w.lower.ensures
          ∙ ap (set c.loop-row.row-items c.loop-row.row-index) new ∙ more
      | else-receives_with w ↦
          let test : receives_with c.args.key row ≡ false = sym c.receives_with.ensures ∙ w.if-receives_with.false in
          let same : row ≡ g c.row-item.result =
          sym (left_out _ (with_floor row c.args.floor) row test) ∙ ap g (sym c.row-item.is) in
          w.row-items-is ∙ ap (set c.loop-row.row-items c.loop-row.row-index) same ∙ more
    ]
