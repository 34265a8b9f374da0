use Rattle.std.proofs.Common.{◌≡◌, ◌<◌, ℕ, ◌∙◌, sym, ap, map, length, get_or, arith}
use Rattle.std.proofs.lemmas.List.{get_or-map}
use Rattle.key_book.specs.declared.key_row.KeyRow.{KeyRow}
use Rattle.unit_book.specs.Book.{BookView}
use Rattle.shared_unit.proofs.Places.{some_row}
use Rattle.shared_unit.proofs.shared_book.SharedBookCounted.mark.Goals as goal

low : (m n l : ℕ) → n ≡ l → m < n → m < l
low m n l b h = omega arith

pub returns-then-row-rows : goal.returns-then-row-rows
returns-then-row-rows g c =
    let first : c.deref.result.now ≡ c.self.inside.book.value = c.deref.ensures in
    let second : c.deref-then-row-rows.result.now ≡ c.self.inside.book.value = c.deref-then-row-rows.ensures in
    let at : c.mark_at.result ≡ get_or (map (λ (held : KeyRow). held.mark) c.deref-then-row-rows.result.now.state.keys)
    c.from-row.result 1 =
    c.mark_at.ensures some_row
    ∙ sym (get_or-map (λ (held : KeyRow). held.mark) c.deref-then-row-rows.result.now.state.keys c.from-row.result
    some_row 1
    (low _ _ _ (c.rows.ensures ∙ ap (λ (b : BookView). length b.state.keys) (first ∙ sym second))
    c.if-row-rows.true)) in
    at ∙ ap (λ (r : ℕ). get_or (map (λ (held : KeyRow). held.mark) c.deref-then-row-rows.result.now.state.keys) r 1)
    c.from-row.ensures
    ∙ ap (λ (b : BookView). get_or (map (λ (held : KeyRow). held.mark) b.state.keys) c.args.row 1)
    (second ∙ c.self.view_is)
