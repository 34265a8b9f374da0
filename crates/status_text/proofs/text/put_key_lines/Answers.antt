use Rattle.std.proofs.Common.{◌≡◌, ◌++◌, ◌<◌, ◌+◌, ◌∷◌, ◌∙◌, [], ℕ, List, map, sym, ap, subst, take, drop}
use Rattle.std.proofs.Common.{append_assoc, Bor}
use Rattle.std.specs.List.{All}
use Rattle.std.proofs.lemmas.List.{at_drop_more, take_more, take_all}
use Rattle.std.proofs.lemmas.List.Elements.{All-push}
use Rattle.key_book.specs.declared.key_row.KeyRow.{KeyRow}
use Rattle.status_text.specs.Text.{key_line, key_lines}
use Rattle.status_text.proofs.Ascending.{lines_step}
use Rattle.status_text.proofs.text.put_key_lines.Goals as goal

-- the row that is seen has the identifier of a key
abbrev IsNumbered : Bor KeyRow → Type 0
IsNumbered row = (0 < row.now.id) × (row.now.id < 65536)

pub loop-row-preserved : goal.loop-row-preserved
loop-row-preserved c =
    let rows = c.args.rows.now in
    let i = c.loop-row.row-index in
    let row = c.row-item.result in
    let now : Bor KeyRow → KeyRow = λ seen. seen.now in
    let rest = drop (i + 1) rows in
    let text = c.loop-row.text.items in
    let left : key_lines (map now (drop i rows)) ≡ key_line row.now ++ key_lines (map now rest) =
    at_drop_more (λ (seen : List (Bor KeyRow)). key_lines (map now seen)) rows i row c.loop-row-test.true
    ∙ (ap (λ (seen : Bor KeyRow). key_lines (map now (seen ∷ rest))) (sym c.row-item.is)
    ∙ lines_step row.now (map now rest)) in
    record {
      put = ap (λ (put : List ℕ). put ++ key_lines (map now rest)) c.in_ok-put_key.ensures.put
          ∙ (append_assoc text (key_line row.now) (key_lines (map now rest))
          ∙ (ap (λ (lines : List ℕ). text ++ lines) (sym left) ∙ c.loop-row.invariant.put));
      numbered = subst (λ (seen : List (Bor KeyRow)). All IsNumbered seen)
          (sym (take_more rows i row c.loop-row-test.true
          ∙ ap (λ (seen : Bor KeyRow). take i rows ++ seen ∷ []) (sym c.row-item.is)))
          (All-push IsNumbered (take i rows) row c.loop-row.invariant.numbered c.in_ok-put_key.ensures.numbered);
    }

pub returns-clause-numbered : goal.returns-clause-numbered
returns-clause-numbered c =
    subst (λ (seen : List (Bor KeyRow)). All IsNumbered seen)
    (take_all c.loop-row.row-index c.args.rows.now c.loop-row-test.false)
    c.loop-row.invariant.numbered
