use Rattle.std.proofs.Common.{◌≡◌, ℕ, ◌+◌, List, [], ◌∷◌, ◌++◌, length, take, sym, ap, ◌∙◌, subst, arith, All}
use Rattle.std.proofs.Common.{append_assoc}
use Rattle.std.proofs.lemmas.List.{flat_map_more, take_all, take_more}
use Rattle.std.proofs.lemmas.List.Elements.{All-push}
use Rattle.book_record.specs.KeyParts.{key_row_octets}
use Rattle.key_book.specs.declared.key_row.KeyRow.{KeyRow}
use Rattle.unit_image.specs.Content.{key_rows}
use Rattle.unit_image.specs.ContentReading.{IsTypedKey}
use Rattle.unit_image.proofs.RowsRead.{key_sized}
use Rattle.unit_image.proofs.rows.put_key_rows.Goals as goal

pub loop-row-preserved : goal.loop-row-preserved
loop-row-preserved c =
    let rows = c.args.rows.now in
    let i = c.loop-row.row-index in
    let row = c.row-item.result in
    let before = c.loop-row.invariant in
    let front = take c.args.at c.args.out.now in
    let spelled = c.spell_key_row.ensures.spelled in
    let more : take (i + 1) rows ≡ take i rows ++ row ∷ [] =
    take_more rows i row c.loop-row-test.true ∙ ap (λ (last : KeyRow). take i rows ++ last ∷ []) (sym c.row-item.is) in
    record {
      place = omega (
        arith,
        before.place,
        c.put-end.ensures.place,
        ap length spelled,
        key_sized row c.spell_key_row.ensures.types,
      );
      written = c.put-end.ensures.written
          ∙ ap (λ (s : List ℕ). s ++ c.spell_key_row.result) before.written
          ∙ ap (λ (s : List ℕ). (front ++ key_rows (take i rows)) ++ s) spelled
          ∙ append_assoc front (key_rows (take i rows)) (key_row_octets row)
          ∙ ap (λ (s : List ℕ). front ++ s) (flat_map_more key_row_octets [] (take i rows) row)
          ∙ ap (λ (all : List KeyRow). front ++ key_rows all) (sym more);
      types = subst (All IsTypedKey) (sym more)
          (All-push IsTypedKey (take i rows) row before.types c.spell_key_row.ensures.types);
    }

pub returns-clause-types : goal.returns-clause-types
returns-clause-types c =
    subst (All IsTypedKey) (take_all c.loop-row.row-index c.args.rows.now c.loop-row-test.false)
    c.loop-row.invariant.types
