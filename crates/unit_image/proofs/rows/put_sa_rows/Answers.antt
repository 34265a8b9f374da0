use Rattle.std.proofs.Common.{◌≡◌, ℕ, ◌+◌, List, [], ◌∷◌, ◌++◌, length, take, sym, ap, ◌∙◌, subst, arith, All}
use Rattle.std.proofs.Common.{append_assoc}
use Rattle.std.proofs.lemmas.List.{flat_map_more, take_all, take_more}
use Rattle.std.proofs.lemmas.List.Elements.{All-push}
use Rattle.book_record.proofs.Rows.{sa_row_length}
use Rattle.book_record.specs.SaParts.{sa_parts}
use Rattle.sa_book.specs.declared.sa_book.SaRow.{SaRow}
use Rattle.unit_image.specs.Content.{sa_rows}
use Rattle.unit_image.specs.ContentReading.{IsTypedSa}
use Rattle.unit_image.proofs.RowsRead.{sa_octets}
use Rattle.unit_image.proofs.rows.put_sa_rows.Goals as goal

pub loop-row-preserved : goal.loop-row-preserved
loop-row-preserved c =
    let rows = c.args.rows.now in
    let i = c.loop-row.row-index in
    let row = c.row-item.result in
    let before = c.loop-row.invariant in
    let front = take c.args.at c.args.out.now in
    let spelled = c.spell_sa_row.ensures.spelled in
    let more : take (i + 1) rows ≡ take i rows ++ row ∷ [] =
    take_more rows i row c.loop-row-test.true ∙ ap (λ (last : SaRow). take i rows ++ last ∷ []) (sym c.row-item.is) in
    record {
      place = omega (
        arith,
        before.place,
        c.put-end.ensures.place,
        ap length spelled,
        sa_row_length (sa_parts row) (sa_octets row) c.spell_sa_row.ensures.types,
      );
      written = c.put-end.ensures.written
          ∙ ap (λ (s : List ℕ). s ++ c.spell_sa_row.result) before.written
          ∙ ap (λ (s : List ℕ). (front ++ sa_rows (take i rows)) ++ s) spelled
          ∙ append_assoc front (sa_rows (take i rows)) (sa_octets row)
          ∙ ap (λ (s : List ℕ). front ++ s) (flat_map_more sa_octets [] (take i rows) row)
          ∙ ap (λ (all : List SaRow). front ++ sa_rows all) (sym more);
      types = subst (All IsTypedSa) (sym more)
          (All-push IsTypedSa (take i rows) row before.types c.spell_sa_row.ensures.types);
    }

pub returns-clause-types : goal.returns-clause-types
returns-clause-types c =
    subst (All IsTypedSa) (take_all c.loop-row.row-index c.args.rows.now c.loop-row-test.false)
    c.loop-row.invariant.types
