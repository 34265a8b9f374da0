use Rattle.std.proofs.Common.{◌≡◌, ℕ, ◌-◌, List, [], ◌∷◌, ◌++◌, take, refl, sym, ap, ◌∙◌, subst, arith, All}
use Rattle.std.proofs.Common.{append_assoc}
use Rattle.std.proofs.lemmas.List.{flat_map_more, take-append-drop}
use Rattle.std.proofs.lemmas.List.Elements.{All-nil, All-push}
use Rattle.std.proofs.lemmas.Result.{err_from_is_err_and}
use Rattle.book_record.proofs.Rows.{one_key_row}
use Rattle.book_record.specs.KeyParts.{key_row_octets, AreKeyRowOctets}
use Rattle.key_book.specs.declared.key_row.KeyRow.{KeyRow}
use Rattle.unit_image.specs.Content.{key_rows}
use Rattle.unit_image.specs.ContentReading.{AreKeyRows, IsTypedKey}
use Rattle.unit_image.proofs.RowsRead.{SplitAt, head_of, split_more, whole_cause, key_sized}
use Rattle.unit_image.proofs.rows.key_rows.Goals as goal

pub loop-rest-init : goal.loop-rest-init
loop-rest-init c = rw c.in_ok-rows.ensures (record {
  each = All-nil IsTypedKey;
  put = refl;
  only = λ all are. record { others = all; split = refl; behind = are };
  whole = c.requires;
})

pub loop-rest-preserved : goal.loop-rest-preserved
loop-rest-preserved c =
    let rows = c.loop-rest.rows.items in
    let row = c.in_ok-key_row.field-0 in
    let first = c.split_at.result.0.now in
    let behind = c.split_at.result.1.now in
    let is = c.in_ok-key_row.ensures.found in
    let items = c.in_ok-push.ensures.items in
    let before = c.loop-rest.invariant in
    let joined : first ++ behind ≡ c.loop-rest.rest.now =
    ap (λ (s : List ℕ). s ++ behind) c.split_at.ensures.front ∙ ap (λ (s : List ℕ). take 96 c.loop-rest.rest.now ++ s)
    c.split_at.ensures.back
    ∙ take-append-drop 96 c.loop-rest.rest.now in
    record {
      each = subst (All IsTypedKey) (sym items)
          (All-push IsTypedKey rows row before.each
          (subst (AreKeyRowOctets row) is.spelled is));
      put = ap (λ (rows : List KeyRow). key_rows rows ++ behind) items
          ∙ ap (λ (s : List ℕ). s ++ behind) (sym (flat_map_more key_row_octets [] rows row))
          ∙ append_assoc (key_rows rows) (key_row_octets row) behind
          ∙ ap (λ (s : List ℕ). key_rows rows ++ s) (ap (λ (s : List ℕ). s ++ behind) (sym is.spelled) ∙ joined)
          ∙ before.put;
      only = λ all are.
          let s = before.only all are in
          let h = head_of key_row_octets AreKeyRowOctets 96 (omega arith) key_sized first behind
          (omega (arith, c.split_at.ensures.front_len)) s.others s.behind.each (joined ∙ s.behind.spelled) in
          let one = one_key_row row h.head first is h.is in
          subst (λ (rows : List KeyRow). SplitAt (λ others. AreKeyRows others behind) rows all) (sym items)
          (split_more (λ others. AreKeyRows others c.loop-rest.rest.now) (λ others. AreKeyRows others behind) rows all
          row s h.tail
          (h.rows_are ∙ ap (λ (head : KeyRow). head ∷ h.tail) (sym one))
          (record { each = h.each; spelled = h.spelled }));
      whole = (
        before.whole.0 - 1,
        omega (arith, before.whole.1, c.split_at.ensures.front_len, c.split_at.ensures.back_len),
      );
    }

pub returns-in_err-key_row-clause-fault : goal.returns-in_err-key_row-clause-fault
returns-in_err-key_row-clause-fault c =
    let p = err_from_is_err_and c.from_residual-in_err-key_row.result c.from_residual-in_err-key_row.ensures.1 in
    let first = c.split_at.result.0.now in
    let behind = c.split_at.result.1.now in
    let joined : first ++ behind ≡ c.loop-rest.rest.now =
    ap (λ (s : List ℕ). s ++ behind) c.split_at.ensures.front ∙ ap (λ (s : List ℕ). take 96 c.loop-rest.rest.now ++ s)
    c.split_at.ensures.back
    ∙ take-append-drop 96 c.loop-rest.rest.now in
    rw (p.1, p.2) (whole_cause c.in_err-key_row.field-0.0
    (λ none all are.
    let s = c.loop-rest.invariant.only all are in
    let h = head_of key_row_octets AreKeyRowOctets 96 (omega arith) key_sized first behind
    (omega (arith, c.split_at.ensures.front_len)) s.others s.behind.each (joined ∙ s.behind.spelled) in
    none h.head h.is)
    c.in_err-key_row.ensures.fault)
