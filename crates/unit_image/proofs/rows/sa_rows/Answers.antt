use Rattle.std.proofs.Common.{◌≡◌, ℕ, ◌-◌, List, [], ◌∷◌, ◌++◌, take, refl, sym, ap, ◌∙◌, subst, arith, All}
use Rattle.std.proofs.Common.{append_assoc}
use Rattle.std.proofs.lemmas.List.{flat_map_more, take-append-drop}
use Rattle.std.proofs.lemmas.List.Elements.{All-nil, All-push}
use Rattle.std.proofs.lemmas.Result.{err_from_is_err_and}
use Rattle.sa_book.specs.declared.sa_book.SaRow.{SaRow}
use Rattle.unit_image.specs.Content.{sa_rows}
use Rattle.unit_image.specs.ContentReading.{IsRestartedRow, AreSaRows}
use Rattle.unit_image.proofs.RowsRead.{sa_octets, SplitAt, head_of, split_more, whole_cause, sa_sized, same_sa}
use Rattle.unit_image.proofs.rows.sa_rows.Goals as goal

pub loop-rest-init : goal.loop-rest-init
loop-rest-init c = rw c.new-rows.ensures.items (record {
  each = All-nil (λ (row : SaRow). (IsRestartedRow c.args.keys.now) row (sa_octets row));
  put = refl;
  only = λ all are. record { others = all; split = refl; behind = are };
  whole = c.requires;
})

pub loop-rest-preserved : goal.loop-rest-preserved
loop-rest-preserved c =
    let rows = c.loop-rest.rows.items in
    let row = c.in_ok-sa_row.field-0 in
    let first = c.split_at.result.0.now in
    let behind = c.split_at.result.1.now in
    let is = c.in_ok-sa_row.ensures.found in
    let items = c.in_ok-push.ensures.items in
    let before = c.loop-rest.invariant in
    let joined : first ++ behind ≡ c.loop-rest.rest.now =
    ap (λ (s : List ℕ). s ++ behind) c.split_at.ensures.front ∙ ap (λ (s : List ℕ). take 32 c.loop-rest.rest.now ++ s)
    c.split_at.ensures.back
    ∙ take-append-drop 32 c.loop-rest.rest.now in
    record {
      each = subst (All (λ (row : SaRow). (IsRestartedRow c.args.keys.now) row (sa_octets row))) (sym items)
          (All-push (λ (row : SaRow). (IsRestartedRow c.args.keys.now) row (sa_octets row)) rows row before.each
          (subst ((IsRestartedRow c.args.keys.now) row) is.is_row.spelled is));
      put = ap (λ (rows : List SaRow). sa_rows rows ++ behind) items
          ∙ ap (λ (s : List ℕ). s ++ behind) (sym (flat_map_more sa_octets [] rows row))
          ∙ append_assoc (sa_rows rows) (sa_octets row) behind
          ∙ ap (λ (s : List ℕ). sa_rows rows ++ s) (ap (λ (s : List ℕ). s ++ behind) (sym is.is_row.spelled) ∙ joined)
          ∙ before.put;
      only = λ all are.
          let s = before.only all are in
          let h = head_of sa_octets (IsRestartedRow c.args.keys.now) 32 (omega arith) (sa_sized c.args.keys.now) first
          behind (omega (arith, c.split_at.ensures.front_len)) s.others s.behind.each (joined ∙ s.behind.spelled) in
          let one = same_sa c.args.keys.now row h.head first is h.is in
          subst (λ (rows : List SaRow). SplitAt (λ others. AreSaRows c.args.keys.now others behind) rows all)
          (sym items)
          (split_more (λ others. AreSaRows c.args.keys.now others c.loop-rest.rest.now)
          (λ others. AreSaRows c.args.keys.now others behind) rows all row s h.tail
          (h.rows_are ∙ ap (λ (head : SaRow). head ∷ h.tail) (sym one))
          (record { each = h.each; spelled = h.spelled }));
      whole = (
        before.whole.0 - 1,
        omega (arith, before.whole.1, c.split_at.ensures.front_len, c.split_at.ensures.back_len),
      );
    }

pub returns-in_err-sa_row-clause-fault : goal.returns-in_err-sa_row-clause-fault
returns-in_err-sa_row-clause-fault c =
    let p = err_from_is_err_and c.from_residual.result c.from_residual.ensures.1 in
    let first = c.split_at.result.0.now in
    let behind = c.split_at.result.1.now in
    let joined : first ++ behind ≡ c.loop-rest.rest.now =
    ap (λ (s : List ℕ). s ++ behind) c.split_at.ensures.front ∙ ap (λ (s : List ℕ). take 32 c.loop-rest.rest.now ++ s)
    c.split_at.ensures.back
    ∙ take-append-drop 32 c.loop-rest.rest.now in
    rw (p.1, p.2) (whole_cause c.in_err-sa_row.field-0.0
    (λ none all are.
    let s = c.loop-rest.invariant.only all are in
    let h = head_of sa_octets (IsRestartedRow c.args.keys.now) 32 (omega arith) (sa_sized c.args.keys.now) first behind
    (omega (arith, c.split_at.ensures.front_len)) s.others s.behind.each (joined ∙ s.behind.spelled) in
    none h.head h.is)
    c.in_err-sa_row.ensures.fault)
