use Rattle.std.proofs.Common.{rules, subst}
use Rattle.std.proofs.Common.{IsPermutation}
use Rattle.std.specs.Prelude.{map}
use Rattle.std.proofs.lemmas.List.Sorted.{IsNonDecreasingBy-from_sort_by_key, IsPermutation-map}
use Rattle.status_text.proofs.text.rows_by_identifier.Goals as goal

pub returns : goal.returns
returns c = record {
  same = subst (λ rows. IsPermutation rows (map (λ row. row.now) c.sort_by_key.new.self.items)) c.in_ok-found.ensures
      (IsPermutation-map (λ row. row.now) c.in_ok-found.found.items c.sort_by_key.new.self.items
      c.in_ok-sort_by_key.ensures.permutation);
  ascending = IsNonDecreasingBy-from_sort_by_key (λ row. row.now.id) _ c.in_ok-sort_by_key.ensures.sorted
      (λ a r q k. search rules);
}
