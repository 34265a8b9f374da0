use Rattle.std.proofs.Common.{rules, arith, length, ap, ◌∙◌, subst}
use Rattle.std.proofs.Common.{IsPermutation}
use Rattle.std.proofs.lemmas.List.Sorted.{IsNonDecreasingBy-from_sort_by_key}
use Rattle.key_book.proofs.Listed.{length-listed}
use Rattle.key_book.proofs.key_book.Inventory.of.Goals as goal

pub overflow_cast-total : goal.overflow_cast-total
overflow_cast-total c =
    let few = length-listed c.args.rows.now c.args.first c.args.last in
    let same = ap length c.in_ok-keys.ensures in
    omega (arith, few, same, c.in_ok-keys.keys.ok.0)

pub returns : goal.returns
returns c = record {
  total = c.len-total.ensures ∙ (omega (arith, c.in_ok-keys.keys.ok.0)) ∙ ap length c.in_ok-keys.ensures;
  sorted = c.sort_by_key.new.self.items;
  permutation = subst (λ keys. IsPermutation keys c.sort_by_key.new.self.items) c.in_ok-keys.ensures
      c.in_ok-sort_by_key.ensures.permutation;
  ascending = IsNonDecreasingBy-from_sort_by_key (λ key. key.0) _ c.in_ok-sort_by_key.ensures.sorted
      (λ a r q k. search rules);
  front = c.new.ensures ∙ c.truncate.ensures.items;
}
