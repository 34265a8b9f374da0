use Rattle.std.proofs.Common.{◌≡◌, length, All}
use Rattle.sdls_base.specs.declared.key_id.KeyItem.{KeyItem}
use Rattle.cases_books.proofs.keys.items.Given as goal

abbrev pub invariant-loop : goal.invariant-loop
invariant-loop l = All (λ (item : KeyItem). length item.bytes ≡ 16) l.items.items
