use Rattle.std.proofs.Common.{rules}
use Rattle.std.proofs.lemmas.List.Sorted.{answers_always}
use Rattle.key_book.specs.declared.table.Entry.{Entry}
use Rattle.key_book.proofs.Indexed.{searched}
use Rattle.key_book.proofs.table.Index.search.Goals as goal

pub returns : goal.returns
returns c =
    let facts = c.binary_search_by_key.ensures in
    let by_number = facts.position (λ (entry : Entry). entry.number)
    (answers_always _ _ _ (λ f a r g called. search rules)) in
    let found =
    rw c.deref.ensures.value at (searched _ c.args.number (rw c.deref.ensures.value c.requires) _ facts.bound
    by_number) in
    record { found = found.0; absent = found.1 }
