use Rattle.std.proofs.Common.{Option, IfSome, subst}
use Rattle.key_book.specs.declared.table.Index.{Index}
use Rattle.key_book.specs.declared.key_row.KeyRow.{KeyRow}
use Rattle.key_book.specs.Table.{front, IsIndexApart}
use Rattle.key_book.proofs.Sorted.{digests_apart}
use Rattle.key_book.proofs.key_book.KeyBook.of_rows.Goals as goal

pub invariant_of-result : goal.invariant_of-result
invariant_of-result c =
    let both : IsIndexApart (λ (row : KeyRow). row.id) c.args.rows.items c.in-Some.by_id.entries.items
    × IsIndexApart (λ (row : KeyRow). front row.digest) c.args.rows.items c.in-Some.by_front.entries.items =
    rw (← c.deref.ensures.value) (subst (λ (found : Option (Index × Index)). IfSome found (λ indexes.
    IsIndexApart (λ (row : KeyRow). row.id) c.deref.result.now indexes.0.entries.items
    × IsIndexApart (λ (row : KeyRow). front row.digest) c.deref.result.now indexes.1.entries.items))
    c.in-Some.is c.in_ok-by_id.ensures) in (
      record {
        most = c.requires.most;
        rules = record {
          each = c.requires.each;
          identifiers = both.0.apart;
          digests = digests_apart c.args.rows.items both.1.apart;
        };
      },
      record { ids = both.0.index; fronts = both.1.index },
    )
