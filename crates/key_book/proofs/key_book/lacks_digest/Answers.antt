use Rattle.key_book.proofs.Lacking.{no_digest, digest_nowhere, none_if_mapped, true_if_mapped}
use Rattle.key_book.specs.declared.key_row.KeyRow.{KeyRow}
use Rattle.key_book.proofs.key_book.lacks_digest.Goals as goal

pub returns : goal.returns
returns c = (
  λ t. no_digest c.args.book.now c.args.digest.now
      (none_if_mapped (λ (row : KeyRow). row.id) _ c.twin.result _ c.twin.ensures c.is_none.ensures t),
  λ all. true_if_mapped (λ (row : KeyRow). row.id) _ c.twin.result _ c.twin.ensures c.is_none.ensures
      (digest_nowhere c.args.book.now c.args.digest.now all),
)
