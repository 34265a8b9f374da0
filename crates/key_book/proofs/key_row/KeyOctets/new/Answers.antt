use Rattle.std.proofs.Common.{refl}
use Rattle.key_book.proofs.Padded.{written}
use Rattle.key_book.proofs.key_row.KeyOctets.new.Goals as goal

pub invariant_of-result : goal.invariant_of-result
invariant_of-result c = rw c.copy_from_slice.ensures.after (written c.args.octets.now _ c.requires refl)
