use Rattle.unit_book.proofs.NeedsKnown.{names_key}
use Rattle.unit_book.proofs.laws.needs_name_keys.Goals as goal

pub returns : goal.returns
returns c = λ state octets need rules is. names_key state octets need rules is
