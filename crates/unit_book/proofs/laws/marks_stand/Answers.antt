use Rattle.unit_book.proofs.Places.{by_key}
use Rattle.unit_book.proofs.KeptLaws.{kept_places}
use Rattle.unit_book.proofs.laws.marks_stand.Goals as goal

pub returns-clause-places : goal.returns-clause-places
returns-clause-places c = λ told book kept none. kept.marks none

pub returns-clause-keys : goal.returns-clause-keys
returns-clause-keys c = λ told book key kept none.
    by_key book.start book.state key kept.rules (kept_places told book kept) (kept.marks none)
