use Rattle.key_book.proofs.Rows.{placed_if_there}
use Rattle.key_book.proofs.key_book.known_place.Goals as goal

pub unwrap-requires : goal.unwrap-requires
unwrap-requires c = rw c.place.ensures (placed_if_there c.args.table.now.rows.items c.args.id c.requires.there)
