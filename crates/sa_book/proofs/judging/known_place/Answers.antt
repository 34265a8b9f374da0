use Rattle.sa_book.proofs.Rows.{placed_if_there}
use Rattle.sa_book.proofs.judging.known_place.Goals as goal

pub unwrap-requires : goal.unwrap-requires
unwrap-requires c = rw c.position.ensures (placed_if_there c.args.rows.now c.args.spi c.requires)
