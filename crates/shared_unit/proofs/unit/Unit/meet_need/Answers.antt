use Rattle.shared_unit.proofs.Places.{there_place}
use Rattle.shared_unit.proofs.unit.Unit.meet_need.Goals as goal

pub row_in-row-requires : goal.row_in-row-requires
row_in-row-requires g c =
    record { there = there_place c.args.held.now.book.state.keys c.in-Look.key (rw c.in-Look.is at c.requires.names) }

pub row_in-row-requires-in-Raise : goal.row_in-row-requires-in-Raise
row_in-row-requires-in-Raise g c =
    record {
      there = there_place c.args.held.now.book.state.keys c.in-Raise.key (rw c.in-Raise.is at c.requires.names).0;
    }

pub draw_and_reserve-requires-clause-key : goal.draw_and_reserve-requires-clause-key
draw_and_reserve-requires-clause-key g c =
    there_place c.args.held.now.book.state.keys c.in-Number.key (rw c.in-Number.is at c.requires.names)
