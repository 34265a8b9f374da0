use Rattle.std.proofs.Common.{◌≡◌, ◌+◌, ◌*◌, ◌-◌, ◌≤◌, ◌++◌}
use Rattle.std.specs.Prelude.{◌↔◌}
use Rattle.book_record.specs.Reading.{items_in, AreItems}
use Rattle.book_record.proofs.reading.items.Given as goal

abbrev pub invariant-loop : goal.invariant-loop
invariant-loop l = record {
  place : l.at ≤ 4 + 35 * l.counter;
  may : AreItems (l.count - l.counter) l.at l.body ↔ AreItems l.count 4 l.body;
  read : l.items.items ++ items_in (l.count - l.counter) l.at l.body ≡ items_in l.count 4 l.body;
}
