use Rattle.std.proofs.Common.{◌≡◌, ◌+◌, ◌*◌, ◌-◌, ◌++◌}
use Rattle.std.specs.Prelude.{◌↔◌}
use Rattle.book_record.specs.Reading.{keys_in, AreKeys}
use Rattle.book_record.proofs.reading.keys.Given as goal

abbrev pub invariant-loop : goal.invariant-loop
invariant-loop l = record {
  place : l.at ≡ 5 + 2 * l.counter;
  may : AreKeys (l.count - l.counter) l.at l.body ↔ AreKeys l.count 5 l.body;
  read : l.keys.items ++ keys_in (l.count - l.counter) l.at l.body ≡ keys_in l.count 5 l.body;
}
