use Rattle.std.specs.List.{All}
use Rattle.std.proofs.Common.{◌≡◌, ◌≢◌, ◌+◌, ◌-◌, ◌≤◌, [], length}
use Rattle.record_io.specs.declared.reader.RecordKind.TheVariants.{Monitor}
use Rattle.record_io.specs.declared.item_cursor.Record.{Record}
use Rattle.record_io.specs.Input.{items_octets}
use Rattle.record_io.specs.Steps.{AreNumbered, Took, items_of}
use Rattle.record_io.proofs.reader.Reader.read_items.Given as goal
use Rattle.record_io.specs.declared.reader.TheConstants.{SEGMENT_RECORDS}

abbrev pub invariant-items : goal.invariant-items
invariant-items g l =
    (length l.records.items ≤ SEGMENT_RECORDS)
    × AreNumbered l.initial.self.records l.records.items
    × (l.self.records ≡ l.initial.self.records + length l.records.items)
    × Took g.S.Source.told (items_of l.records.items) [] l.initial.self.taken (g.S.Source.left l.initial.source)
    (g.S.Source.left l.source)
    × (l.self.taken ≡ l.initial.self.taken + length (items_octets (items_of l.records.items)))
    × (g.S.Source.faults l.source ≡ g.S.Source.faults l.initial.source)
    × All (λ (r : Record). r.kind ≢ Monitor) l.records.items

abbrev pub decreases-items : goal.decreases-items
decreases-items g l = SEGMENT_RECORDS - length l.records.items
