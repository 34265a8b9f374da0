use Rattle.std.proofs.Common.{◌≤◌, ◌+◌, vec_len}
use Rattle.record_io.proofs.spare.Spare.keep_records.Given as goal

abbrev pub invariant-records : goal.invariant-records
invariant-records l = record {
  none_lost : l.initial.self ≤ l.self;
  more : l.self + vec_len l.records ≤ l.initial.self + vec_len l.initial.records;
}

abbrev pub decreases-records : goal.decreases-records
decreases-records l = goal.left-records l
